-- What the shots leave on the first entries of a graph's tables they leave on the graph.
use Rattle.codes.specs.Order.{Checked}
use Prim.Native.Nat.{ℕ}
use mathlib.Core.Path.{◌≡◌, subst}
use mathlib.Core.List.{List}
use lib.Ieee.{Float}
use Rattle.lists.specs.Lists.{below}
use Rattle.steps.specs.Graph.{Graph}
use Rattle.steps.specs.Call.{graph_of}
use Rattle.adjacency.specs.declared.Neighbor.{Neighbor}
use Rattle.adjacency.proofs.Parts.{part}
use Rattle.shot.specs.Shots.{graph_in}
use Rattle.shot.specs.Longer.{Longer}
use Rattle.shot.proofs.Longer.{graph_part}
use Rattle.batch_rows.specs.Rows.{check_shots_of, rows_of}

pub parted : {d o n : ℕ} {u v : List ℕ} {weight : List Float} {obs off : List ℕ} {adj : List Neighbor} → Longer d o n u v weight obs off adj → (rows out : List ℕ) (shots : ℕ) {r : Checked} {out' : List ℕ}
    → (r ≡ check_shots_of (graph_in d o (part n u) (part n v) (part n weight) obs) rows (below shots)) × (out' ≡ rows_of (graph_in d o (part n u) (part n v) (part n weight) obs) rows (below shots) out)
    → (r ≡ check_shots_of (graph_of d o n u v weight obs) rows (below shots)) × (out' ≡ rows_of (graph_of d o n u v weight obs) rows (below shots) out)
parted {d} {o} {n} {u} {v} {weight} {obs} t rows out shots {r} {out'} k =
    subst (λ (g : Graph). (r ≡ check_shots_of g rows (below shots)) × (out' ≡ rows_of g rows (below shots) out)) (graph_part d o n u v weight obs t.firsts) k
