-- `clusters::merge` meets its contract. Assumes nothing.
use Prim.Native.Nat.{ℕ}
use mathlib.Core.Path.{◌≡◌}
use mathlib.Core.Bool.{Bool, true, false}
use lib.ListN.{get_or, take}
use lib.Seq.{slice}
use mathlib.Core.List.{List, [], ◌∷◌}
use lib.Ieee.{Float}
use Rattle.forest.specs.Forest.{labels}
use Rattle.steps.specs.Growth.{merge_all}
use Rattle.adjacency.specs.Adjacent.{weighted}
use Rattle.cells.specs.Tables.{parents, exits, odds, knowns, fresh, SameTree, SameFlags, SameStacks}
use Rattle.clusters.specs.Lent.{ReadyIn}
use Rattle.clusters.specs.Joins.{Covers, KeepsIn, all_set}
use Rattle.clusters.proofs.merge.Given as goal

abbrev pub invariant-loop-link : goal.invariant-loop-link
invariant-loop-link l = ReadyIn l.g l.tree l.flags l.stacks l.sat l.m × (all_set l.sat (slice l.link-index l.k (fresh l.links)) ≡ all_set l.initial.sat (take l.k (fresh l.links)))
    × ((ws : List Float) (lit : List Bool) → merge_all (weighted l.g.detectors l.g.edge_u.now l.g.edge_v.now ws) lit (labels l.g.detectors (parents l.tree)) (slice l.link-index l.k (fresh l.links)) ≡ merge_all (weighted l.g.detectors l.g.edge_u.now l.g.edge_v.now ws) lit (labels l.g.detectors (parents l.initial.tree)) (take l.k (fresh l.links)))
    × ((y : ℕ) → get_or (knowns l.initial.flags) y false ≡ true → get_or (knowns l.flags) y false ≡ true) × (Covers l.g.edge_u.now l.g.edge_v.now l.initial.sat (knowns l.initial.flags) → Covers l.g.edge_u.now l.g.edge_v.now l.sat (knowns l.flags))
    × KeepsIn l.g.detectors l.g.edge_u.now l.g.edge_v.now l.initial.sat (parents l.initial.tree) (odds l.initial.flags) (exits l.initial.tree) l.sat (parents l.tree) (odds l.flags) (exits l.tree)
    × SameTree (0 ∷ 1 ∷ []) l.initial.tree l.tree × SameFlags (1 ∷ 2 ∷ []) l.initial.flags l.flags × SameStacks (1 ∷ []) l.initial.stacks l.stacks
