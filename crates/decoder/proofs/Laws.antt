-- What an accepted call hands on, and what a shot over the first entries leaves.
use Prim.Native.Nat.{ℕ, ◌≤◌}
use native.Mathlib.Omega.{arith}
use native.Mathlib.Nat.{zero-mul}
use mathlib.Core.Path.{◌≡◌, subst}
use mathlib.Core.List.{List}
use mathlib.Core.Bool.{Bool, true, ◌&&◌}
use lib.Dec.{leb}
use lib.Ieee.{Float}
use lib.ListN.{length}
use lib.Seq.{take_all}
use borrow.Author.Tests.{leb-true}
use Rattle.lists.proofs.Truth.{and_left, and_right}
use Rattle.bits.specs.Rows.{words}
use Rattle.packed.specs.Packed.{row_at}
use Rattle.steps.specs.Graph.{Graph}
use Rattle.steps.specs.Shot.{decode, row_left}
use Rattle.steps.specs.Call.{graph_of, lit_of, list_left}
use Rattle.adjacency.proofs.Parts.{part}
use Rattle.scratch.specs.Scratch.{scratch_long}
use Rattle.scratch.specs.Laws.{Long}
use Rattle.scratch.proofs.Laws.{scratch_long_lem}
use Rattle.lent_graph.specs.Call.{lent_of}
use Rattle.lent_graph.specs.Accepts.{Accepts}
use Rattle.shot.specs.declared.Shot.{Shot}
use Rattle.shot.specs.Shots.{Given, graph_in, shot_of}
use Rattle.shot.proofs.Longer.{graph_part}
use Rattle.decoder.specs.Answer.{Handed, own_long}

-- the row, the list and the scratch are long enough
pub own : (h : Handed) → own_long h ≡ true
    → (words h.graph.observables ≤ length h.row) × (h.graph.detectors ≤ length h.list) × Long h.graph.detectors h.graph.edges h.scratch
unfolding own_long
own h t =
    let rows = leb (words h.graph.observables) (length h.row) in
    let lists = leb h.graph.detectors (length h.list) in
    let scratch = scratch_long h.graph.detectors h.graph.edges h.scratch in
    let both = and_right rows (lists && scratch) t in (
      leb-true (words h.graph.observables) (length h.row) (and_left rows (lists && scratch) t),
      leb-true h.graph.detectors (length h.list) (and_left lists scratch both),
      scratch_long_lem h.graph.detectors h.graph.edges h.scratch (and_right lists scratch both),
    )

module _ {d o n : ℕ} {u v : List ℕ} {weight : List Float} {obs : List ℕ} {long : Bool} {shot : List ℕ} {width : ℕ} (a : Accepts (lent_of d o n u v weight obs) long shot 1 width) where
  -- the shot by itself is the row of shot 0
  row_0 : row_at (words d) shot 0 ≡ shot
  row_0 = rw (zero-mul (words d)) (take_all (words d) shot (omega (arith, a.rows_long)))

  pub given : (row list : List ℕ) → words o ≤ length row → d ≤ length list → Given d o shot row list
  given row list p q = record {
    shots = omega (arith, a.rows_long);
    clear = rw row_0 at (a.row_clear 0 (omega arith));
    rows = p;
    lists = q;
  }

-- what a shot leaves on the parts it leaves on the graph
pub parted : (d o n : ℕ) (u v : List ℕ) (weight : List Float) (obs shot list row : List ℕ) → n ≤ length u → {r : Shot} {list' row' : List ℕ}
    → r ≡ shot_of (decode (graph_in d o (part n u) (part n v) (part n weight) obs) (lit_of d shot))
    → list' ≡ list_left list (decode (graph_in d o (part n u) (part n v) (part n weight) obs) (lit_of d shot))
    → row' ≡ row_left (graph_in d o (part n u) (part n v) (part n weight) obs) row (decode (graph_in d o (part n u) (part n v) (part n weight) obs) (lit_of d shot))
    → (r ≡ shot_of (decode (graph_of d o n u v weight obs) (lit_of d shot))) × ((list' ≡ list_left list (decode (graph_of d o n u v weight obs) (lit_of d shot))) × (row' ≡ row_left (graph_of d o n u v weight obs) row (decode (graph_of d o n u v weight obs) (lit_of d shot))))
parted d o n u v weight obs shot list row h {r} {list'} {row'} p q s =
    let lit = lit_of d shot in
    subst (λ (g : Graph). (r ≡ shot_of (decode g lit)) × ((list' ≡ list_left list (decode g lit)) × (row' ≡ row_left g row (decode g lit)))) (graph_part d o n u v weight obs h) (p, (q, s))
