-- `growing::grow` meets its contract. The invariant: the growths with the edges from i on moved, and what is listed with what those add, are the answer.
use Prim.Native.Nat.{◌≤◌}
use mathlib.Core.Path.{◌≡◌}
use mathlib.Core.List.{[], ◌∷◌, ◌++◌}
use lib.ListN.{take}
use lib.Seq.{slice}
use Rattle.cells.specs.Tables.{touched, cnt, fresh, SameLinks}
use Rattle.growing.specs.Growing.{grow_in, ripe_in}
use Rattle.growing.proofs.grow.Given as goal

abbrev pub invariant-loop-i : goal.invariant-loop-i
invariant-loop-i l = record {
  few : l.k ≤ l.i;
  rest : SameLinks (2 ∷ []) l.initial.links l.links;
  grows : grow_in l.step l.growth (slice l.i l.m (touched l.initial.links)) (slice l.i l.m (cnt l.initial.links)) ≡ grow_in l.step l.initial.growth (take l.m (touched l.initial.links)) (take l.m (cnt l.initial.links));
  ripe : take l.k (fresh l.links) ++ ripe_in l.step l.edge_weight l.growth (slice l.i l.m (touched l.initial.links)) (slice l.i l.m (cnt l.initial.links)) ≡ ripe_in l.step l.edge_weight l.initial.growth (take l.m (touched l.initial.links)) (take l.m (cnt l.initial.links));
}
