-- `last_equal::same_list`: the entries from i on are equal just where all are.
use mathlib.Core.Path.{◌≡◌}
use lib.ListN.{length, drop}
use Rattle.dem.specs.Decompose.{same_list}
use Rattle.last_equal.proofs.same_list.Given as goal

abbrev pub invariant-loop-i : goal.invariant-loop-i
invariant-loop-i l = (length l.a ≡ length l.b) × (same_list (drop l.i l.a) (drop l.i l.b) ≡ same_list l.a l.b)
