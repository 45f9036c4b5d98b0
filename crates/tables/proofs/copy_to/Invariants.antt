-- `tables::copy_to`: the first i entries are copied.
use mathlib.Core.Path.{◌≡◌}
use lib.ListN.{length}
use lib.Seq.{paste}
use Rattle.tables.proofs.copy_to.Given as goal

abbrev pub invariant-loop-i : goal.invariant-loop-i
invariant-loop-i g l = (length l.out ≡ length l.initial.out) × (l.out ≡ paste l.initial.out l.at l.from l.i)
