-- `model_check::probabilities`: the first i entries are done.
use mathlib.Core.Path.{◌≡◌}
use Rattle.model_check.specs.ModelCheck.{from_bits}
use Rattle.model_check.proofs.probabilities.Given as goal

abbrev pub invariant-loop-i : goal.invariant-loop-i
invariant-loop-i l = l.out ≡ from_bits l.i l.bits l.initial.out
