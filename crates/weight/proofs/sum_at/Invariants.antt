-- `weight::sum_at` meets its contract. The invariant: the steps from here on give what they give from the start. Assumes nothing.
use mathlib.Core.Path.{◌≡◌}
use Rattle.weight.specs.Weight.{steps, sum_at}
use Rattle.weight.proofs.sum_at.Given as goal

-- i steps are left
abbrev pub invariant-loop-i : goal.invariant-loop-i
invariant-loop-i l = steps l.i l.s l.r ≡ sum_at l.s
