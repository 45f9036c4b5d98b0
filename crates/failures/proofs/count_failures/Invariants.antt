-- `failures::count_failures` meets its contract. The invariant: those counted are the failures of the shots before this one.
use mathlib.Core.Path.{◌≡◌}
use Rattle.failures.specs.Failures.{failures_in}
use Rattle.failures.proofs.count_failures.Given as goal

abbrev pub invariant-loop-shot : goal.invariant-loop-shot
invariant-loop-shot l = l.failures ≡ failures_in l.observables l.shot l.out l.truth
