-- `replay::run`: no more cases are wrong than there were.
use Rattle.std.proofs.Common.{◌≤◌}
use Rattle.replay.proofs.run.Given as goal

abbrev pub invariant-loop-cases : goal.invariant-loop-cases
invariant-loop-cases g l = l.wrong ≤ l.cases-counter
