-- `limit_runs::read_full`: what was read is within the text.
use Rattle.std.proofs.Common.{◌≤◌, length}
use Rattle.limit_runs.proofs.read_full.Given as goal

abbrev pub invariant-loop : goal.invariant-loop
invariant-loop g l = l.n ≤ length l.text
