-- `limit_runs::entries`: byte by byte, the entry that is written is in the table.
use Rattle.std.proofs.Common.{◌<◌}
use Rattle.limit_runs.proofs.entries.Given as goal

abbrev pub invariant-loop-b : goal.invariant-loop-b
invariant-loop-b g l = l.n < g.row.N
