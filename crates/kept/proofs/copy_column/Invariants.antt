-- `kept::copy_column`: the first i mechanisms are done.
use Rattle.std.proofs.Common.{◌≤◌, get_or}
use Rattle.kept.proofs.Copying.{Copying}
use Rattle.kept.proofs.copy_column.Given as goal

abbrev pub invariant-loop-i : goal.invariant-loop-i
invariant-loop-i g l = record {
  few : l.at ≤ l.i;
  done : (z : g.row.T.Denot) → Copying l.model.detector_counts.now (λ k. get_or l.column k z) l.initial.out l.i l.at l.out;
}
