-- `counts::take_columns`: the first i rows are there.
use Rattle.counts.specs.Rows.{FirstRows}
use Rattle.counts.proofs.take_columns.Given as goal

abbrev pub invariant-loop-i : goal.invariant-loop-i
invariant-loop-i l = FirstRows l.i l.s l.out
