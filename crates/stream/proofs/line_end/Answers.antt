use Rattle.stream.proofs.Blocks.{unended_none, unended_next}
use Rattle.stream.proofs.line_end.Goals as goal

pub loop-at-init : goal.loop-at-init
loop-at-init c = unended_none c.args.block.now c.args.from

pub loop-at-preserved : goal.loop-at-preserved
loop-at-preserved c = unended_next c.args.block.now c.args.from c.loop-at.at c.loop-at.auto.at c.loop-at-test.true c.loop-at.invariant c.if-block-at-eq10.false
