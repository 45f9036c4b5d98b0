use Rattle.last_equal.proofs.Chain.{walk_first, walk_begin, walk_smaller, walk_next, walk_hit, walk_end}
use Rattle.last_equal.proofs.find_last.Goals as goal

pub bounds-last_of-d : goal.bounds-last_of-d
bounds-last_of-d c = walk_first _ _ _ _ _ _ _ _ c.requires

pub loop-next-init : goal.loop-next-init
loop-next-init c = walk_begin _ _ _ _ _ _ _ _ c.requires

pub returns-then-same_at : goal.returns-then-same_at
returns-then-same_at c = walk_hit _ _ _ _ _ _ _ _ c.requires _ c.loop-next.invariant c.loop-next-test.true c.if-same_at.ensures

pub loop-next-smaller : goal.loop-next-smaller
loop-next-smaller c = walk_smaller _ _ _ _ _ _ _ _ c.requires _ c.loop-next.invariant c.loop-next-test.true

pub loop-next-preserved : goal.loop-next-preserved
loop-next-preserved c = walk_next _ _ _ _ _ _ _ _ c.requires _ c.loop-next.invariant c.loop-next-test.true c.if-same_at.ensures

pub returns : goal.returns
returns c = walk_end _ _ _ _ _ _ _ _ c.requires _ c.loop-next.invariant c.loop-next-test.false
