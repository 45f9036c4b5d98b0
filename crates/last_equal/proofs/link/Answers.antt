-- `last_equal::link`: the mechanism is the last of the chain of its first detector.
use Rattle.last_equal.proofs.Chain.{linked_below, linked_past, linked_head}
use Rattle.last_equal.proofs.link.Goals as goal

pub bounds-last_of-d : goal.bounds-last_of-d
bounds-last_of-d c = linked_below _ _ _ _ _ _ c.requires c.if-lists-k-gt0.true

pub bounds-last_of-d-then-lists-k-gt0 : goal.bounds-last_of-d-then-lists-k-gt0
bounds-last_of-d-then-lists-k-gt0 c = linked_below _ _ _ _ _ _ c.requires c.if-lists-k-gt0.true

pub returns-then-lists-k-gt0 : goal.returns-then-lists-k-gt0
returns-then-lists-k-gt0 c = linked_head _ _ _ _ _ _ c.requires c.if-lists-k-gt0.true

pub returns-else-lists-k-gt0 : goal.returns-else-lists-k-gt0
returns-else-lists-k-gt0 c = linked_past _ _ _ _ _ _ c.requires c.if-lists-k-gt0.false
