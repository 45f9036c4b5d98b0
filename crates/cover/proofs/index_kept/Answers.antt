use Rattle.std.proofs.Common.{◌-◌, length, arith}
use Rattle.cover.specs.Lent.{detectors_of}
use Rattle.cover.proofs.Chain.{head_below, link_begin, link_past, link_head, linked_all}
use Rattle.cover.proofs.index_kept.Goals as goal

pub loop-k-init : goal.loop-k-init
loop-k-init c = link_begin (detectors_of c.args.lists.now) c.args.kept (length c.args.first_of.now) _ _ (c.fill.ensures.after (λ y e. e))

pub bounds-first_of-d : goal.bounds-first_of-d
bounds-first_of-d c = omega (arith, head_below _ _ _ _ _ (c.loop-k.k - 1) c.requires.0 (omega arith) c.if-lists-k-gt0.true)

pub bounds-first_of-d-then-lists-k-gt0 : goal.bounds-first_of-d-then-lists-k-gt0
bounds-first_of-d-then-lists-k-gt0 c = omega (arith, head_below _ _ _ _ _ (c.loop-k.k - 1) c.requires.0 (omega arith) c.if-lists-k-gt0.true)

pub loop-k-preserved-then-lists-k-gt0 : goal.loop-k-preserved-then-lists-k-gt0
loop-k-preserved-then-lists-k-gt0 c = link_head _ _ _ _ _ _ c.requires.0 _ _ c.loop-k-test.true (omega arith) c.loop-k.invariant (omega arith) (omega (arith, c.requires.1)) c.if-lists-k-gt0.true

pub loop-k-preserved : goal.loop-k-preserved
loop-k-preserved c = link_past _ _ _ _ _ _ c.requires.0 _ _ c.loop-k-test.true (omega arith) c.loop-k.invariant c.if-lists-k-gt0.false

pub returns : goal.returns
returns c = linked_all _ _ _ _ _ (omega arith) c.loop-k.invariant
