use mathlib.Core.Path.{sym}
use Rattle.marking.proofs.Meeting.{start, unknown, repeated, turn}
use Rattle.marking.proofs.meet.Goals as goal

pub loop-e-init : goal.loop-e-init
loop-e-init c =
    rw (c.into_iter-e-iterator.ensures.into_iter_gives, c.rev-e-items.ensures.source, c.iter.ensures.rest)
    (start _ _ _ _ _ _ _)

pub returns-then-g-e-clause-known : goal.returns-then-g-e-clause-known
returns-then-g-e-clause-known c =
    sym (unknown _ _ _ _ _ _ _ c.requires _ _ _ _ _ c.loop-e.invariant c.in-Some.ensures.steps c.if-g-e.true)

pub returns-then-get-clause-known : goal.returns-then-get-clause-known
returns-then-get-clause-known c =
    sym (repeated _ _ _ _ _ _ _ c.requires _ _ _ _ _ c.loop-e.invariant c.in-Some.ensures.steps (sym c.if-get.ensures))

pub loop-e-preserved : goal.loop-e-preserved
loop-e-preserved c =
    turn _ _ _ _ _ _ _ c.requires _ _ _ _ _ c.loop-e.invariant c.in-Some.ensures.steps _ _ c.if-g-e.false (sym c.if-get.ensures) c.set.ensures c.flip_ends.ensures
