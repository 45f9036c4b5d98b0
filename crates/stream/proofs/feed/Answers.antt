-- `stream::feed`: line after line.
use mathlib.Core.Path.{refl}
use mathlib.Core.Logic.{inl}
use lib.ListN.{length}
use Rattle.edges.proofs.Lent.{edges_none, edges_then}
use Rattle.reader.proofs.Lent.{same_none, same_then}
use Rattle.stream.proofs.Places.{going_first, going_on, going_over, moved_on, pressed_over}
use Rattle.stream.proofs.feed.Goals as goal

pub loop-p-init : goal.loop-p-init
loop-p-init c = (going_first c.args.from _ _ _ _ _, inl refl, (same_none c.args.read.now, edges_none c.args.edges.now))

pub returns-in_err-p-clause-feeds : goal.returns-in_err-p-clause-feeds
returns-in_err-p-clause-feeds c =
    rw c.from_residual.ensures
    (going_over c.args.from _ _ _ _ _ c.loop-p.p _ _ _ _ c.loop-p.invariant.0 _ _ _ c.feed_line.new.line _ c.in_err-p.ensures.feeds.0, pressed_over c.args.from _ c.args.block.now (length c.args.out.now))

pub loop-p-preserved : goal.loop-p-preserved
loop-p-preserved c =
    let same = c.in_ok-p.ensures.same in (
      going_on c.args.from _ _ _ _ _ c.loop-p.p _ _ _ _ c.loop-p.invariant.0 _ _ _ _ _ c.in_ok-p.ensures.feeds.0,
      moved_on c.args.from c.loop-p.p _ c.loop-p.invariant.1 (c.in_ok-p.ensures.feeds.1 _ refl),
      (same_then c.loop-p.invariant.2.0 same.0, edges_then c.loop-p.invariant.2.1 same.1),
    )
