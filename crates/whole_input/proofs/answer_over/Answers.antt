use mathlib.Core.Path.{refl, ap}
use native.Mathlib.Omega.{arith}
use lib.ListN.{length-take}
use Rattle.std.specs.Prelude.{Some, None}
use Rattle.stream.specs.declared.Place.{Place}
use Rattle.whole_input.proofs.Outputs.{filled_first, over_answered, on_answered, on_filled, end_fits, end_answered}
use Rattle.whole_input.proofs.answer_over.Goals as goal

pub loop-p-init : goal.loop-p-init
loop-p-init c =
    (filled_first c.start-p.result c.start-p.ensures _ _ c.args.input.now c.args.line.now c.args.reply.now c.args.out.now c.requires, ap (λ (x : Place). x.filled) c.start-p.ensures)

pub returns-in-Break : goal.returns-in-Break
returns-in-Break c = over_answered c.args.input.now c.loop-p.p c.loop-p.at _ _ c.loop-p.line c.loop-p.reply c.args.out.now c.loop-p.out c.loop-p.invariant.0 _ _ c.feed-fed.new.line c.feed-fed.new.out c.loop-p.invariant.1 _ c.in-Break.ensures.feeds.0 _ _ c.put.ensures

pub returns-in_err-at-in-Continue : goal.returns-in_err-at-in-Continue
returns-in_err-at-in-Continue c = rw c.from_residual.ensures (on_answered c.args.input.now c.loop-p.p c.loop-p.at _ _ c.loop-p.line c.loop-p.reply c.args.out.now c.loop-p.out c.loop-p.invariant.0 _ _ c.feed-fed.new.line c.feed-fed.new.out c.loop-p.invariant.1 _ c.in-Continue.ensures.feeds.0 None _ c.in_err-at-in-Continue.ensures refl)

pub loop-p-preserved : goal.loop-p-preserved
loop-p-preserved c = (on_filled c.args.input.now c.loop-p.p c.loop-p.at _ _ c.loop-p.line c.loop-p.reply c.args.out.now c.loop-p.out c.loop-p.invariant.0 _ _ c.feed-fed.new.line c.feed-fed.new.out c.loop-p.invariant.1 _ c.in-Continue.ensures.feeds.0 (Some c.in_ok-at-in-Continue.at) _ c.in_ok-at-in-Continue.ensures _ refl, refl)

pub slice_bounds-put-end-2 : goal.slice_bounds-put-end-2
slice_bounds-put-end-2 c = omega (arith, end_fits c.args.input.now c.loop-p.p c.loop-p.at _ _ c.loop-p.line c.loop-p.reply c.args.out.now c.loop-p.out c.loop-p.invariant.0 c.loop-p-test.false c.finish-n.result _ _ c.finish-n.new.out c.finish-n.ensures.finishes c.finish-n.auto.out, c.finish-n.auto.out)

pub slice_bounds-put-end-3 : goal.slice_bounds-put-end-3
slice_bounds-put-end-3 c = omega (arith, end_fits c.args.input.now c.loop-p.p c.loop-p.at _ _ c.loop-p.line c.loop-p.reply c.args.out.now c.loop-p.out c.loop-p.invariant.0 c.loop-p-test.false c.finish-n.result _ _ c.finish-n.new.out c.finish-n.ensures.finishes c.finish-n.auto.out, c.finish-n.auto.out, length-take c.finish-n.result c.finish-n.new.out)

pub returns : goal.returns
returns c = end_answered c.args.input.now c.loop-p.p c.loop-p.at _ _ c.loop-p.line c.loop-p.reply c.args.out.now c.loop-p.out c.loop-p.invariant.0 c.loop-p-test.false c.finish-n.result _ _ c.finish-n.new.out c.finish-n.ensures.finishes c.finish-n.auto.out _ _ c.put-2.ensures
