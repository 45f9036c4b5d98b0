-- `stream::feed_line`: too long, a part of a line, or a whole one.
use Prim.Native.Nat.{◌+◌}
use mathlib.Core.Path.{refl}
use native.Mathlib.Omega.{arith}
use Rattle.stream.proofs.Blocks.{copied}
use Rattle.stream.proofs.Places.{feed_long, feed_part, feed_whole, standing_kept}
use Rattle.stream.proofs.Wholes.{sizes_all, on_fits, whole_on, ended_fits, whole_ended}
use Rattle.stream.proofs.feed_line.Goals as goal

pub returns-then-line-p-clause-feeds : goal.returns-then-line-p-clause-feeds
returns-then-line-p-clause-feeds c = feed_long c.args.p _ _ _ _ _ _ c.line_end-end.ensures c.if-line-p.true _ _ c.refuse_long.ensures

pub returns-then-end-block-clause-feeds : goal.returns-then-end-block-clause-feeds
returns-then-end-block-clause-feeds c =
    let z = c.line_end-end.ensures in
    let k = copied c.args.line.now c.args.block.now _ c.args.p.used c.args.p.taken _ c.copy_from_slice.ensures.after z.after z.within (omega (arith, c.if-line-p.false, c.requires.2.at.placed.used, c.requires.2.at.placed.buffer)) in
    feed_part c.args.p _ _ _ _ _ _ z c.if-line-p.false _ k.long k.put c.if-end-block.true c.requires.0

pub overflow_add-result : goal.overflow_add-result
overflow_add-result c =
    let kept = standing_kept c.args.p _ _ _ _ _ c.requires.2 in
    omega (arith, ended_fits c.args.p _ _ (c.line_end-end.result + 1) _ _ _ _ _ _ _ (omega (arith, c.requires.1)) c.answer_line-told.ensures.answers c.answer_line-told.auto.out _ c.in-Break.is kept, c.well_formed.1.1.1.1.1)

pub overflow_add-result-in-Continue-2 : goal.overflow_add-result-in-Continue-2
overflow_add-result-in-Continue-2 c =
    let kept = standing_kept c.args.p _ _ _ _ _ c.requires.2 in
    omega (arith, on_fits c.args.p _ _ (c.line_end-end.result + 1) _ _ _ _ _ _ _ (omega (arith, c.requires.1)) c.answer_line-told.ensures.answers c.answer_line-told.auto.out _ c.in-Continue.is kept, c.well_formed.1.1.1.1.1)

pub returns-in-Break-clause-feeds : goal.returns-in-Break-clause-feeds
returns-in-Break-clause-feeds c =
    let z = c.line_end-end.ensures in
    let same = c.answer_line-told.ensures.same in
    let k = copied c.args.line.now c.args.block.now _ c.args.p.used c.args.p.taken _ c.copy_from_slice.ensures.after z.after z.within (omega (arith, c.if-line-p.false, c.requires.2.at.placed.used, c.requires.2.at.placed.buffer)) in
    feed_whole c.args.p _ _ _ _ _ _ z c.if-line-p.false _ k.long k.put (omega (arith, z.within, c.if-end-block.false)) _ refl _ _ _ _
    (whole_ended c.args.p _ _ (c.line_end-end.result + 1) _ _ _ _ _ _ _ (omega (arith, c.requires.1)) c.answer_line-told.ensures.answers c.answer_line-told.auto.out _ c.in-Break.is
    (sizes_all _ _ c.args.edges.now c.answer_line-told.new.edges same.0 same.1))
    c.requires.2

pub returns-in-Continue-clause-feeds : goal.returns-in-Continue-clause-feeds
returns-in-Continue-clause-feeds c =
    let z = c.line_end-end.ensures in
    let same = c.answer_line-told.ensures.same in
    let k = copied c.args.line.now c.args.block.now _ c.args.p.used c.args.p.taken _ c.copy_from_slice.ensures.after z.after z.within (omega (arith, c.if-line-p.false, c.requires.2.at.placed.used, c.requires.2.at.placed.buffer)) in
    feed_whole c.args.p _ _ _ _ _ _ z c.if-line-p.false _ k.long k.put (omega (arith, z.within, c.if-end-block.false)) _ refl _ _ _ _
    (whole_on c.args.p _ _ (c.line_end-end.result + 1) _ _ _ _ _ _ _ (omega (arith, c.requires.1)) c.answer_line-told.ensures.answers c.answer_line-told.auto.out _ c.in-Continue.is
    (sizes_all _ _ c.args.edges.now c.answer_line-told.new.edges same.0 same.1))
    c.requires.2
