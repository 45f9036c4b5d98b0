-- `input_end::finish`: the end, behind the answer to a last line that is begun.
use native.Mathlib.Omega.{arith}
use lib.ListN.{length-take}
use Rattle.input_end.proofs.Ends.{end_only, after_long, end_refused, end_few, end_failures, end_room, end_on}
use Rattle.input_end.proofs.finish.Goals as goal

pub returns-then-used-eq0-clause-finishes : goal.returns-then-used-eq0-clause-finishes
returns-then-used-eq0-clause-finishes c = end_only c.args.numbers _ _ c.args.line.now c.args.used _ c.args.out.now _ c.if-used-eq0.true c.write_end.ensures

pub slice_bounds-answer_line-end-3 : goal.slice_bounds-answer_line-end-3
slice_bounds-answer_line-end-3 c = omega (arith, length-take 1066 c.args.out.now, c.requires.0)

pub answer_line-told-requires : goal.answer_line-told-requires
answer_line-told-requires c = (omega (arith, length-take 1066 c.args.out.now, c.requires.0), c.requires.3)

pub slice_bounds-write_end-count : goal.slice_bounds-write_end-count
slice_bounds-write_end-count c = omega (arith, end_few c.args.numbers _ _ c.args.line.now c.args.used c.args.out.now c.answer_line-told.new.out c.answer_line-told.result _ _ c.requires.2 c.if-used-eq0.false c.requires.1 c.requires.0 c.answer_line-told.ensures.answers c.answer_line-told.auto.out _ c.in-Continue.is c.requires.3, after_long c.args.numbers _ _ c.args.line.now c.args.used c.args.out.now c.answer_line-told.new.out c.answer_line-told.result _ _ c.requires.2 c.if-used-eq0.false c.requires.1 c.requires.0 c.answer_line-told.ensures.answers c.answer_line-told.auto.out, c.requires.0)

pub slice_bounds-write_end-start : goal.slice_bounds-write_end-start
slice_bounds-write_end-start c = omega (arith, end_few c.args.numbers _ _ c.args.line.now c.args.used c.args.out.now c.answer_line-told.new.out c.answer_line-told.result _ _ c.requires.2 c.if-used-eq0.false c.requires.1 c.requires.0 c.answer_line-told.ensures.answers c.answer_line-told.auto.out _ c.in-Continue.is c.requires.3, after_long c.args.numbers _ _ c.args.line.now c.args.used c.args.out.now c.answer_line-told.new.out c.answer_line-told.result _ _ c.requires.2 c.if-used-eq0.false c.requires.1 c.requires.0 c.answer_line-told.ensures.answers c.answer_line-told.auto.out, c.requires.0)

pub write_end-requires-in-Continue : goal.write_end-requires-in-Continue
write_end-requires-in-Continue c = (end_failures c.args.numbers _ _ c.args.line.now c.args.used c.args.out.now c.answer_line-told.new.out c.answer_line-told.result _ _ c.requires.2 c.if-used-eq0.false c.requires.1 c.requires.0 c.answer_line-told.ensures.answers c.answer_line-told.auto.out _ c.in-Continue.is c.requires.3, end_room c.args.numbers _ _ c.args.line.now c.args.used c.args.out.now c.answer_line-told.new.out c.answer_line-told.result _ _ c.requires.2 c.if-used-eq0.false c.requires.1 c.requires.0 c.answer_line-told.ensures.answers c.answer_line-told.auto.out _ c.in-Continue.is c.requires.3)

pub returns-in-Break-clause-finishes : goal.returns-in-Break-clause-finishes
returns-in-Break-clause-finishes c = end_refused c.args.numbers _ _ c.args.line.now c.args.used c.args.out.now c.answer_line-told.new.out c.answer_line-told.result _ _ c.requires.2 c.if-used-eq0.false c.requires.1 c.requires.0 c.answer_line-told.ensures.answers c.answer_line-told.auto.out _ c.in-Break.is

pub returns-in-Continue-clause-finishes : goal.returns-in-Continue-clause-finishes
returns-in-Continue-clause-finishes c = end_on c.args.numbers _ _ c.args.line.now c.args.used c.args.out.now c.answer_line-told.new.out c.answer_line-told.result _ _ c.requires.2 c.if-used-eq0.false c.requires.1 c.requires.0 c.answer_line-told.ensures.answers c.answer_line-told.auto.out _ c.in-Continue.is _ _ c.write_end-in-Continue.ensures
