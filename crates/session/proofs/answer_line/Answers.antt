-- `session::answer_line`: the line read, then answered by its kind.
use mathlib.Core.Path.{refl}
use Rattle.frames.specs.Frames.{kind_byte}
use Rattle.session.proofs.Lines.{same_of, line_some, line_refused, line_next}
use Rattle.session.proofs.answer_line.Goals as goal

pub answer_kind-requires : goal.answer_kind-requires
answer_kind-requires c =
    let same = same_of c.args.read.now c.read_line.new.read c.read_line.ensures.same in
    (c.requires.0, line_some c.args.line.now c.args.n _ _ (kind_byte c.in-Ok.kind) c.in-Ok.ensures.kind _ _ c.in-Ok.ensures.reads c.requires.1 _ refl same)

pub returns-in-Err-clause-answers : goal.returns-in-Err-clause-answers
returns-in-Err-clause-answers c = line_refused c.args.line.now c.args.n _ _ _ refl _ _ c.in-Err.ensures.reads _ refl _ c.args.out.now _ c.refuse.ensures

pub returns-in-Ok-clause-answers : goal.returns-in-Ok-clause-answers
returns-in-Ok-clause-answers c =
    let same = same_of c.args.read.now c.read_line.new.read c.read_line.ensures.same in
    line_next c.args.line.now c.args.n _ _ (kind_byte c.in-Ok.kind) c.in-Ok.ensures.kind _ _ c.in-Ok.ensures.reads _ refl same _ _ c.args.out.now _ c.answer_kind.ensures.answers
