-- `session::answer_kind`: 04, 06, or nothing to tell.
use mathlib.Core.Path.{ap}
use Rattle.frames.specs.Frames.{kind_byte}
use Rattle.reader.specs.Lent.{columns_in}
use Rattle.edges.proofs.Lent.{edges_none}
use Rattle.reader.proofs.Parts.{truth_is}
use Rattle.session.proofs.ByKind.{some_shot, by_model, by_shot, quiet_kind, by_other}
use Rattle.session.proofs.answer_kind.Goals as goal

pub answer_shot-requires : goal.answer_shot-requires
answer_shot-requires c =
    let six = ap kind_byte c.in-Truth.is in
    (c.requires.0, rw (truth_is c.args.read.now.shot.now) (some_shot (kind_byte c.args.kind) c.args.n c.args.state _ _ six c.requires.1))

pub returns-in-End-clause-answers : goal.returns-in-End-clause-answers
returns-in-End-clause-answers c = by_model (kind_byte c.args.kind) c.args.n c.args.state _ _ (ap kind_byte c.in-End.is) _ _ c.args.out.now _ c.answer_model.ensures.answers

pub returns-in-Truth-clause-answers : goal.returns-in-Truth-clause-answers
returns-in-Truth-clause-answers c =
    by_shot (kind_byte c.args.kind) c.args.n c.args.state (columns_in c.args.read.now) c.args.edges.now (ap kind_byte c.in-Truth.is) _ c.args.out.now _
    (rw (truth_is c.args.read.now.shot.now) at c.answer_shot.ensures)

pub returns-in-Header : goal.returns-in-Header
returns-in-Header c =
    let quiet = quiet_kind c.args.kind c.in-Header.is in
    record { answers = by_other (kind_byte c.args.kind) c.args.n c.args.state _ _ quiet.0 quiet.1 c.args.out.now; same = edges_none c.args.edges.now }
