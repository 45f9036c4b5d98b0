-- `failures::row_differs` meets its contract: rows with clear padding differ where their words do.
use mathlib.Core.Path.{sym, ◌∙◌}
use borrow.Author.Rules.{rules}
use Rattle.bits.specs.Rows.{AreWords}
use Rattle.failures.proofs.Differs.{words_differ}
use Rattle.failures.proofs.row_differs.Goals as goal

pub returns : goal.returns
returns c =
    let p : AreWords c.args.predicted.now = search rules in
    let q : AreWords c.args.actual.now = search rules in
    c.ne.ensures ∙ words_differ c.args.observables c.args.predicted.now c.args.actual.now (c.requires.0 ∙ sym c.requires.1) c.requires.2 c.requires.3 p q
