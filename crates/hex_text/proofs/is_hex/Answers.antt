-- `hex_text::is_hex`: in pairs, then digits.
use Rattle.std.proofs.Common.{◌∙◌, sym, rules, tests}
use Rattle.std.proofs.lemmas.Iterator.{YieldsList-from_slice}
use Rattle.std.proofs.lemmas.Iterator.Search.{all_from_yields_List}
use borrow.Author.Tests.{eq-eqb, ne_eqb}
use Rattle.hex_text.specs.Hex.{is_digit, is_hex}
use Rattle.hex_text.proofs.Bytes.{digits_all}
use Rattle.hex_text.proofs.is_hex.Goals as goal

pub returns-then-line-eq0 : goal.returns-then-line-eq0
unfolding is_hex
returns-then-line-eq0 c =
    let line = c.args.line.now in
    rw (eq-eqb _ _ c.if-line-eq0.true) (all_from_yields_List is_digit _ _ _ c.all.ensures.ran (YieldsList-from_slice line cc) (λ x b q k. search (rules, tests)) ∙ sym (digits_all line))

pub returns-else-line-eq0 : goal.returns-else-line-eq0
unfolding is_hex
returns-else-line-eq0 c = rw (ne_eqb _ _ c.if-line-eq0.false)
