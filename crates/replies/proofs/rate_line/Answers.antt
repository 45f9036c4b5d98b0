-- `replies::rate_line`: the parts make the line.
use Prim.Native.Nat.{ℕ}
use mathlib.Core.Path.{refl, ap, ◌∙◌}
use mathlib.Core.List.{List, [], ◌∷◌, ◌++◌, append_assoc}
use native.Mathlib.Omega.{arith}
use lib.ListN.{length-append}
use lib.Seq.{sets}
use Rattle.hex_text.specs.Hex.{text_of, bytes_in}
use Rattle.hex_text.proofs.Texts.{in_long}
use Rattle.replies.specs.Replies.{rate_reply}
use Rattle.replies.proofs.Lines.{joined, line_written}
use Rattle.replies.proofs.rate_line.Goals as goal

pub returns : goal.returns
returns c = line_written (rate_reply c.args.shots c.args.failures c.args.rate) c.args.out.now _ 34
    (omega (arith, length-append (bytes_in 4 c.args.shots) ((bytes_in 4 c.args.failures) ++ (bytes_in 8 c.args.rate)), length-append (bytes_in 4 c.args.failures) (bytes_in 8 c.args.rate), (in_long 4 c.args.shots), (in_long 4 c.args.failures), (in_long 8 c.args.rate))) (omega arith)
    (c.write_number-3.ensures
    ∙ ap (λ (o : List ℕ). sets o 18 (text_of (bytes_in 8 c.args.rate)))
    (c.write_number-2.ensures
    ∙ ap (λ (o : List ℕ). sets o 10 (text_of (bytes_in 4 c.args.failures)))
    (c.write_number.ensures ∙ ap (λ (o : List ℕ). sets o 2 (text_of (bytes_in 4 c.args.shots))) c.write_byte.ensures ∙ joined c.args.out.now (0x8f ∷ []) (bytes_in 4 c.args.shots) 2 refl)
    ∙ joined c.args.out.now (0x8f ∷ (bytes_in 4 c.args.shots)) (bytes_in 4 c.args.failures) 10 (omega (arith, (in_long 4 c.args.shots))))
    ∙ joined c.args.out.now (0x8f ∷ ((bytes_in 4 c.args.shots) ++ (bytes_in 4 c.args.failures))) (bytes_in 8 c.args.rate) 18 (omega (arith, length-append (bytes_in 4 c.args.shots) (bytes_in 4 c.args.failures), (in_long 4 c.args.shots), (in_long 4 c.args.failures)))
    ∙ ap (λ (l : List ℕ). sets c.args.out.now 0 (text_of (0x8f ∷ l))) (append_assoc (bytes_in 4 c.args.shots) (bytes_in 4 c.args.failures) (bytes_in 8 c.args.rate)))
