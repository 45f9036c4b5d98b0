-- `replies::write_refusal`: the parts make the line.
use Prim.Native.Nat.{ℕ}
use mathlib.Core.Path.{refl, ap, ◌∙◌}
use mathlib.Core.List.{List, [], ◌∷◌}
use native.Mathlib.Omega.{arith}
use lib.Seq.{sets}
use Rattle.hex_text.specs.Hex.{text_of}
use Rattle.replies.specs.Replies.{refusal_reply}
use Rattle.replies.specs.Last.{refusal_text}
use Rattle.replies.proofs.Lines.{joined, line_written}
use Rattle.replies.proofs.write_refusal.Goals as goal

pub returns : goal.returns
unfolding refusal_text
returns c = rw (← c.code.ensures) (line_written (refusal_reply c.code.result) c.args.out.now _ 4 refl (omega arith)
    (c.write_byte-2.ensures ∙ ap (λ (o : List ℕ). sets o 2 (text_of (c.code.result ∷ []))) c.write_byte.ensures ∙ joined c.args.out.now (0xff ∷ []) (c.code.result ∷ []) 2 refl))
