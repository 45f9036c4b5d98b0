-- A line written part by part.
use Prim.Native.Nat.{ℕ, ◌+◌, ◌*◌, ◌≤◌}
use native.Mathlib.Nat.{zero-add}
use native.Mathlib.Omega.{arith}
use mathlib.Core.Path.{◌≡◌, sym, ap, ap₂, ◌∙◌}
use mathlib.Core.List.{List, [], ◌∷◌, ◌++◌}
use lib.ListN.{length, drop, set, length-append}
use lib.Seq.{sets, sets-eq}
use Rattle.hex_text.specs.Hex.{text_of}
use Rattle.hex_text.proofs.Texts.{text_append, text_long}
use Rattle.lists.proofs.Slices.{sets_append}
use Rattle.replies.specs.Replies.{line_of}

-- more bytes behind those that stand
pub joined : (was a b : List ℕ) (j : ℕ) → j ≡ 2 * length a → sets (sets was 0 (text_of a)) j (text_of b) ≡ sets was 0 (text_of (a ++ b))
joined was a b j h =
    ap (λ (k : ℕ). sets (sets was 0 (text_of a)) k (text_of b)) (h ∙ sym (text_long a) ∙ sym (zero-add (length (text_of a))))
    ∙ sym (sets_append was 0 (text_of a) (text_of b)) ∙ ap (sets was 0) (sym (text_append a b))

-- and the line feed
pub line_written : (bytes was out : List ℕ) (j : ℕ) → j ≡ 2 * length bytes → j + 1 ≤ length was → out ≡ sets was 0 (text_of bytes)
    → (j + 1 ≡ length (line_of bytes)) × (set out j 10 ≡ line_of bytes ++ drop (length (line_of bytes)) was)
unfolding line_of
line_written bytes was out j h k e =
    let t = text_of bytes in
    let n : length (t ++ (10 ∷ [])) ≡ j + 1 = omega (arith, length-append t (10 ∷ []), text_long bytes) in
    let q : j ≡ 0 + length t = omega (arith, text_long bytes) in (
      sym n,
      ap₂ (λ (o : List ℕ) (m : ℕ). set o m 10) e q ∙ sym (sets_append was 0 t (10 ∷ []))
          ∙ sets-eq (t ++ (10 ∷ [])) was 0 (omega (arith, n))
          ∙ ap (λ (m : ℕ). (t ++ (10 ∷ [])) ++ drop m was) (zero-add (length (t ++ (10 ∷ [])))),
    )
