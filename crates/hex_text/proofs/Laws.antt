-- What is written is read back.
use Prim.Native.Nat.{ℕ, suc, ◌+◌, ◌*◌, ◌/◌, ◌%◌, ◌<◌}
use native.Mathlib.Omega.{arith}
use mathlib.Core.Path.{◌≡◌, refl, ap₂, ◌∙◌}
use mathlib.Core.Bool.{true, false}
use mathlib.Core.List.{List, [], ◌∷◌}
use lib.ListN.{length, get_or}
use lib.Dec.{ltb}
use borrow.Author.Tests.{le-leb, lt-leb, ltb-true, ltb-false, eq-eqb}
use Rattle.lists.proofs.Truth.{case-of}
use Rattle.hex_text.specs.Hex.{is_digit, digit_value, all_digits, is_hex, bytes_of, digit_of, text_of}
use Rattle.hex_text.specs.Laws.{Laws}

digit_back : (v : ℕ) → v < 16 → (is_digit (digit_of v) ≡ true) × (digit_value (digit_of v) ≡ v)
digit_back v h = case-of (ltb v 10) low high
  where
    low : ltb v 10 ≡ true → (is_digit (digit_of v) ≡ true) × (digit_value (digit_of v) ≡ v)
    low t =
        let k = ltb-true v 10 t in
        let a = le-leb 48 (v + 48) (omega arith) in
        let z = le-leb (v + 48) 57 (omega arith) in
        (rw (t, a, z), rw (t, a, z) (omega arith))

    high : ltb v 10 ≡ false → (is_digit (digit_of v) ≡ true) × (digit_value (digit_of v) ≡ v)
    high f =
        let k = ltb-false v 10 f in
        let b = le-leb 48 (v + 87) (omega arith) in
        let c = lt-leb (v + 87) 57 (omega arith) in
        let a = le-leb 97 (v + 87) (omega arith) in
        let z = le-leb (v + 87) 102 (omega arith) in
        (rw (f, b, c, a, z), rw (f, b, c, a, z) (omega arith))

digits_text : (l : List ℕ) → ((i : ℕ) → get_or l i 0 < 256) → all_digits (text_of l) ≡ true
unfolding all_digits text_of
digits_text [] h = refl
digits_text (b ∷ l) h =
    let k = h 0 in
    rw ((digit_back (b / 16) (omega arith)).0, (digit_back (b % 16) (omega arith)).0) (digits_text l (λ i. h (suc i)))

even_text : (l : List ℕ) → length (text_of l) % 2 ≡ 0
unfolding text_of
even_text [] = refl
even_text (b ∷ l) = omega (arith, even_text l)

back : (l : List ℕ) → ((i : ℕ) → get_or l i 0 < 256) → bytes_of (text_of l) ≡ l
unfolding bytes_of text_of
back [] h = refl
back (b ∷ l) h =
    let k = h 0 in
    let p = (digit_back (b / 16) (omega arith)).1 in
    let q = (digit_back (b % 16) (omega arith)).1 in
    ap₂ {C = List ℕ} (λ (x : ℕ) (m : List ℕ). x ∷ m) (ap₂ (λ (x : ℕ) (y : ℕ). 16 * x + y) p q ∙ omega arith) (back l (λ i. h (suc i)))

pub laws : Laws
unfolding is_hex
laws = record {
  text_hex = λ l h. rw (eq-eqb (length (text_of l) % 2) 0 (even_text l)) (digits_text l h);
  text_back = back;
}
