-- The bytes of a line, by its digits.
use Prim.Native.Nat.{ℕ, zero, suc, ◌+◌, ◌*◌, ◌/◌, ◌≤◌, ◌<◌}
use native.Mathlib.Nat.{zero-add}
use native.Mathlib.Omega.{arith}
use native.Mathlib.Numerals.{add-one}
use mathlib.Core.Path.{◌≡◌, refl, sym, ap, ap₂, ◌∙◌}
use mathlib.Core.Bool.{true, ◌&&◌}
use mathlib.Core.List.{List, [], ◌∷◌, ◌++◌}
use lib.ListN.{length, get_or, take, drop}
use lib.Seq.{drop-cons, drop-drop, take-add}
use lib.Dec.{leb}
use borrow.Author.Tests.{leb-true}
use Rattle.lists.proofs.Truth.{and_left, and_right}
use Rattle.std.specs.List.{list_all}
use Rattle.std.proofs.lemmas.List.Recursion.{same_from_clauses}
use Rattle.hex_text.specs.Hex.{between, is_digit, digit_value, all_digits, bytes_of, number_after, number}

-- ---- digits

pub between_facts : (a z b : ℕ) → between a z b ≡ true → (a ≤ b) × (b ≤ z)
between_facts a z b h = (leb-true a b (and_left (leb a b) (leb b z) h), leb-true b z (and_right (leb a b) (leb b z) h))

pub digits_all : (l : List ℕ) → all_digits l ≡ list_all is_digit l
unfolding all_digits
digits_all = same_from_clauses all_digits (list_all is_digit) (λ b r. is_digit b && r) refl (λ _ _. refl) (λ _ _. refl)

-- ---- bytes

pub byte_count : (l : List ℕ) → length (bytes_of l) ≡ length l / 2
unfolding bytes_of
byte_count [] = refl
byte_count (a ∷ []) = refl
byte_count (a ∷ b ∷ l) = omega (arith, byte_count l)

pub byte_is : (l : List ℕ) (i : ℕ) → i < length (bytes_of l)
    → get_or (bytes_of l) i 0 ≡ 16 * digit_value (get_or l (2 * i) 0) + digit_value (get_or l (2 * i + 1) 0)
unfolding bytes_of
byte_is [] i h = absurd (omega arith)
byte_is (a ∷ []) i h = absurd (omega arith)
byte_is (a ∷ b ∷ l) zero h = refl
byte_is (a ∷ b ∷ l) (suc i) h =
    let p : 2 * suc i ≡ suc (suc (2 * i)) = omega arith in
    let q : 2 * suc i + 1 ≡ suc (suc (2 * i + 1)) = omega arith in
    byte_is l i (omega arith) ∙ sym (ap₂ (λ (m : ℕ) (n : ℕ). 16 * digit_value (get_or (a ∷ b ∷ l) m 0) + digit_value (get_or (a ∷ b ∷ l) n 0)) p q)

-- ---- numbers

pub take_next : (k i : ℕ) (l : List ℕ) → i < length l → take (suc k) (drop i l) ≡ get_or l i 0 ∷ take k (drop (i + 1) l)
take_next k i l h = ap (λ (m : List ℕ). take (suc k) m) (drop-cons l i 0 h) ∙ rw (add-one i)

pub two_bytes : (l : List ℕ) (i v : ℕ) → i + 2 ≤ length l → number_after v (take 2 (drop i l)) ≡ v * 65536 + (256 * get_or l i 0 + get_or l (i + 1) 0)
unfolding number_after
two_bytes l i v h = rw (take_next 1 i l (omega arith), take_next 0 (i + 1) l (omega arith)) (omega arith)

-- a prefix first
after_append : (v : ℕ) (l m : List ℕ) → number_after v (l ++ m) ≡ number_after (number_after v l) m
unfolding number_after
after_append v [] m = refl
after_append v (b ∷ l) m = after_append (v * 256 + b) l m

two_more : (l : List ℕ) (i k v : ℕ) → i + 2 ≤ length l
    → number_after v (take (2 + k) (drop i l)) ≡ number_after (v * 65536 + number (take 2 (drop i l))) (take k (drop (i + 2) l))
unfolding number
two_more l i k v h =
    ap (number_after v) (take-add 2 k (drop i l)) ∙ after_append v (take 2 (drop i l)) (take k (drop 2 (drop i l)))
    ∙ ap₂ (λ (w : ℕ) (m : List ℕ). number_after w (take k m)) (two_bytes l i v h ∙ ap (λ (w : ℕ). v * 65536 + w) (sym (two_bytes l i 0 h ∙ zero-add (256 * get_or l i 0 + get_or l (i + 1) 0))))
    (drop-drop 2 i l)

pub eight_bytes : (l : List ℕ) (i a b c d : ℕ) → i + 8 ≤ length l
    → a ≡ number (take 2 (drop i l)) → b ≡ number (take 2 (drop (i + 2) l)) → c ≡ number (take 2 (drop (i + 4) l)) → d ≡ number (take 2 (drop (i + 6) l))
    → ((a * 65536 + b) * 65536 + c) * 65536 + d ≡ number (take 8 (drop i l))
unfolding number number_after
eight_bytes l i a b c d h pa pb pc pd =
    let p : i + 2 + 2 ≡ i + 4 = omega arith in
    let q : i + 4 + 2 ≡ i + 6 = omega arith in
    let at : ℕ → ℕ = λ k. number (take 2 (drop k l)) in
    let v : ℕ = 0 * 65536 + at i in
    let w : ℕ = v * 65536 + at (i + 2) in
    let e = two_more l i 6 0 (omega arith) in
    let f = rw p at (two_more l (i + 2) 4 v (omega arith)) in
    let g = rw q at (two_more l (i + 4) 2 w (omega arith)) in
    let k = two_more l (i + 6) 0 (w * 65536 + at (i + 4)) (omega arith) in
    omega (arith, pa, pb, pc, pd, e ∙ f ∙ g ∙ k)
