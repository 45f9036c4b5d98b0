-- Masks within masks, bit by bit.
use Prim.Native.Nat.{ℕ}
use mathlib.Core.Path.{◌≡◌, refl, sym, ap, ◌∙◌}
use mathlib.Core.Bool.{Bool, true, false, ◌&&◌, not, xor}
use lib.Dec.{eqb}
use lib.Bits.{bit_and, bit_xor}
use borrow.Author.Tests.{eqb-true, eqb-false, eq-eqb, ne_eqb, not-true}
use Rattle.bits.specs.Rows.{test_bit}
use Rattle.bits.proofs.Word.{test_xor, test_and, none_zero, test_ext}
use Rattle.lists.proofs.Truth.{clash, and_left, and_right, not_so, xor_assoc, xor_comm}
use Rattle.cover.specs.Masks.{fits}

-- taken off in either order
pub xor_turn : (m c d : ℕ) → bit_xor (bit_xor m c) d ≡ bit_xor (bit_xor m d) c
xor_turn m c d = test_ext (bit_xor (bit_xor m c) d) (bit_xor (bit_xor m d) c) (λ j.
    test_xor (bit_xor m c) d j ∙ ap (λ (x : Bool). xor x (test_bit d j)) (test_xor m c j)
    ∙ xor_assoc (test_bit m j) (test_bit c j) (test_bit d j) ∙ ap (xor (test_bit m j)) (xor_comm (test_bit c j) (test_bit d j))
    ∙ sym (test_xor (bit_xor m d) c j ∙ ap (λ (x : Bool). xor x (test_bit c j)) (test_xor m d j) ∙ xor_assoc (test_bit m j) (test_bit d j) (test_bit c j)))

-- ---- what fits

fits_bits : (m c : ℕ) → fits m c ≡ true → (c ≡ 0 → ⊥) × ((j : ℕ) → test_bit c j ≡ true → test_bit m j ≡ true)
unfolding fits
fits_bits m c e =
    let a = not (eqb c 0) in
    let b = eqb (bit_and m c) c in
    let q = eqb-true (bit_and m c) c (and_right a b e) in
    (eqb-false c 0 (not-true (eqb c 0) (and_left a b e)), λ j t. and_left (test_bit m j) (test_bit c j) (sym (test_and m c j) ∙ ap (λ (x : ℕ). test_bit x j) q ∙ t))

bits_fit : (m c : ℕ) → (c ≡ 0 → ⊥) → ((j : ℕ) → test_bit c j ≡ true → test_bit m j ≡ true) → fits m c ≡ true
unfolding fits
bits_fit m c f h = rw (ne_eqb c 0 f, eq-eqb (bit_and m c) c (test_ext (bit_and m c) c (λ j. test_and m c j ∙ table (test_bit m j) (test_bit c j) (h j))))
  where
    table : (p q : Bool) → (q ≡ true → p ≡ true) → (p && q) ≡ q
    table true q h = refl
    table false true h = clash (h refl) refl
    table false false h = refl

-- of the bits of m, c and d, with d within m
both : (p q : Bool) → (q ≡ true → p ≡ true) → xor p q ≡ true → p ≡ true
unfolding xor
both true q h e = refl
both false true h e = clash (h refl) refl
both false false h e = e

apart : (p q : Bool) → p ≡ true → q ≡ true → xor p q ≡ true → ⊥
unfolding xor
apart true true h k e = clash e refl
apart true false h k e = clash k refl
apart false q h k e = clash h refl

alone : (p q : Bool) → p ≡ true → q ≡ false → xor p q ≡ true
unfolding xor
alone true true h k = clash refl k
alone true false h k = refl
alone false q h k = clash h refl

module _ (m c d : ℕ) (k : fits m d ≡ true) where
  left_bit : (j : ℕ) → test_bit (bit_xor m d) j ≡ true → xor (test_bit m j) (test_bit d j) ≡ true
  left_bit j t = sym (test_xor m d j) ∙ t

  -- what fits in what d leaves fits in m
  pub fits_more : fits (bit_xor m d) c ≡ true → fits m c ≡ true
  fits_more e =
      let p = fits_bits (bit_xor m d) c e in
      let q = fits_bits m d k in
      bits_fit m c p.0 (λ j t. both (test_bit m j) (test_bit d j) (q.1 j) (left_bit j (p.1 j t)))

  -- of two that fit, where the first fits in what the second leaves, so does the second in what the first leaves
  pub fits_turn : fits m c ≡ true → fits (bit_xor m d) c ≡ true → fits (bit_xor m c) d ≡ true
  fits_turn h e =
      let p = fits_bits (bit_xor m d) c e in
      let q = fits_bits m d k in
      bits_fit (bit_xor m c) d q.0 (λ j t. test_xor m c j ∙ alone (test_bit m j) (test_bit c j) (q.1 j t) (not_so (test_bit c j) (λ u. apart (test_bit m j) (test_bit d j) (q.1 j t) t (left_bit j (p.1 j u)))))

  -- d does not fit in what it leaves
  pub fits_once : fits (bit_xor m d) d ≡ false
  fits_once = not_so (fits (bit_xor m d) d) (λ e.
      let p = fits_bits (bit_xor m d) d e in
      let q = fits_bits m d k in
      p.0 (none_zero d (λ j. not_so (test_bit d j) (λ t. apart (test_bit m j) (test_bit d j) (q.1 j t) t (left_bit j (p.1 j t))))))
