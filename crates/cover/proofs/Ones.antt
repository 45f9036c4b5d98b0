-- The count of set digits of a xor: what the two have together less what they share. A number that is not 0 has a set digit.
use mathlib.Core.Path.{◌≡◌, refl, ap, ap₂, ◌∙◌}
use Prim.Native.Nat.{ℕ, zero, suc, ◌+◌, ◌*◌, ◌/◌, ◌%◌, ◌<◌, min}
use native.Mathlib.Nat.{mod-lt, zero-lt-suc}
use native.Mathlib.Omega.{arith}
use lib.Arith.{bin_ind, digits_div, digits_mod}
use lib.Bits.{bit_and, bit_xor, differ, and_step, xor_step}
use lib.Count.{ones, ones_step}

-- of two digits
digit : (x y : ℕ) → x < 2 → y < 2 → (differ x y + 2 * min x y ≡ x + y) × (differ x y < 2) × (min x y < 2)
digit zero zero h k = (refl, omega arith, omega arith)
digit zero (suc zero) h k = (refl, omega arith, omega arith)
digit (suc zero) zero h k = (refl, omega arith, omega arith)
digit (suc zero) (suc zero) h k = (refl, omega arith, omega arith)
digit (suc (suc x)) y h k = absurd (omega arith)
digit zero (suc (suc y)) h k = absurd (omega arith)
digit (suc zero) (suc (suc y)) h k = absurd (omega arith)

-- the count of a number put together of its lowest digit and the rest
ones_of : (n q r : ℕ) → n ≡ q * 2 + r → r < 2 → ones n ≡ r + ones q
ones_of n q r e h = ap ones e ∙ ones_step (q * 2 + r) ∙ ap₂ (λ (x y : ℕ). x + ones y) (digits_mod q h) (digits_div q h)

pub ones_xor : (a b : ℕ) → ones (bit_xor a b) + 2 * ones (bit_and a b) ≡ ones a + ones b
unfolding ones
ones_xor = bin_ind (λ (a : ℕ). (b : ℕ) → ones (bit_xor a b) + 2 * ones (bit_and a b) ≡ ones a + ones b)
    none more
  where
    none : (b : ℕ) → ones (bit_xor zero b) + 2 * ones (bit_and zero b) ≡ ones zero + ones b
    none b = omega arith

    more : (n : ℕ) → ((b : ℕ) → ones (bit_xor (n / 2) b) + 2 * ones (bit_and (n / 2) b) ≡ ones (n / 2) + ones b) → (b : ℕ) → ones (bit_xor n b) + 2 * ones (bit_and n b) ≡ ones n + ones b
    more n ih b =
        let g = digit (n % 2) (b % 2) (mod-lt n (zero-lt-suc 1)) (mod-lt b (zero-lt-suc 1)) in
        let x = ones_of (bit_xor n b) (bit_xor (n / 2) (b / 2)) (differ (n % 2) (b % 2)) (xor_step n b) g.1 in
        let y = ones_of (bit_and n b) (bit_and (n / 2) (b / 2)) (min (n % 2) (b % 2)) (and_step n b) g.2 in
        omega (arith, ih (b / 2), ones_step n, ones_step b)

pub ones_within : (m c : ℕ) → bit_and m c ≡ c → ones (bit_xor m c) + ones c ≡ ones m
ones_within m c e = omega (arith, ones_xor m c, ap ones e)

pub ones_pos : (n : ℕ) → (n ≡ 0 → ⊥) → 0 < ones n
ones_pos = bin_ind (λ (n : ℕ). (n ≡ 0 → ⊥) → 0 < ones n) (λ f. absurd (f refl)) more
  where
    more : (n : ℕ) → ((n / 2 ≡ 0 → ⊥) → 0 < ones (n / 2)) → (n ≡ 0 → ⊥) → 0 < ones n
    more n ih f = go (n % 2) refl
      where
        go : (r : ℕ) → n % 2 ≡ r → 0 < ones n
        go zero e = omega (arith, ih (λ z. f (omega arith)), ones_step n)
        go (suc r) e = omega (arith, ones_step n)
