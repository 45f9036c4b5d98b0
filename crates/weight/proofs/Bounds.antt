-- The logarithm of a finite y above 1 is from 0 to 1024: k * c is 768 at most, and the series 32 at most. Assumes nothing.
use mathlib.Core.Path.{◌≡◌, refl, sym, ap, ◌∙◌, subst}
use mathlib.Core.Bool.{true, false}
use Prim.Native.Nat.{ℕ, zero, suc, ◌+◌, ◌*◌, ◌%◌, ◌^◌, ◌≤◌, ◌<◌, zero-le}
use native.Mathlib.Nat.{le_trans, le_of_eq, mul_comm, mul_assoc, mul_left_comm, zero-mul, mul-le-mul, mul-le-mul_right, mul-pos}
use native.Mathlib.Omega.{arith}
use lib.IntN.{pos}
use lib.Dec.{lit≤, lit<}
use lib.Pow.{pow_pos}
use lib.Ieee.{Float, binary64, fits, add, mul, le, lt, of_int, of_bits, to_bits}
use Rattle.weight.proofs.Err.{U}
use Rattle.weight.proofs.Values.{Units, int_units}
use Rattle.weight.proofs.Ops.{mul_units}
use Rattle.weight.proofs.Range.{Range, round_range, whole_range, range_more, add_range, sub_range, mul_range, div_range}
use Rattle.weight.specs.Weight.{one, two, infinity, log_two, exponent, significand, ratio, coefficient, steps, sum_at, series, logarithm}
use Rattle.weight.proofs.Parts.{m_units, y_units, digits_least, digits_most}

-- 1
one_range : Range 1 1 one
unfolding of_bits
one_range = whole_range 1 (refl, refl)

-- 2
two_range : Range 2 2 two
unfolding of_bits
two_range = whole_range 2 (refl, refl)

-- n * h units, where q * h units are 1
between_1_and_2 : (q h n : ℕ) → q ≤ n → n < 2 * q → (1 * (q * h) ≤ n * h) × (n * h ≤ 2 * (q * h))
between_1_and_2 q h n lo hi =
    let a : q * h ≤ n * h = mul-le-mul_right h lo in
    let b : n * h ≤ 2 * q * h = mul-le-mul_right h (omega arith) in
    let e : 2 * q * h ≡ 2 * (q * h) = mul_assoc 2 q h in
    (omega arith, omega arith)

-- m is from 1 to 2
m_range : (y : Float) → Range 1 2 (significand y)
m_range y =
    let b = to_bits binary64 y in
    let i = between_1_and_2 (2 ^ 52) (2 ^ 1022) (2 ^ 52 + b % 2 ^ 52) (digits_least b) (digits_most b) in
    record { X = (2 ^ 52 + b % 2 ^ 52) * 2 ^ 1022; value = m_units b; least = i.0; most = i.1 }

-- t is from 0 to 1
ratio_range : {m : Float} → Range 1 2 m → Range 0 1 (ratio m)
ratio_range r =
    div_range 1 (sub_range r one_range (lit≤ tt) (lit≤ tt) (lit≤ tt) (lit< tt) (lit≤ tt)) (add_range r one_range (lit≤ tt) (lit≤ tt) (lit< tt) (lit≤ tt)) (lit< tt) (lit≤ tt) (lit< tt) (lit≤ tt)

-- every entry is from 0 to 1
coefficient_range : (i : ℕ) → Range 0 1 (coefficient i)
unfolding coefficient
coefficient_range i = round_range 1 (2 * i + 1) 0 1 (odd_pos i) (lit< tt) (lit≤ tt) (omega arith) (omega arith) (lit≤ tt)
  where
    odd_pos : (i : ℕ) → 0 < 2 * i + 1
    odd_pos i = omega arith

-- r grows by 1 at most in a step
steps_range : (n j : ℕ) (s r : Float) → 0 < j → j + n ≤ 1024 → Range 0 1 s → Range 0 j r → Range 0 (j + n) (steps n s r)
unfolding steps
steps_range zero j s r p h a b = range_more (lit≤ tt) (omega arith) b
steps_range (suc n) j s r p h a b =
    range_more (lit≤ tt) (omega arith)
    (steps_range n (j * 1 + 1) s (add binary64 (mul binary64 r s) (coefficient n)) (omega arith) (omega arith) a
    (add_range (mul_range b a zero-le (lit≤ tt) (omega arith) (omega arith)) (coefficient_range n) zero-le (lit≤ tt) (omega arith) (omega arith)))

-- r ends at 16 at most
sum_range : {s : Float} → Range 0 1 s → Range 0 16 (sum_at s)
unfolding sum_at
sum_range {s} a = steps_range 15 1 s (coefficient 15) (lit< tt) (lit≤ tt) a (coefficient_range 15)

-- (2 * t) * r is from 0 to 32
series_range : {t : Float} → Range 0 1 t → Range 0 32 (series t)
unfolding series
series_range a =
    mul_range (mul_range two_range a (lit≤ tt) (lit≤ tt) (lit< tt) (lit≤ tt)) (sum_range (mul_range a a (lit≤ tt) (lit≤ tt) (lit< tt) (lit≤ tt))) (lit≤ tt) (lit≤ tt) (lit< tt) (lit≤ tt)

-- ---- k * c
-- c in units. It does not unfold by itself, so that `omega` meets no large literal
unfoldable C : ℕ
C = 0x16_2e42_fefa_39ef * 2 ^ 1021

-- c is C units
c_units : Units log_two C
unfolding C of_bits
c_units = (refl, refl)

-- c is 3 / 4 at most
c_most : 4 * C ≤ 3 * U
unfolding C
c_most = lit≤ tt

-- k * c, over u * u
product_most : (u c k : ℕ) → 4 * c ≤ 3 * u → k ≤ 1023 → k * u * c ≤ 768 * (u * u)
product_most u c k h l =
    let a : k * (4 * c) ≤ 1023 * (3 * u) = mul-le-mul l h in
    let b : k * (4 * c) * u ≤ 1023 * (3 * u) * u = mul-le-mul_right u a in
    let e : k * (4 * c) * u ≡ 4 * (k * u * c) = simp (mul_assoc, mul_comm, mul_left_comm) in
    let f : 1023 * (3 * u) * u ≡ 3069 * (u * u) = mul_assoc 1023 (3 * u) u ∙ ap (λ (z : ℕ). 1023 * z) (mul_assoc 3 u u) ∙ thrice (u * u) in
    omega arith
  where
    thrice : (z : ℕ) → 1023 * (3 * z) ≡ 3069 * z
    thrice z = omega arith

-- k * c is from 0 to 768
product_range : (k : ℕ) → k ≤ 1023 → Range 0 768 (mul binary64 (of_int binary64 (pos k)) log_two)
product_range k h =
    subst (Range 0 768) (sym (mul_units (of_int binary64 (pos k)) log_two (k * U) C (int_units k (le_trans h (lit≤ tt))) c_units))
    (round_range (k * U * C) (U * U) 0 768 (mul-pos (pow_pos 1074) (pow_pos 1074)) (lit< tt) (lit≤ tt) (le_trans (le_of_eq (zero-mul (U * U))) zero-le) (product_most U C k c_most h) zero-le)

-- ---- k * c + (2 * t) * r
pub logarithm_range : (y : Float) → fits binary64 y ≡ true → le y one ≡ false → lt y infinity ≡ true → Range 0 1024 (logarithm y)
unfolding logarithm
logarithm_range y f l i =
    range_more (lit≤ tt) (lit≤ tt) (add_range (product_range (exponent y) (y_units y f l i).1) (series_range (ratio_range (m_range y))) (lit≤ tt) (lit≤ tt) (lit< tt) (lit≤ tt))
