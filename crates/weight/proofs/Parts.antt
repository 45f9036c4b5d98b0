-- A finite float above 1 is m * 2 ^ k, with m and k read off its bit pattern. Assumes nothing.
use mathlib.Core.Path.{◌≡◌, refl, sym, ap, ◌∙◌, subst}
use mathlib.Core.Bool.{Bool, true, false, not, ◌&&◌, ◌||◌, cond, true≢false}
use Prim.Native.Nat.{ℕ, zero, suc, ◌+◌, ◌-◌, ◌*◌, ◌/◌, ◌%◌, ◌^◌, ◌≤◌, ◌<◌}
use native.Mathlib.Nat.{le_trans, le_of_eq, lt_of_not-le, lt_of_le_of_lt, lt_of_lt_of_le, lt_irrefl, mul_comm, mul_assoc, mul_right_comm, mul-one, mul-le-mul_right, le_of_mul-le-mul_right, eq_of_mul-eq-mul_right, mod-lt, mod-eq_of_lt}
use native.Mathlib.Omega.{arith}
use lib.IntN.{pos}
use lib.Dec.{T, leb, ltb, eqb, eqb→eq, nltb→le, nleb→lt, le→leb, not_T, T_not}
use borrow.Author.Tests.{lt-leb}
use lib.Pow.{pow-add, pow_pos, pow_mono, shl_lt}
use lib.Ieee.{Float, nan, inf, fin, binary64, up, down, odd, fits, le, lt, nan_bits, in_float, of_fields, of_bits, to_bits}
use lib.Ieee.Fits.{down_pos, and_l, eq→eqb}
use lib.Ieee.Bits.{cond_no, to_bits-lt, of_bits-to_bits}
use lib.Ieee.Exact.{HasValue, odd_sign}
use Rattle.weight.proofs.Err.{U}
use Rattle.weight.proofs.Values.{Units}
use Rattle.weight.specs.Weight.{one, infinity, exponent, significand}
use Rattle.weight.specs.Laws.{digits, Split}

-- ---- the two tests, as one fact: y is finite, not negative, and 1 at least
abbrev Above : Float → Type 0
Above nan = ⊥
Above (inf s) = ⊥
Above (fin s m e) = (s ≡ false) × (down e ≤ m * up e)

-- 1 by its pattern
one_is : one ≡ fin false 1 (pos 0)
unfolding of_bits
one_is = refl

-- infinity by its pattern
infinity_is : infinity ≡ inf false
unfolding of_bits
infinity_is = refl

-- neither side of a false test holds
or_no : (a b : Bool) → (a || b) ≡ false → T (not a)
or_no true b h = absurd (true≢false h)
or_no false b h = tt

-- by the cases of a float
above' : (y : Float) → le y (fin false 1 (pos 0)) ≡ false → lt y (inf false) ≡ true → Above y
unfolding le lt
above' nan a b = absurd (true≢false (sym b))
above' (inf true) a b = absurd (true≢false a)
above' (inf false) a b = absurd (true≢false (sym b))
above' (fin true m e) a b =
    let h : m * up e * 1 + 1 * down e ≤ 0 = nltb→le 0 (m * up e * 1 + 1 * down e) (or_no (ltb 0 (m * up e * 1 + 1 * down e)) _ a) in
    let d : 0 < down e = down_pos e in
    absurd (omega arith)
above' (fin false m e) a b =
    let h : 1 * down e ≤ m * up e * 1 = nltb→le (m * up e * 1) (1 * down e) (or_no (ltb (m * up e * 1) (1 * down e)) _ a) in
    (refl, omega arith)

-- for the tests of the code
above : (y : Float) → le y one ≡ false → lt y infinity ≡ true → Above y
above y a b = above' y (rw one_is at a) (rw infinity_is at b)

-- ---- what the code asks of the two patterns
-- the field of m's pattern is not that of a NaN
apart : (b : ℕ) → (b % 4503599627370496 + 4607182418800017408) % 9223372036854775808 / 4503599627370496 ≡ 2047 → ⊥
apart b h = omega arith

-- the pattern of m is no NaN's
pub part_no_nan : (b : ℕ) → T (not (nan_bits binary64 (b % 4503599627370496 + 4607182418800017408)))
unfolding nan_bits
part_no_nan b =
    let n = b % 4503599627370496 + 4607182418800017408 in
    let x = n % 9223372036854775808 / 4503599627370496 in
    let d = not (eqb (n % 4503599627370496) 0) in
    not_T (eqb x 2047 && d) (λ (t : T (eqb x 2047 && d)). apart b (eqb→eq x 2047 (and_l (eqb x 2047) d t)))

-- by the size of a pattern
small_exponent : (b : ℕ) → b < 18446744073709551616 → T (in_float binary64 (pos (b / 4503599627370496 - 1023)))
unfolding in_float
small_exponent b h = le→leb (b / 4503599627370496 - 1023) 9007199254740992 (omega arith)

-- k is small enough for a float to hold it
pub exponent_held : (y : Float) → fits binary64 y ≡ true → T (in_float binary64 (pos (exponent y)))
exponent_held y h = small_exponent (to_bits binary64 y) (to_bits-lt binary64 y (subst T (sym h) tt))

-- ---- a value of a units that is above 1
of_value : (y : Float) (s : Bool) (a : ℕ) → Above y → HasValue y s a U → (s ≡ false) × (U ≤ a)
of_value nan s a p h = absurd p
of_value (inf t) s a p h = absurd p
of_value (fin t m e) s a p h = (
  sym h.0 ∙ p.0,
  le_of_mul-le-mul_right (le_trans (le_of_eq (mul_comm U (down e))) (le_trans (mul-le-mul_right U p.1) (le_of_eq h.1))) (down_pos e),
)

-- ---- the fields of a pattern above 1: no sign, the exponent's field suc j, and the digits t below the leading one
abbrev Fields : Bool → ℕ → ℕ → Float → Type 0
Fields s x t y = (j : ℕ) × (x ≡ suc j) × (s ≡ false) × (suc j ≡ 2047 → ⊥) × Units y ((2 ^ 52 + t) * 2 ^ j) × (U ≤ (2 ^ 52 + t) * 2 ^ j)

-- a pattern above 1 has not the field of infinity
top_no : (a b s : Bool) (z : Float) → Above (cond a (cond b (inf s) nan) z) → T (not a)
top_no true true s z p = absurd p
top_no true false s z p = absurd p
top_no false b s z p = tt

-- by the exponent's field
fields : (s : Bool) (x t : ℕ) → t < 2 ^ 52 → Above (of_fields binary64 s x t) → Fields s x t (of_fields binary64 s x t)
unfolding of_fields
fields s zero t h p =
    let v = of_value (odd 53 s t 0 1074) s (t * 2 ^ 0) p (odd_sign 53 s t 0 1074) in
    absurd (lt_irrefl U (lt_of_le_of_lt v.1 (lt_of_le_of_lt (le_of_eq (mul-one t)) (lt_of_lt_of_le h (pow_mono (small 0))))))
  where
    small : (z : ℕ) → 52 ≤ 1074 + z
    small z = omega arith
fields s (suc j) t h p =
    let z = odd 53 s (2 ^ 52 + t) j 1074 in
    let u = cond (eqb t 0) (inf s) nan in
    let n : T (not (eqb (suc j) 2047)) = top_no (eqb (suc j) 2047) (eqb t 0) s z p in
    let e : cond (eqb (suc j) 2047) u z ≡ z = cond_no (eqb (suc j) 2047) u z n in
    let q : Above z = subst (λ (k : Float). Above k) e p in
    let w = odd_sign 53 s (2 ^ 52 + t) j 1074 in
    let v = of_value z s ((2 ^ 52 + t) * 2 ^ j) q w in (
      j,
      refl,
      v.0,
      (λ (c : suc j ≡ 2047). T_not (eqb (suc j) 2047) n (eq→eqb c)),
      subst (λ (k : Float). Units k ((2 ^ 52 + t) * 2 ^ j)) (sym e) (subst (λ (r : Bool). HasValue z r ((2 ^ 52 + t) * 2 ^ j) U) v.0 w),
      v.1,
    )

-- a pattern by its fields
of_bits_is : (b : ℕ) → of_bits binary64 b ≡ of_fields binary64 (leb (2 ^ 63) b) (b % 2 ^ 63 / 2 ^ 52) (b % 2 ^ 52)
unfolding of_bits
of_bits_is b = refl

-- ---- m: a pattern with the field 1023
pub m_units : (b : ℕ) → Units (of_bits binary64 (b % 4503599627370496 + 4607182418800017408)) ((2 ^ 52 + b % 2 ^ 52) * 2 ^ 1022)
m_units b =
    let t = b % 4503599627370496 in
    let p = t + 4607182418800017408 in
    subst (λ (y : Float). Units y ((2 ^ 52 + t) * 2 ^ 1022)) (sym (of_bits_is p ∙ ap (λ (s : Bool). of_fields binary64 s (p % 2 ^ 63 / 2 ^ 52) (p % 2 ^ 52)) (low_sign b) ∙ ap (λ (x : ℕ). of_fields binary64 false x (p % 2 ^ 52)) (field b) ∙ ap (λ (x : ℕ). of_fields binary64 false 1023 x) (below b) ∙ at_1023 t))
    (odd_sign 53 false (2 ^ 52 + t) 1022 1074)
  where
    field : (b : ℕ) → (b % 4503599627370496 + 4607182418800017408) % 9223372036854775808 / 4503599627370496 ≡ 1023
    field b = omega arith

    below : (b : ℕ) → (b % 4503599627370496 + 4607182418800017408) % 4503599627370496 ≡ b % 4503599627370496
    below b = omega arith

    low_sign : (b : ℕ) → leb 9223372036854775808 (b % 4503599627370496 + 4607182418800017408) ≡ false
    low_sign b = lt-leb 9223372036854775808 (b % 4503599627370496 + 4607182418800017408) (omega arith)

    at_1023 : (t : ℕ) → of_fields binary64 false 1023 t ≡ odd 53 false (2 ^ 52 + t) 1022 1074
    at_1023 t = unfold of_fields in refl

-- ---- y: its pattern's fields
-- the order of powers is that of their exponents
pow_back : (i p : ℕ) → 2 ^ i < 2 ^ p → i < p
pow_back i p h = lt_of_not-le (λ (g : p ≤ i). lt_irrefl (2 ^ i) (lt_of_lt_of_le h (pow_mono g)))

-- the exponent's field is 1023 at least, k is 1023 at most, and y is n * 2 ^ (k - 52)
pub y_units : (y : Float) → fits binary64 y ≡ true → le y one ≡ false → lt y infinity ≡ true
    → (1023 ≤ to_bits binary64 y / 2 ^ 52) × (exponent y ≤ 1023) × Units y (digits y * 2 ^ (1022 + exponent y))
y_units y f l i =
    let b = to_bits binary64 y in
    let s = leb (2 ^ 63) b in
    let x = b % 2 ^ 63 / 2 ^ 52 in
    let t = b % 2 ^ 52 in
    let back : of_bits binary64 b ≡ y = of_bits-to_bits binary64 y (subst T (sym f) tt) in
    let is : y ≡ of_fields binary64 s x t = sym back ∙ of_bits_is b in
    let r : Fields s x t y = subst (λ (k : Float). Fields s x t k) (sym is) (fields s x t (mod-lt b (pow_pos 52)) (subst (λ (k : Float). Above k) is (above y l i))) in
    let j = r.0 in
    let low : b < 2 ^ 63 = nleb→lt (2 ^ 63) b (subst (λ (k : Bool). T (not k)) (sym r.2) tt) in
    let field : b / 2 ^ 52 ≡ suc j = ap (λ (k : ℕ). k / 2 ^ 52) (sym (mod-eq_of_lt low)) ∙ r.1 in
    let ge : 1074 < 53 + j = pow_back 1074 (53 + j) (lt_of_le_of_lt r.5 (shl_lt 53 j (lead b))) in
    let e : j ≡ 1022 + (b / 2 ^ 52 - 1023) = shifted (b / 2 ^ 52) j field ge in (
      least (b / 2 ^ 52) j field ge,
      most b (b / 2 ^ 52) j refl low field r.3,
      subst (λ (k : ℕ). Units y ((2 ^ 52 + t) * 2 ^ k)) e r.4,
    )
  where
    lead : (b : ℕ) → 4503599627370496 + b % 4503599627370496 < 9007199254740992
    lead b = omega arith

    shifted : (x j : ℕ) → x ≡ suc j → 1074 < 53 + j → j ≡ 1022 + (x - 1023)
    shifted x j h k = omega arith

    least : (x j : ℕ) → x ≡ suc j → 1074 < 53 + j → 1023 ≤ x
    least x j h k = omega arith

    most : (b x j : ℕ) → x ≡ b / 4503599627370496 → b < 9223372036854775808 → x ≡ suc j → (suc j ≡ 2047 → ⊥) → x - 1023 ≤ 1023
    most b x j d l h k = omega arith

-- ---- y = m * 2 ^ k
-- a fraction with a common factor taken out
reduced : (x : Float) (s : Bool) (a b c : ℕ) → 0 < c → HasValue x s (a * c) (b * c) → HasValue x s a b
reduced nan s a b c P h = h
reduced (inf t) s a b c P h = h
reduced (fin t m e) s a b c P h = (
  h.0,
  eq_of_mul-eq-mul_right c P (m * up e * b) (a * down e) (mul_assoc (m * up e) b c ∙ h.1 ∙ mul_right_comm a c (down e)),
)

-- 2 ^ 1022 set apart
power : (n k : ℕ) → n * 2 ^ (1022 + k) ≡ n * 2 ^ k * 2 ^ 1022
power n k = ap (λ (z : ℕ). n * z) (pow-add 2 1022 k ∙ mul_comm (2 ^ 1022) (2 ^ k)) ∙ sym (mul_assoc n (2 ^ k) (2 ^ 1022))

-- n is 2 ^ 52 at least
pub digits_least : (b : ℕ) → 4503599627370496 ≤ 4503599627370496 + b % 4503599627370496
digits_least b = omega arith

-- and below 2 ^ 53
pub digits_most : (b : ℕ) → 4503599627370496 + b % 4503599627370496 < 9007199254740992
digits_most b = omega arith

-- the law
pub split : (y : Float) → fits binary64 y ≡ true → le y one ≡ false → lt y infinity ≡ true → Split y
split y f l i =
    let b = to_bits binary64 y in
    let n = digits y in
    let k = exponent y in
    let u = y_units y f l i in
    record {
      m_is = reduced (significand y) false n (2 ^ 52) (2 ^ 1022) (pow_pos 1022) (m_units b);
      m_from_1 = digits_least b;
      m_below_2 = digits_most b;
      y_is = reduced y false (n * 2 ^ k) (2 ^ 52) (2 ^ 1022) (pow_pos 1022) (subst (Units y) (power n k) u.2);
      k_most = u.1;
    }
