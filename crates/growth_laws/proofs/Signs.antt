-- The signs of rounded results: no operation of a round gives a value below zero, or NaN. Assumes nothing.
use Prim.Native.Nat.{ℕ, zero, suc, ◌+◌, ◌-◌, ◌*◌, ◌^◌, ◌≤◌, ◌<◌}
use native.Mathlib.Nat.{zero-lt-suc, zero-mul, mul-zero, mul-pos}
use native.Mathlib.Omega.{arith}
use mathlib.Core.Path.{◌≡◌, refl}
use mathlib.Core.Bool.{Bool, true, false, ◌&&◌, ◌||◌}
use mathlib.Core.Logic.{⊎_elim}
use lib.IntN.{ℤ, pos}
use lib.Dec.{eqb, ltb, lit<}
use lib.Pow.{pow_pos}
use lib.Ieee.{Float, nan, inf, fin, binary64, up, down, size, odd, units, round, sum, neg, add, sub, mul, div, lt, eq, le, is_nan}
use lib.Ieee.Fits.{up_pos, down_pos, round_is}
use lib.Ieee.Order.{drop, kept}
use lib.Ieee.Scale.{round_same}
use borrow.Author.Tests.{le-ltb, ltb-true, ltb-false, eqb-true, eq-eqb}
use Rattle.lists.proofs.Truth.{case-of, cond_case, clash, or_cases, and_left, and_right}

-- the sign is plus: +0 or more, infinity included
abbrev pub Plus : Float → Type 0
Plus nan = ⊥
Plus (inf s) = s ≡ false
Plus (fin s m e) = s ≡ false

-- from 0 to infinity: -0 too
abbrev pub FromZero : Float → Type 0
FromZero nan = ⊥
FromZero (inf s) = s ≡ false
FromZero (fin true m e) = m ≡ 0
FromZero (fin false m e) = Unit {0}

pub plus_from : (x : Float) → Plus x → FromZero x
plus_from nan p = p
plus_from (inf s) p = p
plus_from (fin true m e) p = clash refl p
plus_from (fin false m e) p = tt

pub from_number : (x : Float) → FromZero x → is_nan x ≡ false
unfolding is_nan
from_number nan p = absurd p
from_number (inf s) p = refl
from_number (fin s m e) p = refl

-- ---- rounding keeps the sign

odd_plus : (d q k l : ℕ) → Plus (odd d false q k l)
unfolding odd
odd_plus d zero k l = refl
odd_plus d (suc q) k l = refl

units_plus : (q k : ℕ) → Plus (units binary64 false q k)
unfolding units
units_plus q k = cond_case Plus (ltb (q * 2 ^ k) (2 ^ 2098)) (odd 54 false q k 1074) (inf false) (λ t. odd_plus 54 q k 1074) (λ f. refl)

pub round_plus : (a c : ℕ) → Plus (round binary64 false a c)
round_plus a c = rw (round_is binary64 false a c) (units_plus (kept 53 (a * 2 ^ 1074) c) (drop 53 (a * 2 ^ 1074) c))

-- 2 ^ e is not 0
pub size_none : (m : ℕ) (e : ℤ) → m * up e ≡ 0 → m ≡ 0
size_none zero e q = refl
size_none (suc m) e q = absurd (omega (arith, mul-pos (zero-lt-suc m) (up_pos e)))

-- 0 rounds to 0, with its sign
pub round_zero : (s : Bool) (a c : ℕ) → a ≡ 0 → 0 < c → round binary64 s a c ≡ fin s 0 (pos 0)
unfolding round size units odd
round_zero s a c q p = round_same binary64 s a c 0 1 p (lit< tt) (rw q (simp zero-mul))

round_minus : (a c : ℕ) → a ≡ 0 → 0 < c → FromZero (round binary64 true a c)
round_minus a c q p = rw (round_zero true a c q p) refl

-- a product with 0
pub no_left : (m u : ℕ) → m ≡ 0 → m * u ≡ 0
no_left m u q = rw (q, zero-mul)

pub no_right : (b m : ℕ) → m ≡ 0 → b * m ≡ 0
no_right b m q = rw (q, mul-zero)

-- ---- the operations of a round

module _ (k : ℕ) where
  -- by 2 ^ k
  abbrev power : Float
  power = fin false 1 (pos k)

  pub div_from : (x : Float) → FromZero x → FromZero (div binary64 x power)
  unfolding div
  div_from nan p = p
  div_from (inf s) p = rw p refl
  div_from (fin true m e) p = round_minus (m * up e * 1) (1 * 2 ^ k * down e) (no_left (m * up e) 1 (no_left m (up e) p)) (mul-pos (mul-pos (lit< tt) (pow_pos k)) (down_pos e))
  div_from (fin false m e) p = plus_from (round binary64 false (m * up e * 1) (1 * 2 ^ k * down e)) (round_plus (m * up e * 1) (1 * 2 ^ k * down e))

  pub mul_from : (x : Float) → FromZero x → FromZero (mul binary64 power x)
  unfolding mul
  mul_from nan p = p
  mul_from (inf s) p = rw p refl
  mul_from (fin true m e) p = round_minus (1 * 2 ^ k * (m * up e)) (1 * down e) (no_right (1 * 2 ^ k) (m * up e) (no_left m (up e) p)) (mul-pos (lit< tt) (down_pos e))
  mul_from (fin false m e) p = plus_from (round binary64 false (1 * 2 ^ k * (m * up e)) (1 * down e)) (round_plus (1 * 2 ^ k * (m * up e)) (1 * down e))

-- +g and what is from 0: the sum's sign is plus
pub add_plus : (m : ℕ) (e : ℤ) (x : Float) → FromZero x → Plus (add binary64 (fin false m e) x)
unfolding add sum
add_plus m e nan p = p
add_plus m e (inf s) p = p
add_plus m e (fin true n d) p =
    let z = no_left (n * up d) (down e) (no_left n (up d) p) in
    rw (le-ltb (m * up e * down d) (n * up d * down e) (omega arith)) (round_plus (m * up e * down d - n * up d * down e) (down e * down d))
add_plus m e (fin false n d) p = round_plus (m * up e * down d + n * up d * down e) (down e * down d)

-- ---- the order

abbrev AtMost : ℕ → ℕ → Bool
AtMost a b = ltb a b || (eqb a b && true)

at_most : (a b : ℕ) → AtMost a b ≡ true → a ≤ b
at_most a b h = ⊎_elim (λ t. omega (arith, ltb-true a b t)) (λ t. omega (arith, eqb-true a b (and_left (eqb a b) true t))) (or_cases (ltb a b) (eqb a b && true) h)

of_most : (a b : ℕ) → a ≤ b → AtMost a b ≡ true
of_most a b h = case-of (ltb a b) (λ t. rw t) (λ f. rw (f, eq-eqb a b (omega (arith, ltb-false a b f))))

-- the order of two values that are not negative is that of the fractions
pub le_cross : (m n : ℕ) (e d : ℤ) → le (fin false m e) (fin false n d) ≡ true → m * up e * down d ≤ n * up d * down e
unfolding le lt eq
le_cross m n e d h = at_most (m * up e * down d) (n * up d * down e) h

pub cross_le : (m n : ℕ) (e d : ℤ) → m * up e * down d ≤ n * up d * down e → le (fin false m e) (fin false n d) ≡ true
unfolding le lt eq
cross_le m n e d h = of_most (m * up e * down d) (n * up d * down e) h

-- no value that is not negative is at most -0, but +0
under_minus : (m n : ℕ) (e d : ℤ) → le (fin false m e) (fin true n d) ≡ true → m * up e * down d ≡ 0
unfolding le lt eq
under_minus m n e d h = eqb-true (m * up e * down d) 0 (and_right (eqb (m * up e * down d) (n * up d * down e)) (eqb (m * up e * down d) 0) h)

-- w less a g of w at most is one rounding
pub sub_is : (n m : ℕ) (d e : ℤ) → le (fin false m e) (fin false n d) ≡ true
    → sub binary64 (fin false n d) (fin false m e) ≡ round binary64 false (n * up d * down e - m * up e * down d) (down d * down e)
unfolding sub add neg sum
sub_is n m d e h = rw (le-ltb (n * up d * down e) (m * up e * down d) (le_cross m n e d h))

pub sub_from : (w : Float) (m : ℕ) (e : ℤ) → FromZero w → le (fin false m e) w ≡ true → FromZero (sub binary64 w (fin false m e))
unfolding sub add neg sum
sub_from nan m e p h = p
sub_from (inf s) m e p h = p
sub_from (fin true n d) m e p h =
    let z = no_left (n * up d) (down e) (no_left n (up d) p) in
    round_minus (n * up d * down e + m * up e * down d) (down d * down e) (omega (arith, under_minus m n e d h)) (mul-pos (down_pos d) (down_pos e))
sub_from (fin false n d) m e p h =
    let c = down d * down e in
    let a = n * up d * down e - m * up e * down d in
    rw (sub_is n m d e h) (plus_from (round binary64 false a c) (round_plus a c))
