-- The floats of a round: products with a half, and steps of which neither is less. Assumes nothing.
use Prim.Native.Nat.{ℕ, ◌+◌, ◌*◌, ◌^◌}
use native.Mathlib.Nat.{zero-mul, one-mul, mul_assoc, mul_comm, mul-pos}
use native.Mathlib.Omega.{arith}
use mathlib.Core.Path.{◌≡◌, refl, sym, ap, ◌∙◌}
use mathlib.Core.Bool.{Bool, true, false}
use mathlib.Core.Logic.{inl, inr}
use lib.IntN.{ℤ, pos}
use lib.Dec.{lit<}
use lib.Ieee.{Float, nan, inf, fin, binary64, up, down, unlike, round, sum, below, add, mul, div, lt, is_nan, of_int}
use lib.Ieee.Fits.{down_pos}
use lib.Ieee.Scale.{round_same, finite}
use borrow.Author.Tests.{ltb-false, le-ltb}
use Rattle.lists.proofs.Truth.{cond_case, clash, not_so}
use Rattle.found.proofs.Floats.{lt_trans, lt_either}
use Rattle.growth_laws.proofs.Signs.{Plus, FromZero, round_zero, no_left, no_right}
use Rattle.growth_laws.proofs.Edges.{OneOrTwo, by_power}
use Rattle.growing.specs.Growing.{share_of, lesser_of}

-- ---- by the ends of an edge

-- a half of x and x / 2 are one fraction
pub share_is : (x : Float) (n : ℕ) → OneOrTwo n → mul binary64 x (share_of n) ≡ div binary64 x (of_int binary64 (pos n))
unfolding of_int mul div
share_is nan n o = refl
share_is (inf s) n (inl q) = rw q refl
share_is (inf s) n (inr q) = rw q refl
share_is (fin s m e) n (inl q) = rw q (ap (round binary64 (unlike s false) (m * up e * 1)) (mul_comm (down e) 1))
share_is (fin s m e) n (inr q) = rw q (ap (round binary64 (unlike s false) (m * up e * 1)) (mul_comm (down e) 2))

-- ---- the lesser of two steps

-- nothing is above infinity
pub none_above : (x : Float) → lt (inf false) x ≡ false
unfolding lt
none_above nan = refl
none_above (inf s) = refl
none_above (fin s m e) = refl

-- where the lesser is not below r, neither is
pub lesser_both : (b s r : Float) → is_nan b ≡ false → lt (lesser_of b s) r ≡ false → (lt b r ≡ false) × (lt s r ≡ false)
lesser_both b s r n = cond_case (λ z. lt z r ≡ false → (lt b r ≡ false) × (lt s r ≡ false)) (lt s b) s b
    (λ t h. (not_so (lt b r) (λ u. clash (lt_trans s b r t u) h), h))
    (λ f h. (h, not_so (lt s r) (λ u. clash (lt_either s b r u h n) f)))

-- ---- growth by either of two steps of which neither is less

-- they are of one size
level : (s t : Bool) (a b : ℕ) → below s a t b ≡ false → below t b s a ≡ false → a ≡ b
level true true a b h i = omega (arith, ltb-false b a h, ltb-false a b i)
level true false a b h i = omega (arith, ltb-false 0 (a + b) h)
level false true a b h i = omega (arith, ltb-false 0 (b + a) i)
level false false a b h i = omega (arith, ltb-false a b h, ltb-false b a i)

scaled : (p x y d e : ℕ) → x * d ≡ y * e → p * x * (1 * d) ≡ p * y * (1 * e)
scaled p x y d e q = rw (one-mul d, one-mul e, mul_assoc p x d, mul_assoc p y e, q)

-- -0 is added as +0 is
sum_zero : (a b c : ℕ) → b ≡ 0 → sum binary64 false a true b c ≡ sum binary64 false a false b c
unfolding sum
sum_zero a b c q = rw (le-ltb a b (omega arith)) (ap (λ z. round binary64 false z c) (omega arith))

abbrev unsigned : Float → Float
unsigned nan = nan
unsigned (inf s) = inf false
unsigned (fin s m e) = fin false m e

module _ (k : ℕ) where
  -- 2 ^ k times x
  abbrev times : Float → Float
  times x = mul binary64 (fin false 1 (pos k)) x

  times_level : (x y : Float) → FromZero x → FromZero y → lt x y ≡ false → lt y x ≡ false → times (unsigned x) ≡ times (unsigned y)
  unfolding mul lt
  times_level nan y p q h i = absurd p
  times_level (inf s) nan p q h i = absurd q
  times_level (inf s) (inf t) p q h i = refl
  times_level (inf s) (fin t n d) p q h i = clash (rw p) i
  times_level (fin s m e) nan p q h i = absurd q
  times_level (fin s m e) (inf t) p q h i = clash (rw q) h
  times_level (fin s m e) (fin t n d) p q h i =
      let z = level s t (m * up e * down d) (n * up d * down e) h i in
      round_same binary64 false (1 * 2 ^ k * (m * up e)) (1 * down e) (1 * 2 ^ k * (n * up d)) (1 * down d) (mul-pos (lit< tt) (down_pos e)) (mul-pos (lit< tt) (down_pos d))
      (scaled (1 * 2 ^ k) (m * up e) (n * up d) (down d) (down e) z)

  add_unsigned : (a : ℕ) (b : ℤ) (x : Float) → FromZero x → add binary64 (fin false a b) (times x) ≡ add binary64 (fin false a b) (times (unsigned x))
  unfolding add mul
  add_unsigned a b nan p = absurd p
  add_unsigned a b (inf s) p = rw p refl
  add_unsigned a b (fin true m e) p =
      let z = no_right (1 * 2 ^ k) (m * up e) (no_left m (up e) p) in
      let d = mul-pos (lit< tt) (down_pos e) in
      rw (round_zero true (1 * 2 ^ k * (m * up e)) (1 * down e) z d, round_zero false (1 * 2 ^ k * (m * up e)) (1 * down e) z d)
      (sum_zero (a * up b * 1) (0 * 1 * down b) (down b * 1) (simp zero-mul))
  add_unsigned a b (fin false m e) p = refl

-- from a finite g of plus sign
pub grow_level : (n : ℕ) → OneOrTwo n → (g : Float) → Plus g → finite g ≡ true → (x y : Float) → FromZero x → FromZero y → lt x y ≡ false → lt y x ≡ false
    → add binary64 g (mul binary64 (of_int binary64 (pos n)) x) ≡ add binary64 g (mul binary64 (of_int binary64 (pos n)) y)
grow_level n o nan r f x y p q h i = absurd r
grow_level n o (inf s) r f x y p q h i = clash f refl
grow_level n o (fin true a b) r f x y p q h i = clash refl r
grow_level n o (fin false a b) r f x y p q h i =
    by_power (λ c. add binary64 (fin false a b) (mul binary64 c x) ≡ add binary64 (fin false a b) (mul binary64 c y)) n o
    (λ k. add_unsigned k a b x p ∙ ap (add binary64 (fin false a b)) (times_level k x y p q h i) ∙ sym (add_unsigned k a b y q))
