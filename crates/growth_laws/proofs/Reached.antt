-- A value that does not reach a weight, but for the tolerance, is finite and at most the weight. Assumes nothing.
use Prim.Native.Nat.{ℕ, zero, suc, ◌+◌, ◌-◌, ◌*◌, ◌%◌, ◌^◌, ◌≤◌, ◌<◌}
use native.Mathlib.Nat.{le_of_eq, lt_of_lt_of_le, lt_irrefl, zero-mul, mul-one, mul_comm, mul_assoc, mul_right_comm, add-mul, mul-pos, mul-lt-mul_of_pos_right, lt_of_mul-lt-mul_right, sub-add_cancel}
use native.Mathlib.Omega.{arith}
use mathlib.Core.Path.{◌≡◌, refl, sym, ap, ◌∙◌}
use mathlib.Core.Bool.{Bool, true, false, ◌&&◌}
use lib.IntN.{ℤ, pos, negsuc}
use lib.Dec.{T, eqb, leb, ltb, leb→le, ltb→lt}
use lib.Pow.{pow_pos, pow-add, pow-lt}
use lib.Ieee.{Float, nan, inf, fin, binary64, up, down, fits, round, sum, add, lt, eq, le}
use lib.Ieee.Bits.{is_true}
use lib.Ieee.Exact.{HasValue, round_exact}
use lib.Ieee.Fits.{and_l, and_r, down_pos}
use lib.Ieee.Order.{round_mono, le_of_values}
use lib.Ieee.Positive.{through}
use lib.Ieee.Scale.{finite}
use borrow.Author.Tests.{leb-true, leb-false, eq-eqb, ltb-false}
use Rattle.lists.proofs.Truth.{case-of, clash}
use Rattle.weight.proofs.Values.{Units}
use Rattle.growth_laws.proofs.Signs.{Plus, FromZero, round_plus, le_cross, cross_le}

-- ---- what the format holds is its own rounding

-- a / c is b / u and below v, so b is below u * v
below : (a b c u v : ℕ) → 0 < u → a * u ≡ b * c → a < v * c → b < u * v
below a b c u v U q h =
    let i : a * u < v * c * u = mul-lt-mul_of_pos_right h U in
    let e : v * c * u ≡ u * v * c = mul_right_comm v c u ∙ ap (λ (z : ℕ). z * c) (mul_comm v u) in
    lt_of_mul-lt-mul_right c (omega arith)

small_power : (k : ℕ) → 2 ^ k ≤ 2 ^ 1074 → k ≤ 1074
small_power k h = case-of (leb k 1074) (λ t. leb-true k 1074 t) (λ f. absurd (lt_irrefl (2 ^ 1074) (lt_of_lt_of_le (pow-lt (leb-false k 1074 f)) h)))

-- m * 2 ^ e is digits * 2 ^ shift of the format's smallest values, with as many digits as the format keeps
record Whole (m : ℕ) (e : ℤ) : Type 0 where
  digits : ℕ
  shift : ℕ
  kept : digits < 2 ^ 53
  most : m * up e < 2 ^ 1024 * down e
  value : m * up e * 2 ^ 1074 ≡ digits * 2 ^ shift * down e

module _ (m : ℕ) (e : ℤ) (h : T (fits binary64 (fin false (suc m) e))) where
  -- the digits, the exponent and the size of what the format holds
  held : (suc m < 2 ^ 53) × (down e ≤ 2 ^ 1074) × (suc m * up e < 2 ^ 1024 * down e)
  unfolding fits
  held =
      let A = eqb (suc m % 2) 1 in
      let B = ltb (suc m) (2 ^ 53) in
      let C = leb (down e) (2 ^ 1074) in
      let D = ltb (suc m * up e) (2 ^ 1024 * down e) in
      let l = and_l (A && B && C) D h in
      (ltb→lt (suc m) (2 ^ 53) (and_r A B (and_l (A && B) C l)), leb→le (down e) (2 ^ 1074) (and_r (A && B) C l), ltb→lt (suc m * up e) (2 ^ 1024 * down e) (and_r (A && B && C) D h))

  whole_by : (j : ℕ) → suc m * up e * 2 ^ 1074 ≡ suc m * 2 ^ j * down e → Whole (suc m) e
  whole_by j q = record { digits = suc m; shift = j; kept = held.0; most = held.2; value = q }

whole : (m : ℕ) (e : ℤ) → T (fits binary64 (fin false m e)) → Whole m e
whole zero e h = record { digits = 0; shift = 0; kept = pow_pos 53; most = rw zero-mul (mul-pos (pow_pos 1024) (down_pos e)); value = simp zero-mul }
whole (suc m) (pos k) h = whole_by m (pos k) h (k + 1074) (mul_assoc (suc m) (2 ^ k) (2 ^ 1074) ∙ ap (λ (z : ℕ). suc m * z) (sym (pow-add 2 k 1074)) ∙ sym (mul-one (suc m * 2 ^ (k + 1074))))
whole (suc m) (negsuc k) h =
    let l : suc k ≤ 1074 = small_power (suc k) (held m (negsuc k) h).1 in
    whole_by m (negsuc k) h (1074 - suc k)
    (ap (λ (z : ℕ). z * 2 ^ 1074) (mul-one (suc m)) ∙ ap (λ (z : ℕ). suc m * 2 ^ z) (sym (sub-add_cancel l)) ∙ ap (λ (z : ℕ). suc m * z) (pow-add 2 (1074 - suc k) (suc k)) ∙ sym (mul_assoc (suc m) (2 ^ (1074 - suc k)) (2 ^ suc k)))

-- it is so many units
pub held_units : (m : ℕ) (e : ℤ) → T (fits binary64 (fin false m e)) → (X : ℕ) × Units (fin false m e) X
held_units m e h = let w = whole m e h in (w.digits * 2 ^ w.shift, (refl, w.value))

own : (m : ℕ) (e : ℤ) → T (fits binary64 (fin false m e)) → HasValue (round binary64 false (m * up e) (down e)) false (m * up e) (down e)
own m e h =
    let w = whole m e h in
    round_exact binary64 false (m * up e) (down e) w.digits w.shift (down_pos e) w.kept
    (lt_of_lt_of_le (below (m * up e) (w.digits * 2 ^ w.shift) (down e) (2 ^ 1074) (2 ^ 1024) (pow_pos 1074) w.value w.most) (le_of_eq (sym (pow-add 2 1074 1024))))
    w.value

-- ---- the order

-- a value of plus sign that is at most the next, and that at most the last
pub le_plus : (n : ℕ) (d : ℤ) (x y : Float) → Plus x → Plus y → le (fin false n d) x ≡ true → le x y ≡ true → le (fin false n d) y ≡ true
unfolding le lt eq
le_plus n d x nan p q h k = absurd q
le_plus n d x (inf t) p q h k = rw q
le_plus n d nan (fin t l c) p q h k = absurd p
le_plus n d (inf s) (fin t l c) p q h k = clash k (rw p)
le_plus n d (fin true m e) (fin t l c) p q h k = clash refl p
le_plus n d (fin false m e) (fin true l c) p q h k = clash refl q
le_plus n d (fin false m e) (fin false l c) p q h k =
    cross_le n l d c (through (n * up d) (m * up e) (l * up c) (down d) (down e) (down c) (down_pos e) (le_cross n m d e h) (le_cross m l e c k))

-- w is at most g, and g, which the format holds, at most a / c: w is at most a / c rounded
module _ (n m : ℕ) (d e : ℤ) (a c : ℕ) (held : T (fits binary64 (fin false m e))) (h : n * up d * down e ≤ m * up e * down d) (C : 0 < c) (k : m * up e * c ≤ a * down e) where
  le_round : le (fin false n d) (round binary64 false a c) ≡ true
  le_round =
      let g = round binary64 false (m * up e) (down e) in
      le_plus n d g (round binary64 false a c) (round_plus (m * up e) (down e)) (round_plus a c)
      (is_true (le (fin false n d) g) (le_of_values (fin false n d) g (n * up d) (down d) (m * up e) (down e) (down_pos d) (down_pos e) (refl, refl) (own m e held) h))
      (is_true (le g (round binary64 false a c)) (round_mono binary64 (m * up e) (down e) a c (down_pos e) C k))

-- ---- a sum with the tolerance, or with another value of plus sign

-- g over the divisor of the sum
sum_over : (a b d r : ℕ) → a * (d * r) ≤ (a * r + b * d) * d
sum_over a b d r =
    let i : (a * r + b * d) * d ≡ a * r * d + b * d * d = add-mul (a * r) (b * d) d in
    let j : a * (d * r) ≡ a * r * d = ap (λ (z : ℕ). a * z) (mul_comm d r) ∙ sym (mul_assoc a r d) in
    omega arith

-- from 0 is at most infinity
under_infinity : (w : Float) (s : Bool) → FromZero w → s ≡ false → le w (inf s) ≡ true
unfolding le lt eq
under_infinity nan s p q = absurd p
under_infinity (inf t) s p q = rw (p, q)
under_infinity (fin t n d) s p q = rw q

-- -0 is at most what has a plus sign
pub minus_under : (n : ℕ) (d : ℤ) (y : Float) → n ≡ 0 → Plus y → le (fin true n d) y ≡ true
unfolding le lt eq
minus_under n d nan z p = absurd p
minus_under n d (inf s) z p = rw p
minus_under n d (fin true m e) z p = clash refl p
minus_under n d (fin false m e) z p =
    let b = m * up e * down d in
    rw (z, zero-mul, zero-mul) (case-of (ltb 0 (0 + b)) (λ t. rw t) (λ f. rw (f, eq-eqb 0 b (omega (arith, ltb-false 0 (0 + b) f)))))

-- finite, and at most w
pub record Under (w x : Float) : Type 0 where
  pub ends : finite x ≡ true
  pub most : le x w ≡ true

module _ (q : ℕ) (r : ℤ) where
  -- an x that does not reach w within q * 2 ^ r
  pub not_reached : (w x : Float) → FromZero w → Plus x → T (fits binary64 x) → le w (add binary64 x (fin false q r)) ≡ false → Under w x
  unfolding add sum
  not_reached w nan f p h k = absurd p
  not_reached w (inf s) f p h k = clash (under_infinity w s f p) k
  not_reached w (fin true m e) f p h k = clash refl p
  not_reached nan (fin false m e) f p h k = absurd f
  not_reached (inf s) (fin false m e) f p h k = record { ends = refl; most = under_infinity (fin false m e) s tt f }
  not_reached (fin true n d) (fin false m e) f p h k =
      clash (minus_under n d (round binary64 false (m * up e * down r + q * up r * down e) (down e * down r)) f (round_plus (m * up e * down r + q * up r * down e) (down e * down r))) k
  not_reached (fin false n d) (fin false m e) f p h k = record {
    ends = refl;
    most = case-of (leb (m * up e * down d) (n * up d * down e))
        (λ u. cross_le m n e d (leb-true (m * up e * down d) (n * up d * down e) u))
        (λ u. clash (le_round n m d e (m * up e * down r + q * up r * down e) (down e * down r) h (omega (arith, leb-false (m * up e * down d) (n * up d * down e) u)) (mul-pos (down_pos e) (down_pos r))
        (sum_over (m * up e) (q * up r) (down e) (down r))) k);
  }
