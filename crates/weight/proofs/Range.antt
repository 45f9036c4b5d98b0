-- Rounding stays between whole numbers: an exact result from L to N, of 1024 at most, is from L to N once it is rounded. Assumes nothing.
use mathlib.Core.Path.{◌≡◌, sym, ap, ◌∙◌, subst}
use mathlib.Core.Logic.{◌⊎◌, inl, inr}
use mathlib.Core.Bool.{false}
use Prim.Native.Nat.{ℕ, ◌+◌, ◌-◌, ◌*◌, ◌^◌, ◌≤◌, ◌<◌, zero-le}
use native.Mathlib.Nat.{le_refl, le_trans, le_of_eq, lt_of_lt_of_le, mul_comm, mul_assoc, mul-mul-mul_comm, add-mul, mul-le-mul, mul-le-mul_right, mul-lt-mul_of_pos_right, mul-pos, mul-one, zero-mul, eq-or-lt_of_le}
use native.Mathlib.Omega.{arith}
use lib.Dec.{T, lit≤, lit<}
use lib.Pow.{pow_pos}
use lib.Ieee.{Float, binary64, round, add, sub, mul, div, le}
use lib.Ieee.Exact.{HasValue}
use lib.Ieee.Back.{round_whole}
use lib.Ieee.Order.{round_mono}
use lib.Ieee.Positive.{positive, positive_of_value, values_of_le, between}
use lib.Ieee.Scale.{grid}
use Rattle.weight.proofs.Err.{U}
use Rattle.weight.proofs.Values.{Units, round_units, add_units, sub_ge}
use Rattle.weight.proofs.Ops.{under, mul_units, div_units}

-- x is finite and from L to N: it is X units
pub record Range (L N : ℕ) (x : Float) : Type 0 where
  pub X : ℕ
  pub value : Units x X
  pub least : L * U ≤ X
  pub most : X ≤ N * U

-- a / c is of 1024 at most, so in units of 1 / u it is below v
scaled : (u v c a N : ℕ) → 0 < c → N ≤ 1024 → 1024 * u < v → a ≤ N * c → a * u < v * c
scaled u v c a N C h k l =
    let i : a * u ≤ N * c * u = mul-le-mul_right u l in
    let j : N * (c * u) ≤ 1024 * (c * u) = mul-le-mul_right (c * u) h in
    let m : 1024 * u * c < v * c = mul-lt-mul_of_pos_right k C in
    let e : N * c * u ≡ N * (c * u) = mul_assoc N c u in
    let f : 1024 * (c * u) ≡ 1024 * u * c = ap (λ (z : ℕ). 1024 * z) (mul_comm c u) ∙ sym (mul_assoc 1024 u c) in
    omega arith

-- ---- a / c rounded, for a / c from L to N
module _ (a c L N : ℕ) (C : 0 < c) (some : 0 < N) (small : N ≤ 1024) (lo : L * c ≤ a) (hi : a ≤ N * c) where
  -- its rounding is N at most, since N is its own
  below : T (le (round binary64 false a c) (round binary64 false N 1))
  below = round_mono binary64 a c N 1 C (lit< tt) (le_trans (le_of_eq (mul-one a)) hi)

  -- and L at least
  above : T (le (round binary64 false L 1) (round binary64 false a c))
  above = round_mono binary64 L 1 a c (lit< tt) C (le_trans lo (le_of_eq (sym (mul-one a))))

  -- a whole number is its own rounding
  exact : (n : ℕ) → n ≤ 1024 → HasValue (round binary64 false n 1) false n 1
  exact n h = round_whole binary64 false n (le_trans h (lit≤ tt))

  -- N is above 0
  top : T (positive (round binary64 false N 1))
  top = positive_of_value (round binary64 false N 1) N 1 (exact N small) some

  -- it is finite
  units : Units (round binary64 false a c) (grid binary64 a c)
  units = round_units false a c (under 1085 a c C (lit≤ tt) (scaled U (2 ^ 1085) c a N C small (lit< tt) hi))

  -- 0 is N at most, and what is above 0 has an order with N
  under_top : (0 ≡ grid binary64 a c) ⊎ (0 < grid binary64 a c) → grid binary64 a c ≤ N * U
  under_top (inl e) = le_trans (le_of_eq (sym e)) zero-le
  under_top (inr p) =
      le_trans (le_of_eq (sym (mul-one (grid binary64 a c))))
      (values_of_le (round binary64 false a c) (round binary64 false N 1) (grid binary64 a c) U N 1 (positive_of_value (round binary64 false a c) (grid binary64 a c) U units p) top units (exact N small) below)

  -- 0 is 0 at least, and where L is above 0 so is the rounding
  over_bottom : (0 ≡ L) ⊎ (0 < L) → L ≤ 1024 → L * U ≤ grid binary64 a c
  over_bottom (inl e) l = le_trans (le_of_eq (ap (λ (z : ℕ). z * U) (sym e) ∙ zero-mul U)) zero-le
  over_bottom (inr p) l =
      let b : T (positive (round binary64 false L 1)) = positive_of_value (round binary64 false L 1) L 1 (exact L l) p in
      let z : T (positive (round binary64 false a c)) = between (round binary64 false L 1) (round binary64 false a c) (round binary64 false N 1) b top above below in
      le_trans (values_of_le (round binary64 false L 1) (round binary64 false a c) L 1 (grid binary64 a c) U b z (exact L l) units above) (le_of_eq (mul-one (grid binary64 a c)))

  -- it is still from L to N
  pub round_range : L ≤ N → Range L N (round binary64 false a c)
  round_range l = record {
    X = grid binary64 a c;
    value = units;
    least = over_bottom (eq-or-lt_of_le zero-le) (le_trans l small);
    most = under_top (eq-or-lt_of_le zero-le);
  }

-- ---- the operations, by the bounds of what they work on
-- N itself
pub whole_range : {x : Float} (N : ℕ) → Units x (N * U) → Range N N x
whole_range N h = record { X = N * U; value = h; least = le_refl (N * U); most = le_refl (N * U) }

-- wider bounds
pub range_more : {L N K M : ℕ} {x : Float} → K ≤ L → N ≤ M → Range L N x → Range K M x
range_more k m r = record {
  X = r.X;
  value = r.value;
  least = le_trans (mul-le-mul_right U k) r.least;
  most = le_trans r.most (mul-le-mul_right U m);
}

-- of whole numbers of u
sum_bounds : (u K M L N X Y : ℕ) → K * u ≤ X → X ≤ M * u → L * u ≤ Y → Y ≤ N * u → ((K + L) * u ≤ X + Y) × (X + Y ≤ (M + N) * u)
sum_bounds u K M L N X Y a b c d =
    let e : (K + L) * u ≡ K * u + L * u = add-mul K L u in
    let f : (M + N) * u ≡ M * u + N * u = add-mul M N u in
    (omega arith, omega arith)

-- the bounds of a sum are in order
sum_order : (K M L N : ℕ) → K ≤ M → L ≤ N → K + L ≤ M + N
sum_order K M L N h k = omega arith

-- a sum
pub add_range : {K M L N : ℕ} {x y : Float} → Range K M x → Range L N y → K ≤ M → L ≤ N → 0 < M + N → M + N ≤ 1024 → Range (K + L) (M + N) (add binary64 x y)
add_range {K} {M} {L} {N} {x} {y} r q h k some small =
    let b = sum_bounds U K M L N r.X q.X r.least r.most q.least q.most in
    subst (Range (K + L) (M + N)) (sym (add_units x y r.X q.X r.value q.value))
    (round_range (r.X + q.X) U (K + L) (M + N) (pow_pos 1074) some small b.0 b.1 (sum_order K M L N h k))

-- of whole numbers of u
diff_bounds : (u K M L N X Y : ℕ) → N ≤ K → K ≤ M → L ≤ N → K * u ≤ X → X ≤ M * u → L * u ≤ Y → Y ≤ N * u → ((K - N) * u ≤ X - Y) × (X - Y ≤ (M - L) * u) × (Y ≤ X)
diff_bounds u K M L N X Y h i j a b c d =
    let e : (K - N) * u + N * u ≡ K * u = sym (add-mul (K - N) N u) ∙ ap (λ (z : ℕ). z * u) (back K N h) in
    let f : (M - L) * u + L * u ≡ M * u = sym (add-mul (M - L) L u) ∙ ap (λ (z : ℕ). z * u) (back M L (le_trans j (le_trans h i))) in
    (omega arith, omega arith, omega arith)
  where
    back : (p q : ℕ) → q ≤ p → p - q + q ≡ p
    back p q l = omega arith

-- the bounds of a difference are in order
diff_order : (K M L N : ℕ) → K ≤ M → L ≤ N → K - N ≤ M - L
diff_order K M L N h k = omega arith

-- a difference, where no y is above any x
pub sub_range : {K M L N : ℕ} {x y : Float} → Range K M x → Range L N y → N ≤ K → K ≤ M → L ≤ N → 0 < M - L → M - L ≤ 1024 → Range (K - N) (M - L) (sub binary64 x y)
sub_range {K} {M} {L} {N} {x} {y} r q h i j some small =
    let b = diff_bounds U K M L N r.X q.X h i j r.least r.most q.least q.most in
    subst (Range (K - N) (M - L)) (sym (sub_ge x y r.X q.X r.value q.value b.2))
    (round_range (r.X - q.X) U (K - N) (M - L) (pow_pos 1074) some small b.0 b.1 (diff_order K M L N i j))

-- a product
pub mul_range : {K M L N : ℕ} {x y : Float} → Range K M x → Range L N y → K ≤ M → L ≤ N → 0 < M * N → M * N ≤ 1024 → Range (K * L) (M * N) (mul binary64 x y)
mul_range {K} {M} {L} {N} {x} {y} r q h k some small =
    subst (Range (K * L) (M * N)) (sym (mul_units x y r.X q.X r.value q.value))
    (round_range (r.X * q.X) (U * U) (K * L) (M * N) (mul-pos (pow_pos 1074) (pow_pos 1074)) some small
    (le_trans (le_of_eq (mul-mul-mul_comm K L U U)) (mul-le-mul r.least q.least))
    (le_trans (mul-le-mul r.most q.most) (le_of_eq (mul-mul-mul_comm M U N U))) (mul-le-mul h k))

-- a quotient is at most Q, where Q times the least divisor is the largest dividend at least
pub div_range : {K M L N : ℕ} {x y : Float} (Q : ℕ) → Range K M x → Range L N y → 0 < L → M ≤ Q * L → 0 < Q → Q ≤ 1024 → Range 0 Q (div binary64 x y)
div_range {K} {M} {L} {N} {x} {y} Q r q pos h some small =
    let P : 0 < q.X = lt_of_lt_of_le (mul-pos pos (pow_pos 1074)) q.least in
    let b : r.X ≤ Q * q.X = le_trans r.most (le_trans (mul-le-mul_right U h) (le_trans (le_of_eq (mul_assoc Q L U)) (mul-le-mul (le_refl Q) q.least))) in
    subst (Range 0 Q) (sym (div_units x y r.X q.X r.value q.value P))
    (round_range r.X q.X 0 Q P some small (le_trans (le_of_eq (zero-mul q.X)) zero-le) b zero-le)
