-- Each operation on values that are not negative gives a whole number of units near the exact result. Below 2 ^ k units the result is off by 2 ^ (k - 53) at most. Assumes nothing.
use mathlib.Core.Path.{◌≡◌, sym, ap, ◌∙◌, subst}
use mathlib.Core.Bool.{Bool, true, false, true≢false, cond}
use Prim.Native.Nat.{ℕ, ◌+◌, ◌-◌, ◌*◌, ◌^◌, ◌≤◌, ◌<◌}
use native.Mathlib.Nat.{le_trans, le_of_eq, lt_of_lt_of_le, lt_irrefl, mul_comm, mul_assoc, mul_left_comm, mul_right_comm, mul-mul-mul_comm, mul-le-mul_right, mul-lt-mul_of_pos_right, le_of_mul-le-mul_right, eq_of_mul-eq-mul_right, mul-pos, sub-le}
use native.Mathlib.Omega.{arith}
use lib.Dec.{T, eqb, eqb→eq, not_T}
use lib.Pow.{pow_pos, pow_mono}
use lib.Ieee.{Float, nan, inf, fin, binary64, up, down, round, add, sub, mul, div}
use lib.Ieee.Bits.{is_false}
use lib.Ieee.Fits.{down_pos}
use lib.Ieee.Positive.{first_pos}
use lib.Ieee.Scale.{grid, overflow, round_same}
use Rattle.weight.proofs.Err.{U, Within, rnd, off, rnd_near, grid_near}
use Rattle.weight.proofs.Values.{Units, round_units, add_units, sub_ge}
use Rattle.weight.proofs.Approx.{Near}

-- ---- products and quotients as one rounding
-- X units by Y units: a unit is 1 / U
pub mul_units : (x y : Float) (X Y : ℕ) → Units x X → Units y Y → mul binary64 x y ≡ round binary64 false (X * Y) (U * U)
unfolding mul
mul_units nan y X Y h k = absurd h
mul_units (inf s) y X Y h k = absurd h
mul_units (fin true m e) y X Y h k = absurd (true≢false h.0)
mul_units (fin false m e) nan X Y h k = absurd k
mul_units (fin false m e) (inf s) X Y h k = absurd k
mul_units (fin false m e) (fin true n d) X Y h k = absurd (true≢false k.0)
mul_units (fin false m e) (fin false n d) X Y h k =
    round_same binary64 false (m * up e * (n * up d)) (down e * down d) (X * Y) (U * U) (mul-pos (down_pos e) (down_pos d)) (mul-pos (pow_pos 1074) (pow_pos 1074))
    (mul-mul-mul_comm (m * up e) (n * up d) U U ∙ ap (λ (z : ℕ). z * (n * up d * U)) h.1 ∙ ap (λ (z : ℕ). X * down e * z) k.1 ∙ mul-mul-mul_comm X (down e) Y (down d))

-- p / d by q / e is X by Y, where p / d is X / u and q / e is Y / u
ratio : (p q d e X Y u : ℕ) → 0 < u → p * u ≡ X * d → q * u ≡ Y * e → p * e * Y ≡ X * (q * d)
ratio p q d e X Y u P h k =
    let a : p * e * Y * u ≡ p * u * (e * Y) = simp (mul_assoc, mul_comm, mul_left_comm) in
    let b : X * (q * d) * u ≡ X * d * (q * u) = simp (mul_assoc, mul_comm, mul_left_comm) in
    let c : X * d * (e * Y) ≡ X * d * (Y * e) = ap (λ (z : ℕ). X * d * z) (mul_comm e Y) in
    eq_of_mul-eq-mul_right u P (p * e * Y) (X * (q * d)) (a ∙ ap (λ (z : ℕ). z * (e * Y)) h ∙ c ∙ ap (λ (z : ℕ). X * d * z) (sym k) ∙ sym b)

-- a divisor above 0 passes the test
no_zero : (n : ℕ) → 0 < n → eqb n 0 ≡ false
no_zero n h = is_false (eqb n 0) (not_T (eqb n 0) (λ (t : T (eqb n 0)). lt_irrefl 0 (subst (λ (z : ℕ). 0 < z) (eqb→eq n 0 t) h)))

-- X units by Y units
pub div_units : (x y : Float) (X Y : ℕ) → Units x X → Units y Y → 0 < Y → div binary64 x y ≡ round binary64 false X Y
unfolding div
div_units nan y X Y h k P = absurd h
div_units (inf s) y X Y h k P = absurd h
div_units (fin true m e) y X Y h k P = absurd (true≢false h.0)
div_units (fin false m e) nan X Y h k P = absurd k
div_units (fin false m e) (inf s) X Y h k P = absurd k
div_units (fin false m e) (fin true n d) X Y h k P = absurd (true≢false k.0)
div_units (fin false m e) (fin false n d) X Y h k P =
    let N : 0 < n * up d = first_pos (n * up d) U (subst (λ (z : ℕ). 0 < z) (sym k.1) (mul-pos P (down_pos d))) in
    ap (λ (t : Bool). cond t (cond (eqb m 0) nan (inf false)) (round binary64 false (m * up e * down d) (n * up d * down e))) (no_zero n (first_pos n (up d) N))
    ∙ round_same binary64 false (m * up e * down d) (n * up d * down e) X Y (mul-pos N (down_pos e)) P (ratio (m * up e) (n * up d) (down e) (down d) X Y U (pow_pos 1074) h.1 k.1)

-- ---- no overflow: below 2 ^ 2090 units rounding gives a finite value
pub under : (k a c : ℕ) → 0 < c → k ≤ 2090 → a * U < 2 ^ k * c → grid binary64 a c < overflow binary64
under k a c C l h = lt_of_lt_of_le (small (2 ^ k) (2 ^ (k - 53)) (grid binary64 a c) c (a * U) C (pow_pos k) (pow_mono (sub-le k 53)) h (grid_near binary64 a c k C h).0) (room k l)
  where
    small : (K v g c n : ℕ) → 0 < c → 0 < K → v ≤ K → n < K * c → g * c * 2 ≤ n * 2 + c * v → g < 4 * K
    small K v g c n C P l h w =
        let a : c * v ≤ c * K = mul_le_left c l in
        let e1 : g * 2 * c ≡ g * c * 2 = mul_right_comm g 2 c in
        let e2 : 3 * K * c ≡ 3 * (K * c) = mul_assoc 3 K c in
        let e3 : c * K ≡ K * c = mul_comm c K in
        let b : g * 2 ≤ 3 * K = le_of_mul-le-mul_right (omega arith) C in
        omega arith
      where
        mul_le_left : (c : ℕ) {x y : ℕ} → x ≤ y → c * x ≤ c * y
        mul_le_left c {x} {y} l = le_trans (le_of_eq (mul_comm c x)) (le_trans (mul-le-mul_right c l) (le_of_eq (mul_comm y c)))

    room : (k : ℕ) → k ≤ 2090 → 4 * 2 ^ k ≤ overflow binary64
    room k l = le_trans (le_of_eq (sym (lib.Pow.pow-add 2 2 k))) (pow_mono (more k l))
      where
        more : (k : ℕ) → k ≤ 2090 → 2 + k ≤ 2098
        more k l = omega arith

-- from halves to wholes
halved : (x y v : ℕ) → x * 2 ≤ y * 2 + v → x ≤ y + v
halved x y v h = omega arith

-- ---- the operations, on what is below 2 ^ k units
-- what a result below 2 ^ k units is off by, at most
abbrev pub ulp : ℕ → ℕ
ulp k = 2 ^ (k - 53)

-- one rounding
near_rnd : (k n : ℕ) → n < 2 ^ k → Near (ulp k) (rnd n) n
near_rnd k n h = let w = rnd_near n k h in (halved (rnd n) n (ulp k) w.0, halved n (rnd n) (ulp k) w.1)

-- a sum
pub add_op : (k : ℕ) (x y : Float) (X Y : ℕ) → k ≤ 2090 → Units x X → Units y Y → X + Y < 2 ^ k → (Z : ℕ) × Units (add binary64 x y) Z × Near (ulp k) Z (X + Y)
add_op k x y X Y l h j b = (
  rnd (X + Y),
  subst (λ (z : Float). Units z (rnd (X + Y))) (sym (add_units x y X Y h j)) (round_units false (X + Y) U (under k (X + Y) U (pow_pos 1074) l (mul-lt-mul_of_pos_right b (pow_pos 1074)))),
  near_rnd k (X + Y) b,
)

-- a difference that is not negative
pub sub_op : (k : ℕ) (x y : Float) (X Y : ℕ) → k ≤ 2090 → Units x X → Units y Y → Y ≤ X → X - Y < 2 ^ k → (Z : ℕ) × Units (sub binary64 x y) Z × Near (ulp k) Z (X - Y)
sub_op k x y X Y l h j o b = (
  rnd (X - Y),
  subst (λ (z : Float). Units z (rnd (X - Y))) (sym (sub_ge x y X Y h j o)) (round_units false (X - Y) U (under k (X - Y) U (pow_pos 1074) l (mul-lt-mul_of_pos_right b (pow_pos 1074)))),
  near_rnd k (X - Y) b,
)

-- the product of X and Y units is X * Y / U
pub mul_op : (k : ℕ) (x y : Float) (X Y : ℕ) → k ≤ 2090 → Units x X → Units y Y → X * Y < 2 ^ k * U → (Z : ℕ) × Units (mul binary64 x y) Z × Near (ulp k * U) (Z * U) (X * Y)
mul_op k x y X Y l h j b =
    let Z = grid binary64 (X * Y) (U * U) in
    let P : 0 < U * U = mul-pos (pow_pos 1074) (pow_pos 1074) in
    let lim : X * Y * U < 2 ^ k * (U * U) = lt_of_lt_of_le (mul-lt-mul_of_pos_right b (pow_pos 1074)) (le_of_eq (mul_assoc (2 ^ k) U U)) in
    let w : Within (U * U * ulp k) (Z * (U * U)) (X * Y * U) = grid_near binary64 (X * Y) (U * U) k P lim in
    let e : Z * U * U ≡ Z * (U * U) = mul_assoc Z U U in
    let f : U * U * ulp k ≡ U * (ulp k * U) = mul_assoc U U (ulp k) ∙ ap (λ (z : ℕ). U * z) (mul_comm U (ulp k)) in
    let w' : Within (U * (ulp k * U)) (Z * U * U) (X * Y * U) = subst (λ (z : ℕ). Within z (Z * U * U) (X * Y * U)) f (subst (λ (z : ℕ). Within (U * U * ulp k) z (X * Y * U)) (sym e) w) in (
      Z,
      subst (λ (z : Float). Units z Z) (sym (mul_units x y X Y h j)) (round_units false (X * Y) (U * U) (under k (X * Y) (U * U) P l lim)),
      (
        halved (Z * U) (X * Y) (ulp k * U) (off U (ulp k * U) (Z * U) (X * Y) (pow_pos 1074) w'.0),
        halved (X * Y) (Z * U) (ulp k * U) (off U (ulp k * U) (X * Y) (Z * U) (pow_pos 1074) w'.1),
      ),
    )

-- a quotient
pub div_op : (k : ℕ) (x y : Float) (X Y : ℕ) → k ≤ 2090 → Units x X → Units y Y → 0 < Y → X * U < 2 ^ k * Y → (Z : ℕ) × Units (div binary64 x y) Z × Near (ulp k * Y) (Z * Y) (X * U)
div_op k x y X Y l h j P b =
    let Z = grid binary64 X Y in
    let w : Within (ulp k * Y) (Z * Y) (X * U) = subst (λ (z : ℕ). Within z (Z * Y) (X * U)) (mul_comm Y (ulp k)) (grid_near binary64 X Y k P b) in (
      Z,
      subst (λ (z : Float). Units z Z) (sym (div_units x y X Y h j P)) (round_units false X Y (under k X Y P l b)),
      (halved (Z * Y) (X * U) (ulp k * Y) w.0, halved (X * U) (Z * Y) (ulp k * Y) w.1),
    )
