-- How far rounding moves a fraction: half a unit of the last digit kept. Assumes nothing.
use mathlib.Core.Path.{◌≡◌, sym, ap, ◌∙◌, subst}
use mathlib.Core.Bool.{not}
use Prim.Native.Nat.{ℕ, suc, ◌+◌, ◌-◌, ◌*◌, ◌/◌, ◌%◌, ◌^◌, ◌≤◌, ◌<◌, compare, Ordering}
use native.Mathlib.Nat.{le_trans, le_of_eq, lt_of_lt_of_le, mul_comm, mul_assoc, mul_right_comm, add-mul, suc-mul, mul-le-mul_right, mul-le-mul_left, mul-lt-mul_of_pos_right, le_of_mul-le-mul_right, div-add-mod', div-lt_iff_lt-mul, mul-pos, mod-lt}
use native.Mathlib.Omega.{arith}
use lib.Dec.{T, is_le, compare_is_eq, eqb, leb→le, nleb→lt, eqb→eq, eqb_refl}
use lib.Arith.{lt_of_le-ne}
use lib.Pow.{pow_pos, pow_mono}
use lib.Ieee.{Format, binary64, prec, low, size, nearest}
use lib.Ieee.Digits.{size-le}
use lib.Ieee.Nearest.{closest}
use lib.Ieee.Order.{drop, kept}
use lib.Ieee.Scale.{grid}

-- ---- what `compare` says
abbrev Cmp : Ordering → ℕ → ℕ → Type 0
Cmp Ordering.lt a b = a < b
Cmp Ordering.eq a b = a ≡ b
Cmp Ordering.gt a b = b < a

-- of any two numbers
cmp : (a b : ℕ) → Cmp (compare a b) a b
cmp a b = go (compare a b) (leb→le a b) (nleb→lt a b) (eqb→eq a b) (λ (e : a ≡ b). subst (λ (x : ℕ). T (eqb a x)) e (eqb_refl a))
  where
    go : (o : Ordering) → (T (is_le o) → a ≤ b) → (T (not (is_le o)) → b < a) → (T (compare_is_eq o) → a ≡ b) → (a ≡ b → T (compare_is_eq o)) → Cmp o a b
    go Ordering.lt h k e n = lt_of_le-ne (h tt) n
    go Ordering.eq h k e n = e tt
    go Ordering.gt h k e n = k tt

-- x and y, in units, differ by half of u at most
abbrev pub Within : ℕ → ℕ → ℕ → Type 0
Within u x y = (x * 2 ≤ y * 2 + u) × (y * 2 ≤ x * 2 + u)

-- ---- the nearest multiple of u: the three cases of `nearest`
nearest_err : (o : Ordering) (q r u : ℕ) → r < u → Cmp o (r * 2) u → Within u (nearest q o * u) (q * u + r)
nearest_err Ordering.lt q r u l h = (omega arith, omega arith)
nearest_err Ordering.eq q r u l h =
    let e : (q + q % 2) * u ≡ q * u + q % 2 * u = add-mul q (q % 2) u in
    let b : q % 2 ≤ 1 = omega arith in
    let m : q % 2 * u ≤ 1 * u = mul-le-mul_right u b in
    (omega arith, omega arith)
nearest_err Ordering.gt q r u l h =
    let e : suc q * u ≡ q * u + u = suc-mul q u in
    (omega arith, omega arith)

-- n to the nearest multiple of u
pub closest_err : (n u : ℕ) → 0 < u → Within u (closest n u * u) n
closest_err n u U =
    subst (λ (x : ℕ). Within u (closest n u * u) x) (div-add-mod' n u)
    (nearest_err (compare (n % u * 2) u) (n / u) (n % u) u (mod-lt n U) (cmp (n % u * 2) u))

-- ---- a / c rounded, in the format's smallest units: off by half of 2 ^ drop at most
pub grid_err : (f : Format) (a c : ℕ) → 0 < c → Within (c * 2 ^ drop (prec f) (a * 2 ^ low f) c) (grid f a c * c) (a * 2 ^ low f)
grid_err f a c C =
    let n = a * 2 ^ low f in
    let d = drop (prec f) n c in
    subst (λ (x : ℕ). Within (c * 2 ^ d) x n) (ap (λ (x : ℕ). kept (prec f) n c * x) (mul_comm c (2 ^ d)) ∙ sym (mul_assoc (kept (prec f) n c) (2 ^ d) c))
    (closest_err n (c * 2 ^ d) (mul-pos C (pow_pos d)))

-- digits that are dropped
fewer : (x k p : ℕ) → x ≤ k → x - p ≤ k - p
fewer x k p h = omega arith

-- a fraction below 2 ^ k units is dropped k - prec digits at most
drop_le : (p n c k : ℕ) → 0 < c → n < 2 ^ k * c → drop p n c ≤ k - p
drop_le p n c k C h = fewer (size (n / c)) k p (size-le (n / c) k ((div-lt_iff_lt-mul C).1 h))

-- more room
widen : (u v x y : ℕ) → u ≤ v → Within u x y → Within v x y
widen u v x y h w = (omega (arith, w.0), omega (arith, w.1))

-- the absolute error below 2 ^ k units
pub grid_near : (f : Format) (a c k : ℕ) → 0 < c → a * 2 ^ low f < 2 ^ k * c → Within (c * 2 ^ (k - prec f)) (grid f a c * c) (a * 2 ^ low f)
grid_near f a c k C h =
    let n = a * 2 ^ low f in
    widen (c * 2 ^ drop (prec f) n c) (c * 2 ^ (k - prec f)) (grid f a c * c) n (mul-le-mul_left c (pow_mono (drop_le (prec f) n c k C h))) (grid_err f a c C)

-- ---- binary64, by whole numbers of units. U is one: 2 ^ 1074 units
abbrev pub U : ℕ
U = 2 ^ 1074

-- n units rounded
abbrev pub rnd : ℕ → ℕ
rnd n = grid binary64 n U

-- a common factor c taken out of a bound
pub off : (c v x y : ℕ) → 0 < c → x * c * 2 ≤ y * c * 2 + c * v → x * 2 ≤ y * 2 + v
off c v x y C h =
    le_of_mul-le-mul_right
    (le_trans (le_of_eq (mul_right_comm x 2 c)) (le_trans h (le_of_eq (ap (λ (z : ℕ). z + c * v) (mul_right_comm y c 2) ∙ ap (λ (z : ℕ). y * 2 * c + z) (mul_comm c v) ∙ sym (add-mul (y * 2) v c))))) C

-- below 2 ^ k units a rounding is off by half of 2 ^ (k - 53) at most
pub rnd_near : (n k : ℕ) → n < 2 ^ k → Within (2 ^ (k - 53)) (rnd n) n
rnd_near n k h =
    let w : Within (U * 2 ^ (k - 53)) (rnd n * U) (n * U) = grid_near binary64 n U k (pow_pos 1074) (mul-lt-mul_of_pos_right h (pow_pos 1074)) in
    (off U (2 ^ (k - 53)) (rnd n) n (pow_pos 1074) w.0, off U (2 ^ (k - 53)) n (rnd n) (pow_pos 1074) w.1)

-- half of n units rounded
abbrev pub half : ℕ → ℕ
half n = grid binary64 n (2 * U)

-- 2 * c units to a one
twice : (x c : ℕ) → x * (2 * c) ≡ x * 2 * c
twice x c = sym (mul_assoc x 2 c)

-- over a variable, since `omega` takes no literal of more than 38 digits
more : (x : ℕ) → x ≤ 2 * x
more x = omega arith

-- and so is a half
pub half_near : (n k : ℕ) → n < 2 ^ k → Within (2 * 2 ^ (k - 53)) (half n * 2) n
half_near n k h =
    let C : 0 < 2 * U = mul-pos (pow_pos 1) (pow_pos 1074) in
    let l : n * U < 2 ^ k * (2 * U) = lt_of_lt_of_le (mul-lt-mul_of_pos_right h (pow_pos 1074)) (mul-le-mul_left (2 ^ k) (more U)) in
    let w : Within (2 * U * 2 ^ (k - 53)) (half n * (2 * U)) (n * U) = grid_near binary64 n (2 * U) k C l in
    let e : 2 * U * 2 ^ (k - 53) ≡ U * (2 * 2 ^ (k - 53)) = ap (λ (x : ℕ). x * 2 ^ (k - 53)) (mul_comm 2 U) ∙ mul_assoc U 2 (2 ^ (k - 53)) in
    let v : Within (U * (2 * 2 ^ (k - 53))) (half n * 2 * U) (n * U) =
    subst (λ (x : ℕ). Within x (half n * 2 * U) (n * U)) e (subst (λ (x : ℕ). Within (2 * U * 2 ^ (k - 53)) x (n * U)) (twice (half n) U) w) in
    (off U (2 * 2 ^ (k - 53)) (half n * 2) n (pow_pos 1074) v.0, off U (2 * 2 ^ (k - 53)) n (half n * 2) (pow_pos 1074) v.1)
