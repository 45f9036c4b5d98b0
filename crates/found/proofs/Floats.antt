-- The order of floats: no value is below itself, below is transitive, and of values that are not NaN it leaves none unplaced.
use Prim.Native.Nat.{ℕ, zero, suc, ◌+◌, ◌*◌, ◌≤◌, ◌<◌}
use native.Mathlib.Nat.{zero-mul, mul_right_comm, mul-pos, zero-lt-suc, mul-le-mul_right, mul-lt-mul_of_pos_right, lt_of_mul-lt-mul_right}
use native.Mathlib.Omega.{arith}
use mathlib.Core.Path.{◌≡◌, refl}
use mathlib.Core.Bool.{Bool, true, false, not}
use lib.Ieee.{Float, nan, inf, fin, up, down, below, lt, is_nan}
use lib.Ieee.Fits.{down_pos}
use borrow.Author.Tests.{ltb-true, ltb-false, lt-ltb, le-ltb, not-true}
use Rattle.lists.proofs.Truth.{clash, and_left, and_right}

-- ---- fractions

some_left : (a b c : ℕ) → 0 < a * b → 0 < c → 0 < a * c
some_left zero b c h k = absurd (omega (arith, zero-mul b))
some_left (suc a) b c h k = mul-pos (zero-lt-suc a) k

module _ (x y z dx dy dz : ℕ) (px : 0 < dx) (py : 0 < dy) (pz : 0 < dz) where
  -- x / dx < y / dy < z / dz
  between : x * dy < y * dx → y * dz < z * dy → x * dz < z * dx
  between h k =
      let a : x * dy * dz < y * dx * dz = mul-lt-mul_of_pos_right h pz in
      let b : y * dz * dx < z * dy * dx = mul-lt-mul_of_pos_right k px in
      lt_of_mul-lt-mul_right dy (omega (arith, a, b, mul_right_comm x dy dz, mul_right_comm y dx dz, mul_right_comm z dy dx))

  -- x / dx < z / dz ≤ y / dy
  under : x * dz < z * dx → z * dy ≤ y * dz → x * dy < y * dx
  under h k =
      let a : x * dz * dy < z * dx * dy = mul-lt-mul_of_pos_right h py in
      let b : z * dy * dx ≤ y * dz * dx = mul-le-mul_right dx k in
      lt_of_mul-lt-mul_right dz (omega (arith, a, b, mul_right_comm x dz dy, mul_right_comm z dx dy, mul_right_comm y dz dx))

  -- y / dy ≤ z / dz < x / dx
  over : z * dx < x * dz → y * dz ≤ z * dy → y * dx < x * dy
  over h k =
      let a : z * dx * dy < x * dz * dy = mul-lt-mul_of_pos_right h py in
      let b : y * dz * dx ≤ z * dy * dx = mul-le-mul_right dx k in
      lt_of_mul-lt-mul_right dz (omega (arith, a, b, mul_right_comm x dz dy, mul_right_comm z dx dy, mul_right_comm y dz dx))

below_self : (s : Bool) (a : ℕ) → below s a s a ≡ false
below_self true a = le-ltb a a (omega arith)
below_self false a = le-ltb a a (omega arith)

module _ (x y z dx dy dz : ℕ) (px : 0 < dx) (py : 0 < dy) (pz : 0 < dz) where
  below_trans : (s t u : Bool) → below s (x * dy) t (y * dx) ≡ true → below t (y * dz) u (z * dy) ≡ true → below s (x * dz) u (z * dx) ≡ true
  below_trans false false false h k = lt-ltb (x * dz) (z * dx) (between x y z dx dy dz px py pz (ltb-true (x * dy) (y * dx) h) (ltb-true (y * dz) (z * dy) k))
  below_trans false false true h k = clash k refl
  below_trans false true u h k = clash h refl
  below_trans true false false h k =
      let a = some_left z dy dx (omega (arith, ltb-true (y * dz) (z * dy) k)) px in
      lt-ltb 0 (x * dz + z * dx) (omega arith)
  below_trans true false true h k = clash k refl
  below_trans true true false h k =
      let a = some_left x dy dz (omega (arith, ltb-true (y * dx) (x * dy) h)) pz in
      lt-ltb 0 (x * dz + z * dx) (omega arith)
  below_trans true true true h k = lt-ltb (z * dx) (x * dz) (between z y x dz dy dx pz py px (ltb-true (z * dy) (y * dz) k) (ltb-true (y * dx) (x * dy) h))

  below_either : (s t u : Bool) → below s (x * dz) u (z * dx) ≡ true → below t (y * dz) u (z * dy) ≡ false → below s (x * dy) t (y * dx) ≡ true
  below_either false false false h k = lt-ltb (x * dy) (y * dx) (under x y z dx dy dz px py pz (ltb-true (x * dz) (z * dx) h) (ltb-false (y * dz) (z * dy) k))
  below_either false true false h k =
      let a = some_left z dx dy (omega (arith, ltb-true (x * dz) (z * dx) h)) py in
      absurd (omega (arith, ltb-false 0 (y * dz + z * dy) k))
  below_either false t true h k = clash h refl
  below_either true false false h k = lt-ltb 0 (x * dy + y * dx) (sum (x * dz) refl)
    where
      sum : (n : ℕ) → x * dz ≡ n → 0 < x * dy + y * dx
      sum (suc n) e = let a = some_left x dz dy (omega arith) py in omega arith
      sum zero e =
          let a = some_left z dx dy (omega (arith, ltb-true 0 (x * dz + z * dx) h)) py in
          let b = some_left y dz dx (omega (arith, ltb-false (y * dz) (z * dy) k)) px in
          omega arith
  below_either true false true h k =
      let a = some_left x dz dy (omega (arith, ltb-true (z * dx) (x * dz) h)) py in
      lt-ltb 0 (x * dy + y * dx) (omega arith)
  below_either true true false h k = lt-ltb (y * dx) (x * dy) (sum (z * dx) (y * dx) refl refl)
    where
      sum : (n m : ℕ) → z * dx ≡ n → y * dx ≡ m → y * dx < x * dy
      sum (suc n) m e f = let a = some_left z dx dy (omega arith) py in absurd (omega (arith, ltb-false 0 (y * dz + z * dy) k))
      sum zero (suc m) e f = let a = some_left y dx dz (omega arith) pz in absurd (omega (arith, ltb-false 0 (y * dz + z * dy) k))
      sum zero zero e f = let a = some_left x dz dy (omega (arith, ltb-true 0 (x * dz + z * dx) h)) py in omega arith
  below_either true true true h k = lt-ltb (y * dx) (x * dy) (over x y z dx dy dz px py pz (ltb-true (z * dx) (x * dz) h) (ltb-false (z * dy) (y * dz) k))

-- ---- floats

pub lt_self : (x : Float) → lt x x ≡ false
unfolding lt
lt_self nan = refl
lt_self (inf true) = refl
lt_self (inf false) = refl
lt_self (fin s m e) = below_self s (m * up e * down e)

pub lt_trans : (x y z : Float) → lt x y ≡ true → lt y z ≡ true → lt x z ≡ true
unfolding lt
lt_trans nan y z h k = clash h refl
lt_trans (inf s) nan z h k = clash h refl
lt_trans (inf s) (inf t) nan h k = clash k refl
lt_trans (inf s) (inf t) (inf u) h k = clash (and_left t (not u) k) (not-true t (and_right s (not t) h))
lt_trans (inf s) (inf t) (fin c p f) h k = clash k (not-true t (and_right s (not t) h))
lt_trans (inf s) (fin b n d) nan h k = clash k refl
lt_trans (inf s) (fin b n d) (inf u) h k = rw (h, k)
lt_trans (inf s) (fin b n d) (fin c p f) h k = h
lt_trans (fin a m e) nan z h k = clash h refl
lt_trans (fin a m e) (inf t) nan h k = clash k refl
lt_trans (fin a m e) (inf t) (inf u) h k = and_right t (not u) k
lt_trans (fin a m e) (inf t) (fin c p f) h k = clash k (not-true t h)
lt_trans (fin a m e) (fin b n d) nan h k = clash k refl
lt_trans (fin a m e) (fin b n d) (inf u) h k = k
lt_trans (fin a m e) (fin b n d) (fin c p f) h k = below_trans (m * up e) (n * up d) (p * up f) (down e) (down d) (down f) (down_pos e) (down_pos d) (down_pos f) a b c h k

-- what is not below z, and not NaN, is above what is
pub lt_either : (x y z : Float) → lt x z ≡ true → lt y z ≡ false → is_nan y ≡ false → lt x y ≡ true
unfolding lt is_nan
lt_either x nan z h k n = clash refl n
lt_either nan (inf t) z h k n = clash h refl
lt_either nan (fin b o d) z h k n = clash h refl
lt_either (inf s) (inf t) nan h k n = clash h refl
lt_either (inf s) (inf true) (inf u) h k n = clash (and_right s (not u) h) k
lt_either (inf s) (inf false) (inf u) h k n = rw (and_left s (not u) h)
lt_either (inf s) (inf t) (fin c p f) h k n = rw (h, k)
lt_either (inf s) (fin b o d) nan h k n = clash h refl
lt_either (inf s) (fin b o d) (inf u) h k n = and_left s (not u) h
lt_either (inf s) (fin b o d) (fin c p f) h k n = h
lt_either (fin a m e) (inf t) nan h k n = clash h refl
lt_either (fin a m e) (inf true) (inf u) h k n = clash h k
lt_either (fin a m e) (inf false) (inf u) h k n = refl
lt_either (fin a m e) (inf t) (fin c p f) h k n = rw k
lt_either (fin a m e) (fin b o d) nan h k n = clash h refl
lt_either (fin a m e) (fin b o d) (inf u) h k n = clash h k
lt_either (fin a m e) (fin b o d) (fin c p f) h k n = below_either (m * up e) (o * up d) (p * up f) (down e) (down d) (down f) (down_pos e) (down_pos d) (down_pos f) a b c h k

-- what is not below infinity is infinity or NaN
pub at_infinity : (x : Float) → lt x (inf false) ≡ false → is_nan x ≡ false → x ≡ inf false
unfolding lt is_nan
at_infinity nan h n = clash refl n
at_infinity (inf true) h n = clash refl h
at_infinity (inf false) h n = refl
at_infinity (fin s m e) h n = clash refl h
