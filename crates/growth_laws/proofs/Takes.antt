-- An edge that grows by its own step, (w - g) / count, count times, reaches its weight but for the tolerance, in rounded arithmetic: w is at most 1,024 or
-- infinity, and g is from 0 to w. Each of five roundings is off by u at most, u being 2 ^ -36. Assumes nothing.
use Prim.Native.Nat.{ℕ, ◌+◌, ◌-◌, ◌*◌, ◌^◌, ◌≤◌, ◌<◌}
use native.Mathlib.Nat.{le_trans, le_of_eq, lt_of_le_of_lt, lt_of_lt_of_le, mul_assoc, mul_comm, mul_right_comm, add-mul, mul-le-mul_left, mul-le-mul_right, mul-lt-mul_of_pos_right, le_of_mul-le-mul_right, mul-pos}
use native.Mathlib.Omega.{arith}
use mathlib.Core.Path.{◌≡◌, refl, sym, ap, ◌∙◌}
use mathlib.Core.Bool.{true, false}
use lib.IntN.{ℤ, pos, negsuc}
use lib.Dec.{T, lit≤}
use lib.Pow.{pow_pos}
use lib.Ieee.{Float, fin, binary64, up, down, fits, round, add, sub, mul, div, le}
use lib.Ieee.Bits.{is_true}
use lib.Ieee.Fits.{down_pos}
use lib.Ieee.Order.{le_of_values}
use lib.Ieee.Scale.{grid}
use Rattle.weight.proofs.Err.{U, Within, off, grid_near}
use Rattle.weight.proofs.Approx.{Near}
use Rattle.weight.proofs.Values.{Units, round_units}
use Rattle.weight.proofs.Ops.{under, add_op, mul_op, div_op}
use Rattle.growth_laws.proofs.Signs.{le_cross, sub_is}
use Rattle.growth_laws.proofs.Reached.{held_units}

-- 1e-9
abbrev pub nearly : Float
nearly = fin false 0x112e0be826d695 (negsuc 81)

-- ---- in units: names that do not unfold, so that `omega` meets no large literal

-- 2 ^ -36
unfoldable u : ℕ
u = 2 ^ 1038

-- 2 ^ 17
unfoldable top : ℕ
top = 2 ^ 1091

-- 1e-9
unfoldable E : ℕ
E = 0x112e0be826d695 * 2 ^ 992

u_pos : 0 < u
unfolding u
u_pos = pow_pos 1038

top_is : top ≡ 9007199254740992 * u
unfolding u top
top_is = refl

E_least : 60 * u ≤ E
unfolding E u
E_least = lit≤ tt

E_most : E ≤ 70 * u
unfolding E u
E_most = lit≤ tt

E_units : Units nearly E
unfolding E
E_units = (refl, refl)

-- 1,024
unfoldable limit : ℕ
limit = 1024 * U

limit_is : limit ≡ 70368744177664 * u
unfolding limit u
limit_is = refl

limit_under : limit < top
limit_under = omega (arith, limit_is, top_is, u_pos)

-- ---- the operations below 2 ^ 17

sum_near : (x y : Float) (X Y : ℕ) → Units x X → Units y Y → X + Y < top → (Z : ℕ) × Units (add binary64 x y) Z × Near u Z (X + Y)
unfolding u top
sum_near x y X Y h k l = add_op 1091 x y X Y (lit≤ tt) h k l

product_near : (x y : Float) (X Y : ℕ) → Units x X → Units y Y → X * Y < top * U → (Z : ℕ) × Units (mul binary64 x y) Z × Near (u * U) (Z * U) (X * Y)
unfolding u top
product_near x y X Y h k l = mul_op 1091 x y X Y (lit≤ tt) h k l

quotient_near : (x y : Float) (X Y : ℕ) → Units x X → Units y Y → 0 < Y → X * U < top * Y → (Z : ℕ) × Units (div binary64 x y) Z × Near (u * Y) (Z * Y) (X * U)
unfolding u top
quotient_near x y X Y h k P l = div_op 1091 x y X Y (lit≤ tt) h k P l

fraction_near : (a c : ℕ) → 0 < c → a * U < top * c → Units (round binary64 false a c) (grid binary64 a c) × Within (c * u) (grid binary64 a c * c) (a * U)
unfolding u top
fraction_near a c C l = (round_units false a c (under 1091 a c C (lit≤ tt) l), grid_near binary64 a c 1091 C l)

-- ---- count times a count-th of D units

module _ (U u n : ℕ) (P : 0 < U) where
  cancel : (x y v : ℕ) → x * U ≤ y * U + v * U → x ≤ y + v
  cancel x y v h = le_of_mul-le-mul_right (le_trans h (le_of_eq (sym (add-mul y v U)))) P

  -- Z is D / n
  part_near : (D Z : ℕ) → Near (u * (n * U)) (Z * (n * U)) (D * U) → Near (u * n) (Z * n) D
  part_near D Z h =
      let a : Z * (n * U) ≡ Z * n * U = sym (mul_assoc Z n U) in
      let b : u * (n * U) ≡ u * n * U = sym (mul_assoc u n U) in
      (cancel (Z * n) D (u * n) (omega (arith, h.0)), cancel D (Z * n) (u * n) (omega (arith, h.1)))

  -- M is n times Z
  times_near : (Z M : ℕ) → Near (u * U) (M * U) (n * U * Z) → Near u M (Z * n)
  times_near Z M h =
      let a : n * U * Z ≡ Z * n * U = mul_right_comm n U Z ∙ ap (λ (z : ℕ). z * U) (mul_comm n Z) in
      (cancel M (Z * n) u (omega (arith, h.0)), cancel (Z * n) M u (omega (arith, h.1)))

  few : n ≤ 2 → u * n ≤ 2 * u
  few l = le_trans (mul-le-mul_left u l) (le_of_eq (mul_comm u 2))

  -- no product is too large
  times_under : (D Z top : ℕ) → n ≤ 2 → D + 2 * u < top → Near (u * n) (Z * n) D → n * U * Z < top * U
  times_under D Z top l b h =
      let a : n * U * Z ≡ Z * n * U = mul_right_comm n U Z ∙ ap (λ (z : ℕ). z * U) (mul_comm n Z) in
      lt_of_le_of_lt (le_of_eq a) (mul-lt-mul_of_pos_right (omega (arith, h.0, few l)) P)

  part_under : (D top : ℕ) → 0 < n → D < top → D * U < top * (n * U)
  part_under D top N h =
      let a : D * U < top * U = mul-lt-mul_of_pos_right h P in
      let b : 1 * U ≤ n * U = mul-le-mul_right U N in
      lt_of_lt_of_le a (mul-le-mul_left top (le_trans (le_of_eq (one U)) b))
    where
      one : (x : ℕ) → x ≡ 1 * x
      one x = omega arith

-- count times the quotient by the count
module _ (n : ℕ) (some : 0 < n) (two : n ≤ 2) (c : Float) (is : Units c (n * U)) where
  counted_near : (x : Float) (D : ℕ) → Units x D → D + 2 * u < top → (M : ℕ) × Units (mul binary64 c (div binary64 x c)) M × Near (3 * u) M D
  counted_near x D h l =
      let P = pow_pos 1074 in
      let z = quotient_near x c D (n * U) h is (mul-pos some P) (part_under U u n P D top some (omega arith)) in
      let a = part_near U u n P D z.0 z.2 in
      let m = product_near c (div binary64 x c) (n * U) z.0 is z.1 (times_under U u n P D z.0 top two l a) in
      let b = times_near U u n P z.0 m.0 m.2 in
      (m.0, m.1, (omega (arith, a.0, b.0, few U u n P two), omega (arith, a.1, b.1, few U u n P two)))

-- ---- a weight A / b of N at most, and a growth P / d of the weight at most

module _ (U N A P b d : ℕ) (B : 0 < b) (D : 0 < d) (small : A ≤ N * b) (under-it : P * b ≤ A * d) where
  -- their difference, in units, is N units at most
  rest_most : (A * d - P * b) * U ≤ N * U * (b * d)
  rest_most =
      let i : A * d ≤ N * b * d = mul-le-mul_right d small in
      let j : (A * d - P * b) * U ≤ N * b * d * U = mul-le-mul_right U (omega arith) in
      let e : N * b * d * U ≡ N * U * (b * d) = ap (λ (z : ℕ). z * U) (mul_assoc N b d) ∙ mul_right_comm N (b * d) U in
      omega arith

  -- and so is the growth, G units
  growth_most : (G : ℕ) → P * U ≡ G * d → G ≤ N * U
  growth_most G q =
      let i : P * b ≤ N * d * b = le_trans under-it (le_trans (mul-le-mul_right d small) (le_of_eq (mul_right_comm N b d))) in
      let j : P * U ≤ N * d * U = mul-le-mul_right U (le_of_mul-le-mul_right i B) in
      le_of_mul-le-mul_right (le_trans (le_of_eq (sym q)) (le_trans j (le_of_eq (mul_right_comm N d U)))) D

  -- the difference off by u at most, and the growth added: the weight is reached
  weight_most : (G X u R : ℕ) → P * U ≡ G * d → (A * d - P * b) * U ≤ X * (b * d) + b * d * u → X + u + G ≤ R → A * U ≤ R * b
  weight_most G X u R q h l =
      let c = b * d in
      let i : A * d * U ≤ (A * d - P * b + P * b) * U = mul-le-mul_right U (omega arith) in
      let j : (A * d - P * b + P * b) * U ≡ (A * d - P * b) * U + P * b * U = add-mul (A * d - P * b) (P * b) U in
      let k : P * b * U ≡ G * c = mul_right_comm P b U ∙ ap (λ (z : ℕ). z * b) q ∙ mul_assoc G d b ∙ ap (λ (z : ℕ). G * z) (mul_comm d b) in
      let m : (X + u + G) * c ≤ R * c = mul-le-mul_right c l in
      let n : (X + u + G) * c ≡ X * c + c * u + G * c = add-mul (X + u) G c ∙ ap (λ (z : ℕ). z + G * c) (add-mul X u c ∙ ap (λ (z : ℕ). X * c + z) (mul_comm u c)) in
      let o : A * U * d ≡ A * d * U = mul_right_comm A U d in
      let r : R * b * d ≡ R * c = mul_assoc R b d in
      le_of_mul-le-mul_right (omega arith) D

  -- X is the difference, rounded
  rest_near : (X u : ℕ) → Within (b * d * u) (X * (b * d)) ((A * d - P * b) * U) → (X ≤ N * U + u) × ((A * d - P * b) * U ≤ X * (b * d) + b * d * u)
  rest_near X u h =
      let c = b * d in
      let i : X * c * 2 ≤ N * U * c * 2 + c * u = omega (arith, h.0, rest_most) in
      (halved X (N * U) u (off c u X (N * U) (mul-pos B D) i), halved ((A * d - P * b) * U) (X * c) (c * u) h.1)
    where
      -- from halves to wholes
      halved : (x y v : ℕ) → x * 2 ≤ y * 2 + v → x ≤ y + v
      halved x y v h = omega arith

module _ (n : ℕ) (some : 0 < n) (two : n ≤ 2) (c : Float) (is : Units c (n * U)) where
  -- X units are left of the weight, and G are grown
  sum_least : (x y : Float) (G X : ℕ) → Units x G → Units y X → G ≤ limit → X ≤ limit + u
      → (R : ℕ) × Units (add binary64 (add binary64 x (mul binary64 c (div binary64 y c))) nearly) R × (X + u + G ≤ R)
  sum_least x y G X h k g l =
      let (M, mv, mn) = counted_near n some two c is y X k (omega (arith, limit_is, top_is, u_pos)) in
      let (S, sv, sn) = sum_near x (mul binary64 c (div binary64 y c)) G M h mv (omega (arith, limit_is, top_is, u_pos, mn.0)) in
      let (R, rv, rn) = sum_near (add binary64 x (mul binary64 c (div binary64 y c))) nearly S E sv E_units (omega (arith, limit_is, top_is, u_pos, mn.0, sn.0, E_most)) in
      (R, rv, omega (arith, mn.1, sn.1, rn.1, E_least))

  module _ (p m : ℕ) (d e : ℤ) (most : le (fin false m e) (fin false p d) ≡ true) (within : le (fin false p d) (fin false 1 (pos 10)) ≡ true) (held : T (fits binary64 (fin false m e))) where
    small : p * up d ≤ 1024 * down d
    small = omega (arith, le_cross p 1 d (pos 10) within)

    pub takes_finite : le (fin false p d) (add binary64 (add binary64 (fin false m e) (mul binary64 c (div binary64 (sub binary64 (fin false p d) (fin false m e)) c))) nearly) ≡ true
    unfolding limit
    takes_finite =
        let A = p * up d in
        let P = m * up e in
        let b = down d in
        let f = down e in
        let less : P * b ≤ A * f = le_cross m p e d most in
        let C : 0 < b * f = mul-pos (down_pos d) (down_pos e) in
        let i = rest_most U 1024 A P b f (down_pos d) (down_pos e) small less in
        let (xv, near) = fraction_near (A * f - P * b) (b * f) C (lt_of_le_of_lt i (mul-lt-mul_of_pos_right limit_under C)) in
        let X = grid binary64 (A * f - P * b) (b * f) in
        let (l, r) = rest_near U 1024 A P b f (down_pos d) (down_pos e) small less X u near in
        let (G, gv) = held_units m e held in
        let (R, rv, t) = sum_least (fin false m e) (sub binary64 (fin false p d) (fin false m e)) G X gv (rw (sub_is p m d e most) xv) (growth_most U 1024 A P b f (down_pos d) (down_pos e) small less G gv.1) l in
        let y = add binary64 (add binary64 (fin false m e) (mul binary64 c (div binary64 (sub binary64 (fin false p d) (fin false m e)) c))) nearly in
        is_true (le (fin false p d) y) (le_of_values (fin false p d) y A b R U (down_pos d) (pow_pos 1074) (refl, refl) rv (weight_most U 1024 A P b f (down_pos d) (down_pos e) small less G X u R gv.1 r t))
