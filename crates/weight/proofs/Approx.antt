-- Whole numbers of units that stand for fractions, off by so many units: sums, products, quotients, and one step of Horner's rule. B units are one.
-- Nothing here is about floats. Assumes nothing.
use mathlib.Core.Path.{◌≡◌, ap, ◌∙◌}
use Prim.Native.Nat.{ℕ, ◌+◌, ◌*◌, ◌≤◌, ◌<◌}
use native.Mathlib.Nat.{le_trans, le_of_eq, add_assoc, mul_comm, mul_assoc, mul_left_comm, add-mul, mul-add, mul-le-mul_right, mul-le-mul_left, le_of_mul-le-mul_right}
use native.Mathlib.Omega.{arith}

-- Z and X differ by v at most
abbrev pub Near : ℕ → ℕ → ℕ → Type 0
Near v Z X = (Z ≤ X + v) × (X ≤ Z + v)

-- X units are p / q, off by e at most
abbrev pub Approx : ℕ → ℕ → ℕ → ℕ → ℕ → Type 0
Approx B e X p q = (X * q ≤ p * B + e * q) × (p * B ≤ X * q + e * q)

module _ (B : ℕ) where
  -- a rounding
  pub approx_round : (e v X Z p q : ℕ) → Near v Z X → Approx B e X p q → Approx B (e + v) Z p q
  approx_round e v X Z p q n a =
      let i : Z * q ≤ (X + v) * q = mul-le-mul_right q n.0 in
      let j : X * q ≤ (Z + v) * q = mul-le-mul_right q n.1 in
      let d : (X + v) * q ≡ X * q + v * q = add-mul X v q in
      let k : (Z + v) * q ≡ Z * q + v * q = add-mul Z v q in
      let m : (e + v) * q ≡ e * q + v * q = add-mul e v q in
      (omega (arith, a.0), omega (arith, a.1))

  -- more room
  pub approx_more : (e f X p q : ℕ) → e ≤ f → Approx B e X p q → Approx B f X p q
  approx_more e f X p q l a = let i : e * q ≤ f * q = mul-le-mul_right q l in (omega (arith, a.0), omega (arith, a.1))

  -- a sum
  pub approx_add : (e f X Y p q r s : ℕ) → Approx B e X p q → Approx B f Y r s → Approx B (e + f) (X + Y) (p * s + r * q) (q * s)
  approx_add e f X Y p q r s a b =
      let x1 : X * q * s ≤ (p * B + e * q) * s = mul-le-mul_right s a.0 in
      let x2 : p * B * s ≤ (X * q + e * q) * s = mul-le-mul_right s a.1 in
      let y1 : Y * s * q ≤ (r * B + f * s) * q = mul-le-mul_right q b.0 in
      let y2 : r * B * q ≤ (Y * s + f * s) * q = mul-le-mul_right q b.1 in
      let e1 : (p * B + e * q) * s ≡ p * s * B + e * (q * s) = simp (add-mul, mul_assoc, mul_comm, mul_left_comm) in
      let e2 : (X * q + e * q) * s ≡ X * (q * s) + e * (q * s) = simp (add-mul, mul_assoc, mul_comm, mul_left_comm) in
      let e3 : (r * B + f * s) * q ≡ r * q * B + f * (q * s) = simp (add-mul, mul_assoc, mul_comm, mul_left_comm) in
      let e4 : (Y * s + f * s) * q ≡ Y * (q * s) + f * (q * s) = simp (add-mul, mul_assoc, mul_comm, mul_left_comm) in
      let e5 : X * q * s ≡ X * (q * s) = mul_assoc X q s in
      let e6 : Y * s * q ≡ Y * (q * s) = simp (mul_assoc, mul_comm, mul_left_comm) in
      let e7 : p * B * s ≡ p * s * B = simp (mul_assoc, mul_comm, mul_left_comm) in
      let e8 : r * B * q ≡ r * q * B = simp (mul_assoc, mul_comm, mul_left_comm) in
      let g1 : (X + Y) * (q * s) ≡ X * (q * s) + Y * (q * s) = add-mul X Y (q * s) in
      let g2 : (e + f) * (q * s) ≡ e * (q * s) + f * (q * s) = add-mul e f (q * s) in
      let g3 : (p * s + r * q) * B ≡ p * s * B + r * q * B = add-mul (p * s) (r * q) B in
      (omega arith, omega arith)

  -- a product Z of R and S, where S is 1 / c at most and p / q two at most: R's error counts for 1 / c of it
  pub approx_mul : (c e d f v R S Z p q r s : ℕ) → 0 < B → Approx B e R p q → Approx B f S r s → S * c ≤ B → p ≤ 2 * q → e ≤ c * d → Near (v * B) (Z * B) (R * S) → Approx B (d + 2 * f + v) Z (p * r) (q * s)
  approx_mul c e d f v R S Z p q r s P a b h8 h2 hd n =
      let Q = q * s in
      -- the products, each by one fact
      let z1 : Z * B * Q ≤ (R * S + v * B) * Q = mul-le-mul_right Q n.0 in
      let z2 : R * S * Q ≤ (Z * B + v * B) * Q = mul-le-mul_right Q n.1 in
      let r1 : R * q * (S * s) ≤ (p * B + e * q) * (S * s) = mul-le-mul_right (S * s) a.0 in
      let r2 : p * B * (S * s) ≤ (R * q + e * q) * (S * s) = mul-le-mul_right (S * s) a.1 in
      let s1 : p * B * (S * s) ≤ p * B * (r * B + f * s) = mul-le-mul_left (p * B) b.0 in
      let s2 : p * B * (r * B) ≤ p * B * (S * s + f * s) = mul-le-mul_left (p * B) b.1 in
      let t : p * (f * (s * B)) ≤ 2 * q * (f * (s * B)) = mul-le-mul_right (f * (s * B)) h2 in
      let w : e * (S * Q) ≤ c * d * (S * Q) = mul-le-mul_right (S * Q) hd in
      let y : S * c * (d * Q) ≤ B * (d * Q) = mul-le-mul_right (d * Q) h8 in
      -- the same products under one name each
      let E1 : (R * S + v * B) * Q ≡ R * q * (S * s) + v * Q * B = simp (add-mul, mul_assoc, mul_comm, mul_left_comm) in
      let E2 : (Z * B + v * B) * Q ≡ Z * B * Q + v * Q * B = simp (add-mul, mul_assoc, mul_comm, mul_left_comm) in
      let E0 : R * S * Q ≡ R * q * (S * s) = simp (mul_assoc, mul_comm, mul_left_comm) in
      let E3 : (p * B + e * q) * (S * s) ≡ p * B * (S * s) + e * (S * Q) = simp (add-mul, mul_assoc, mul_comm, mul_left_comm) in
      let E4 : (R * q + e * q) * (S * s) ≡ R * q * (S * s) + e * (S * Q) = simp (add-mul, mul_assoc, mul_comm, mul_left_comm) in
      let E5 : p * B * (r * B + f * s) ≡ p * B * (r * B) + p * (f * (s * B)) = simp (mul-add, mul_assoc, mul_comm, mul_left_comm) in
      let E6 : p * B * (S * s + f * s) ≡ p * B * (S * s) + p * (f * (s * B)) = simp (mul-add, mul_assoc, mul_comm, mul_left_comm) in
      let E7 : 2 * q * (f * (s * B)) ≡ 2 * (f * Q * B) = simp (mul_assoc, mul_comm, mul_left_comm) in
      let E8 : c * d * (S * Q) ≡ S * c * (d * Q) = simp (mul_assoc, mul_comm, mul_left_comm) in
      let E9 : B * (d * Q) ≡ d * Q * B = mul_comm B (d * Q) in
      -- what is to be shown, times B
      let G1 : Z * Q * B ≡ Z * B * Q = simp (mul_assoc, mul_comm, mul_left_comm) in
      let G2 : (p * r * B + (d + 2 * f + v) * Q) * B ≡ p * B * (r * B) + d * Q * B + 2 * (f * Q * B) + v * Q * B = wide (p * r * B) d f v Q B ∙ ap (λ (x : ℕ). x + d * Q * B + 2 * (f * Q * B) + v * Q * B) (simp (mul_assoc, mul_comm, mul_left_comm)) in
      let G3 : (Z * Q + (d + 2 * f + v) * Q) * B ≡ Z * B * Q + d * Q * B + 2 * (f * Q * B) + v * Q * B = wide (Z * Q) d f v Q B ∙ ap (λ (x : ℕ). x + d * Q * B + 2 * (f * Q * B) + v * Q * B) G1 in
      let G4 : p * r * B * B ≡ p * B * (r * B) = simp (mul_assoc, mul_comm, mul_left_comm) in
      (le_of_mul-le-mul_right (omega arith) P, le_of_mul-le-mul_right (omega arith) P)
    where
      wide : (x d f v Q B : ℕ) → (x + (d + 2 * f + v) * Q) * B ≡ x * B + d * Q * B + 2 * (f * Q * B) + v * Q * B
      wide x d f v Q B = simp (add-mul, add_assoc, mul_assoc)

  -- a quotient T of X1, which stands for a * h units, by X2, which stands for b * h
  pub approx_div : (h v a b X1 X2 T : ℕ) → 0 < h → 0 < B → v ≤ B → a * h + 2 * B ≤ b * h → Near v X1 (a * h) → Near v X2 (b * h) → Near (v * X2) (T * X2) (X1 * B) → Approx B (4 * v) T a b
  approx_div h v a b X1 X2 T H P hv gap n1 n2 n =
      let below : X1 ≤ X2 = omega (arith, n1.0, n2.1) in
      let some : 0 < X2 = omega (arith, n2.1) in
      let t1 : T * X2 ≤ (B + v) * X2 = le_trans n.0 (le_trans (add_le (v * X2) (mul-le-mul_right B below)) (le_of_eq (simp (add-mul, mul_comm)))) in
      let t2 : T ≤ B + v = le_of_mul-le-mul_right t1 some in
      let tv : T * v ≤ (B + v) * v = mul-le-mul_right v t2 in
      let vv : v * v ≤ B * v = mul-le-mul_right v hv in
      let x2v : v * X2 ≤ v * (b * h + v) = mul-le-mul_left v n2.0 in
      let bh : v * (2 * B) ≤ v * (b * h) = mul-le-mul_left v (omega arith) in
      let up1 : T * (b * h) ≤ T * (X2 + v) = mul-le-mul_left T n2.1 in
      let up2 : X1 * B ≤ (a * h + v) * B = mul-le-mul_right B n1.0 in
      let dn1 : T * X2 ≤ T * (b * h + v) = mul-le-mul_left T n2.0 in
      let dn2 : a * h * B ≤ (X1 + v) * B = mul-le-mul_right B n1.1 in
      let e1 : (B + v) * v ≡ B * v + v * v = add-mul B v v in
      let e2 : v * (b * h + v) ≡ v * (b * h) + v * v = mul-add v (b * h) v in
      let e3 : v * (2 * B) ≡ 2 * (B * v) = simp (mul_assoc, mul_comm, mul_left_comm) in
      let e4 : T * (X2 + v) ≡ T * X2 + T * v = mul-add T X2 v in
      let e5 : (a * h + v) * B ≡ a * h * B + B * v = simp (add-mul, mul_comm) in
      let e6 : T * (b * h + v) ≡ T * (b * h) + T * v = mul-add T (b * h) v in
      let e7 : (X1 + v) * B ≡ X1 * B + B * v = simp (add-mul, mul_comm) in
      let g1 : T * b * h ≡ T * (b * h) = mul_assoc T b h in
      let g2 : (a * B + 4 * v * b) * h ≡ a * h * B + 4 * (v * (b * h)) = simp (add-mul, mul_assoc, mul_comm, mul_left_comm) in
      let g3 : (T * b + 4 * v * b) * h ≡ T * (b * h) + 4 * (v * (b * h)) = simp (add-mul, mul_assoc, mul_comm, mul_left_comm) in
      let g4 : a * B * h ≡ a * h * B = simp (mul_assoc, mul_comm, mul_left_comm) in
      (le_of_mul-le-mul_right (omega (arith, n.0)) H, le_of_mul-le-mul_right (omega (arith, n.1)) H)
    where
      add_le : {x y : ℕ} (k : ℕ) → x ≤ y → x + k ≤ y + k
      add_le k l = omega arith

  -- what stands for at most 2 is at most 3, where the error is at most 1
  pub at_most_3 : (e X p q : ℕ) → 0 < q → p ≤ 2 * q → e ≤ B → Approx B e X p q → X ≤ 3 * B
  at_most_3 e X p q Q h l a =
      let i : p * B ≤ 2 * q * B = mul-le-mul_right B h in
      let j : e * q ≤ B * q = mul-le-mul_right q l in
      let k : 3 * B * q ≡ 2 * q * B + B * q = simp (mul_assoc, mul_comm, mul_left_comm) (three (B * q)) in
      le_of_mul-le-mul_right (omega (arith, a.0)) Q
    where
      three : (x : ℕ) → 3 * x ≡ 2 * x + x
      three x = omega arith

  -- one step of Horner's rule: W is R * S + C, rounded twice
  pub approx_step : (e d f g v R S C Z W p q r s n : ℕ) → 0 < B → Approx B e R p q → Approx B f S r s → Approx B g C 1 n → S * 8 ≤ B → p ≤ 2 * q → e ≤ 8 * d → Near (v * B) (Z * B) (R * S) → Near v W (Z + C)
      → Approx B (d + 2 * f + v + g + v) W (p * r * n + 1 * (q * s)) (q * s * n)
  approx_step e d f g v R S C Z W p q r s n P a b c h8 h2 hd nz nw =
      approx_round (d + 2 * f + v + g) v (Z + C) W (p * r * n + 1 * (q * s)) (q * s * n) nw
      (approx_add (d + 2 * f + v) g Z C (p * r) (q * s) 1 n (approx_mul 8 e d f v R S Z p q r s P a b h8 h2 hd nz) c)

-- the sum stays at most 2
pub step_at_most : (p q r s n : ℕ) → p ≤ 2 * q → r * 8 ≤ s → 1 ≤ n → p * r * n + 1 * (q * s) ≤ 2 * (q * s * n)
step_at_most p q r s n h k N =
    let i : p * (r * n) ≤ 2 * q * (r * n) = mul-le-mul_right (r * n) h in
    let j : r * 8 * (q * n) ≤ s * (q * n) = mul-le-mul_right (q * n) k in
    let m : q * s * 1 ≤ q * s * n = mul-le-mul_left (q * s) N in
    let e1 : p * r * n ≡ p * (r * n) = mul_assoc p r n in
    let e2 : 2 * q * (r * n) ≡ 2 * (q * (r * n)) = mul_assoc 2 q (r * n) in
    let e3 : r * 8 * (q * n) ≡ 8 * (q * (r * n)) = simp (mul_assoc, mul_comm, mul_left_comm) in
    let e4 : s * (q * n) ≡ q * s * n = simp (mul_assoc, mul_comm, mul_left_comm) in
    omega arith
