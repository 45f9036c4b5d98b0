-- One edge of weight w: while it is not saturated it has grown to a finite x, from 0 to w. What it gives, and what it grows to. Assumes nothing.
use Prim.Native.Nat.{ℕ, ◌*◌, ◌≤◌, ◌<◌}
use native.Mathlib.Nat.{mul-one, zero-mul}
use native.Mathlib.Omega.{arith}
use mathlib.Core.Path.{◌≡◌, refl, sym, ◌∙◌}
use mathlib.Core.Bool.{true, false, ◌||◌}
use mathlib.Core.Logic.{◌⊎◌, inl, inr, ⊎_elim}
use lib.IntN.{ℤ, pos, negsuc}
use lib.Dec.{T, eqb}
use lib.Ieee.{Float, nan, inf, fin, binary64, up, down, fits, add, sub, neg, mul, div, le, lt, eq, of_int, of_bits}
use lib.Ieee.Fits.{add-fits}
use borrow.Author.Tests.{eqb-true}
use Rattle.weight.specs.Weight.{weight_fits}
use Rattle.steps.specs.Growth.{tolerance}
use Rattle.lists.proofs.Truth.{clash, and_left, and_right, or_cases}
use Rattle.weight.proofs.Values.{int_units}
use Rattle.growth_laws.proofs.Signs.{Plus, FromZero, size_none, div_from, mul_from, add_plus, cross_le, sub_from}
use Rattle.growth_laws.proofs.Reached.{Under, minus_under, not_reached}
use Rattle.growth_laws.proofs.Takes.{nearly, takes_finite}

abbrev plus_zero : Float
plus_zero = fin false 0 (pos 0)

-- ---- from 0

pub zero_least : (x : Float) → FromZero x → le plus_zero x ≡ true
unfolding le lt eq
zero_least nan p = absurd p
zero_least (inf s) p = rw p
zero_least (fin true n d) p = simp (p, zero-mul)
zero_least (fin false n d) p = cross_le 0 n (pos 0) d (omega (arith, zero-mul (down d)))

-- and back
from_least : (x : Float) → le plus_zero x ≡ true → FromZero x
unfolding le lt eq
from_least nan h = clash h refl
from_least (inf true) h = clash h refl
from_least (inf false) h = refl
from_least (fin true n d) h =
    let q = eqb-true (0 * down d) (n * up d * 1) (and_left (eqb (0 * down d) (n * up d * 1)) (eqb (0 * down d) 0) h) in
    size_none n d (sym (mul-one (n * up d)) ∙ sym q ∙ zero-mul (down d))
from_least (fin false n d) h = tt

-- ---- a weight that fits

weight_least : (w : Float) → weight_fits w ≡ true → le plus_zero w ≡ true
unfolding weight_fits
weight_least w h = and_left (le plus_zero w) (le w (fin false 1 (pos 10)) || eq w (inf false)) h

weight_from : (w : Float) → weight_fits w ≡ true → FromZero w
weight_from w h = from_least w (weight_least w h)

-- a finite one is 1,024 at most
weight_most : (p : ℕ) (d : ℤ) → weight_fits (fin false p d) ≡ true → le (fin false p d) (fin false 1 (pos 10)) ≡ true
unfolding weight_fits eq
weight_most p d h =
    let w = fin false p d in
    let low = le w (fin false 1 (pos 10)) in
    ⊎_elim {C = low ≡ true} (λ t. t) (λ t. clash t refl) (or_cases low (eq w (inf false)) (and_right (le plus_zero w) (low || eq w (inf false)) h))

-- ---- what an edge that is not saturated has grown to

-- from +0 to w, and held by the format
pub record Room (w x : Float) : Type 0 where
  pub plus : Plus x
  pub held : T (fits binary64 x)
  pub below : Under w x

-- before the first round
pub start_room : (w : Float) → weight_fits w ≡ true → Room w plus_zero
unfolding fits
start_room w h = record { plus = refl; held = tt; below = record { ends = refl; most = weight_least w h } }

-- w less x
rest_from : (w x : Float) → FromZero w → Room w x → FromZero (sub binary64 w x)
rest_from w nan f r = absurd r.plus
rest_from w (inf s) f r = clash r.below.ends refl
rest_from w (fin true m e) f r = clash refl r.plus
rest_from w (fin false m e) f r = sub_from w m e f r.below.most

-- x and more
sum_plus : (w x y : Float) → Room w x → FromZero y → Plus (add binary64 x y)
sum_plus w nan y r f = absurd r.plus
sum_plus w (inf s) y r f = clash r.below.ends refl
sum_plus w (fin true m e) y r f = clash refl r.plus
sum_plus w (fin false m e) y r f = add_plus m e y f

tolerance_is : tolerance ≡ nearly
unfolding tolerance of_bits
tolerance_is = refl

-- x and the tolerance
more_plus : (x : Float) → Plus x → Plus (add binary64 x tolerance)
unfolding add
more_plus nan p = absurd p
more_plus (inf s) p = rw tolerance_is p
more_plus (fin true m e) p = clash refl p
more_plus (fin false m e) p = rw tolerance_is (add_plus m e nearly tt)

-- ---- a round, by the edge's count

-- an edge counts 1 or 2
abbrev pub OneOrTwo : ℕ → Type 0
OneOrTwo n = (n ≡ 1) ⊎ (n ≡ 2)

bounds : (n : ℕ) → OneOrTwo n → (0 < n) × (n ≤ 2)
bounds n (inl q) = (omega arith, omega arith)
bounds n (inr q) = (omega arith, omega arith)

-- 1 and 2 are powers of 2
pub by_power : (P : Float → Type 0) (n : ℕ) → OneOrTwo n → ((k : ℕ) → P (fin false 1 (pos k))) → P (of_int binary64 (pos n))
unfolding of_int
by_power P n (inl q) f = rw q (f 0)
by_power P n (inr q) f = rw q (f 1)

module _ (n : ℕ) (two : OneOrTwo n) where
  abbrev c : Float
  c = of_int binary64 (pos n)

  times_from : (y : Float) → FromZero y → FromZero (mul binary64 c y)
  times_from y f = by_power (λ z. FromZero (mul binary64 z y)) n two (λ k. mul_from k y f)

  module _ (w x : Float) (fit : weight_fits w ≡ true) (r : Room w x) where
    -- what the edge gives
    pub gives_from : FromZero (div binary64 (sub binary64 w x) c)
    gives_from = by_power (λ z. FromZero (div binary64 (sub binary64 w x) z)) n two (λ k. div_from k (sub binary64 w x) (rest_from w x (weight_from w fit) r))

    -- an edge that grows by y, count times, and does not reach w
    pub next_room : (y : Float) → FromZero y → le w (add binary64 (add binary64 x (mul binary64 c y)) tolerance) ≡ false → Room w (add binary64 x (mul binary64 c y))
    next_room y f h =
        let z = add binary64 x (mul binary64 c y) in
        let p : Plus z = sum_plus w x (mul binary64 c y) r (times_from y f) in
        let t : T (fits binary64 z) = add-fits binary64 x (mul binary64 c y) in
        record { plus = p; held = t; below = not_reached 0x112e0be826d695 (negsuc 81) w z (weight_from w fit) p t (rw tolerance_is at h) }

    -- what it grows to by its own step
    abbrev full : Float
    full = add binary64 x (mul binary64 c (div binary64 (sub binary64 w x) c))

    full_plus : Plus full
    full_plus = sum_plus w x (mul binary64 c (div binary64 (sub binary64 w x) c)) r (times_from (div binary64 (sub binary64 w x) c) gives_from)

  takes_infinite : (m : ℕ) (e : ℤ) → le (inf false) (add binary64 (add binary64 (fin false m e) (mul binary64 c (div binary64 (sub binary64 (inf false) (fin false m e)) c))) tolerance) ≡ true
  unfolding tolerance of_bits add sub neg mul div le lt eq
  takes_infinite m e = by_power (λ z. le (inf false) (add binary64 (add binary64 (fin false m e) (mul binary64 z (div binary64 (sub binary64 (inf false) (fin false m e)) z))) tolerance) ≡ true) n two (λ k. refl)

  -- an edge that grows by its own step reaches its weight
  pub takes : (w x : Float) → (fit : weight_fits w ≡ true) (r : Room w x) → le w (add binary64 (full w x fit r) tolerance) ≡ true
  takes w nan fit r = absurd r.plus
  takes w (inf s) fit r = clash r.below.ends refl
  takes w (fin true m e) fit r = clash refl r.plus
  takes nan (fin false m e) fit r = absurd (weight_from nan fit)
  takes (inf s) (fin false m e) fit r = rw (weight_from (inf s) fit) (takes_infinite m e)
  takes (fin true p d) (fin false m e) fit r =
      let w = fin true p d in
      let y = full w (fin false m e) fit r in
      minus_under p d (add binary64 y tolerance) (weight_from w fit) (more_plus y (full_plus w (fin false m e) fit r))
  takes (fin false p d) (fin false m e) fit r =
      let (some, most) = bounds n two in
      rw tolerance_is (takes_finite n some most c (int_units n (omega arith)) p m d e r.below.most (weight_most p d fit) r.held)
