-- The laws of the weight, proved. Assumes nothing.
use mathlib.Core.Path.{◌≡◌, refl}
use mathlib.Core.Bool.{Bool, true, false, ◌&&◌, ◌||◌, cond}
use Prim.Native.Nat.{zero-le}
use native.Mathlib.Nat.{le_trans, le_of_eq, mul-one, zero-mul}
use lib.IntN.{pos}
use lib.Dec.{T, lit<}
use lib.Pow.{pow_pos}
use lib.Ieee.{Float, inf, fin, binary64, fits, le, lt, eq, of_bits}
use lib.Ieee.Bits.{is_true}
use lib.Ieee.Fits.{div-fits}
use lib.Ieee.Order.{le_of_values}
use Rattle.weight.proofs.Err.{U}
use Rattle.weight.proofs.Range.{Range}
use Rattle.weight.specs.Weight.{zero64, one, infinity, odds, logarithm, weight_at, weight_of, weight_fits}
use Rattle.weight.specs.Laws.{Laws}
use Rattle.weight.proofs.Parts.{split}
use Rattle.weight.proofs.Bounds.{logarithm_range}

-- 0 passes
zero64_passes : weight_fits zero64 ≡ true
unfolding weight_fits of_bits le
zero64_passes = refl

-- infinity passes
infinity_passes : weight_fits infinity ≡ true
unfolding weight_fits of_bits le eq
infinity_passes = refl

-- the first of the two ways to pass
both : (a b c : Bool) → T a → T b → (a && (b || c)) ≡ true
both true true c s t = refl
both true false c s t = absurd t
both false b c s t = absurd s

-- what is from 0 to 1024 passes
range_passes : (w : Float) → Range 0 1024 w → weight_fits w ≡ true
unfolding weight_fits
range_passes w r =
    both (le (fin false 0 (pos 0)) w) (le w (fin false 1 (pos 10))) (eq w (inf false))
    (le_of_values (fin false 0 (pos 0)) w 0 1 r.X U (lit< tt) (pow_pos 1074) (refl, refl) r.value (le_trans (le_of_eq (zero-mul U)) zero-le))
    (le_of_values w (fin false 1 (pos 10)) r.X U 1024 1 (pow_pos 1074) (lit< tt) r.value (refl, refl) (le_trans (le_of_eq (mul-one r.X)) r.most))

-- whatever y is
at_passes : (y : Float) → fits binary64 y ≡ true → weight_fits (weight_at y) ≡ true
unfolding weight_at
at_passes y f = go (le y one) (lt y infinity) refl refl
  where
    go : (a b : Bool) → le y one ≡ a → lt y infinity ≡ b → weight_fits (cond a zero64 (cond b (logarithm y) infinity)) ≡ true
    go true b p q = zero64_passes
    go false true p q = range_passes (logarithm y) (logarithm_range y f p q)
    go false false p q = infinity_passes

-- and y is always of binary64
passes : (p : Float) → weight_fits (weight_of p) ≡ true
unfolding weight_of
passes p = at_passes (odds p) (is_true (fits binary64 (odds p)) (div-fits binary64 _ _))

-- both laws
pub laws : Laws
laws = record { split = split; passes = passes }
