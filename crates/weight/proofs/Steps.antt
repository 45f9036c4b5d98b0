-- Horner's rule, a step at a time. Assumes nothing.
use Rattle.std.proofs.Common.{◌≡◌, refl, ℕ, zero, suc, ◌-◌, ◌≤◌, ◌<◌, Float, arith}
use native.Mathlib.Numerals.{unary_clauses}
use lib.Ieee.{binary64, add, mul}
use Rattle.weight.specs.Weight.{coefficient, steps}

-- one step
pub step : (i : ℕ) (s r : Float) → 0 < i → steps (i - 1) s (add binary64 (mul binary64 r s) (coefficient (i - 1))) ≡ steps i s r
unfolding steps
step zero s r h = absurd (omega arith)
step (suc n) s r h = simp unary_clauses

-- no step left
pub done : (i : ℕ) (s r : Float) → i ≤ 0 → steps i s r ≡ r
unfolding steps
done zero s r h = refl
done (suc n) s r h = absurd (omega arith)
