-- A detector error model: docs/RULES.md, "Models".
use Rattle.std.specs.Prelude.{Ok, ℕ, suc, List, [], ◌∷◌, Bool, true, false, not, ◌&&◌, length, leb, ltb, pos, Float}
use Rattle.std.specs.Float.Ieee as Ieee
use Rattle.std.specs.Float.{fin}
use Rattle.codes.specs.declared.Refusal.TheVariants.{Probability, Index}
use Rattle.codes.specs.Order.{Checked, refuse_if, and_then}
use Rattle.codes.specs.Limits.{max_entries}

-- the detectors and the observables that flip together
pub record Symptom : Type 0 where
  pub detectors : List ℕ
  pub observables : List ℕ

pub record ErrorMechanism : Type 0 where
  pub probability : Float
  pub symptom : Symptom
  -- the suggested components
  pub components : List Symptom

-- ---- the model check

-- strictly ascending from low on, and below the bound
unfoldable pub ascending : ℕ → ℕ → List ℕ → Bool
ascending low bound [] = true
ascending low bound (x ∷ xs) = leb low x && (ltb x bound && ascending (suc x) bound xs)

-- "strictly ascending, below D or O, at most 16 entries"
unfoldable pub list_fits : ℕ → List ℕ → Bool
unfolding ascending
list_fits bound l = leb (length l) max_entries && ascending 0 bound l

unfoldable pub symptom_fits : ℕ → ℕ → Symptom → Bool
unfolding list_fits
symptom_fits d o s = list_fits d s.detectors && list_fits o s.observables

unfoldable pub symptoms_fit : ℕ → ℕ → List Symptom → Bool
unfolding symptom_fits
symptoms_fit d o [] = true
symptoms_fit d o (s ∷ ss) = symptom_fits d o s && symptoms_fit d o ss

-- its own lists, and up to 16 components, "each a pair of such lists"
unfoldable pub lists_fit : ℕ → ℕ → ErrorMechanism → Bool
unfolding symptom_fits symptoms_fit
lists_fit d o m = symptom_fits d o m.symptom && (leb (length m.components) max_entries && symptoms_fit d o m.components)

-- in [0, 1); NaN is not
unfoldable pub probability_fits : Float → Bool
probability_fits p = Ieee.le (fin false 0 (pos 0)) p && Ieee.lt p (fin false 1 (pos 0))

-- of mechanism i: lists (5), then probability (4)
unfoldable pub check_mechanism : ℕ → ℕ → ℕ → ErrorMechanism → Checked
unfolding lists_fit probability_fits
check_mechanism d o i m = and_then (refuse_if (not (lists_fit d o m)) (Index i)) (refuse_if (not (probability_fits m.probability)) (Probability i))

-- all mechanisms in order, the first being number i
unfoldable pub check_model : ℕ → ℕ → ℕ → List ErrorMechanism → Checked
unfolding check_mechanism
check_model d o i [] = (Ok tt)
check_model d o i (m ∷ ms) = and_then (check_mechanism d o i m) (check_model d o (suc i) ms)
