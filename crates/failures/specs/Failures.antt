-- Failures and their rate: docs/RULES.md, "The rate" and "Refusals".
use Rattle.failures.specs.declared.ErrorRate.{ErrorRate}
use Rattle.failures.specs.declared.ErrorRate.TheVariants as error_rate
use Rattle.std.specs.Prelude.{Result, Ok, Err}
use Rattle.codes.specs.declared.Refusal.{Refusal}
use Rattle.std.specs.Prelude.{ℕ, ◌+◌, ◌*◌, ◌≤◌, ◌<◌, ◌≡◌, List, [], ◌∷◌, Bool, true, cond, not, ◌&&◌, ◌||◌, eqb, pos, length, Float}
use Rattle.std.specs.Bool.{xor}
use Rattle.std.specs.Float.{binary64}
use Rattle.std.specs.Float.Ieee.{div, of_int, to_bits}
use Rattle.lists.specs.Lists.{below, filter, any}
use Rattle.bits.specs.Rows.{words, bit, is_clear}
use Rattle.codes.specs.Codes.{Sheet, refusal_row, success_row}
use Rattle.codes.specs.declared.Refusal.TheVariants.{Shape}
use Rattle.codes.specs.Order.{Checked, refuse_if}
use Rattle.codes.specs.Limits.{max_observables, max_shots}
use Rattle.packed.specs.Packed.{row_at}
use Rattle.weight.specs.Weight.{zero64}

-- an observable differs between a predicted and a true row of O observables
unfoldable pub differs : ℕ → List ℕ → List ℕ → Bool
unfolding any below bit
differs o predicted true-row = any (λ i. xor (bit predicted i) (bit true-row i)) (below o)

-- "a failure is a shot with any differing observable": how many, of rows one after another
unfoldable pub failures_in : ℕ → ℕ → List ℕ → List ℕ → ℕ
unfolding filter below differs words
failures_in o shots out truth = length (filter (λ s. differs o (row_at (words o) out s) (row_at (words o) truth s)) (below shots))

-- failures divided by shots, rounded once; zero shots or O = 0 gives 0.0
unfoldable pub rate_of : ℕ → ℕ → ℕ → Float
rate_of o failures shots = cond (eqb shots 0 || eqb o 0) zero64 (div binary64 (of_int binary64 (pos failures)) (of_int binary64 (pos shots)))

-- 12, where the true observables are not as many shots of O observables each
unfoldable pub shape_of : ℕ → ℕ → ℕ → ℕ → Checked
shape_of o shots true_shots true_width = refuse_if (not (eqb true_shots shots && eqb true_width o)) Shape

-- the sheet's number and values for each case of the answer: the rate by its bits
abbrev pub sheet_of : ErrorRate → Sheet
sheet_of (error_rate.Rate rate) = success_row (to_bits binary64 rate ∷ [])
sheet_of (error_rate.Refused r) = refusal_row r

-- and for what the call comes to
abbrev pub call_row : Checked → Float → Sheet
call_row (Err r) rate = refusal_row r
call_row (Ok tt) rate = success_row (to_bits binary64 rate ∷ [])

-- the rate where nothing refuses
abbrev pub answer_of : Checked → Float → ErrorRate
answer_of (Err r) rate = error_rate.Refused r
answer_of (Ok tt) rate = error_rate.Rate rate

-- ---- rows that may be compared word by word

-- within the limits: row s of w words in both, no padding set
pub record ComparableRow (o w s : ℕ) (out truth : List ℕ) : Type 0 where
  pub few : s ≤ max_shots
  pub few_observables : o ≤ max_observables
  pub wide : w ≡ words o
  pub out_end : s * words o + words o ≤ length out
  pub true_end : s * words o + words o ≤ length truth
  pub out_clear : is_clear o (row_at (words o) out s) ≡ true
  pub true_clear : is_clear o (row_at (words o) truth s) ≡ true

-- so is each row of the shots
pub record Comparable (o shots : ℕ) (out truth : List ℕ) : Type 0 where
  pub few : shots ≤ max_shots
  pub few_observables : o ≤ max_observables
  pub outs : shots * words o ≤ length out
  pub trues : shots * words o ≤ length truth
  pub out_clear : (s : ℕ) → s < shots → is_clear o (row_at (words o) out s) ≡ true
  pub true_clear : (s : ℕ) → s < shots → is_clear o (row_at (words o) truth s) ≡ true
