-- What holds of models in tables; proofs/Laws.antt proves it.
use Rattle.std.specs.Prelude.{Ok, ℕ, suc, ◌+◌, ◌-◌, ◌<◌, ◌≤◌, ◌≡◌, List, ◌++◌, true, length, get_or}
use Rattle.codes.specs.Limits.{max_detectors, max_observables, max_mechanisms, max_entries}
use Rattle.dem.specs.Model.{Symptom, ErrorMechanism, lists_fit, probability_fits, check_model}
use Rattle.dem.specs.Tables.{Tables, first_of, model_of, tables_hold, tables_of, tables_written}
use Rattle.dem.specs.Positions.{head_of, mechanism_at, place_past, Inside, place_of, tables_from, columns, Counted}
use Rattle.dem.specs.Check.{check_all}
use Rattle.dem.specs.Cover.{none_such}

-- ---- what an accepted model is, entry by entry

-- "strictly ascending, below D or O, at most 16 entries"
pub record Fits (bound : ℕ) (l : List ℕ) : Type 0 where
  pub short : length l ≤ max_entries
  pub below : (k : ℕ) → k < length l → get_or l k 0 < bound
  pub ascends : (k : ℕ) → suc k < length l → get_or l k 0 < get_or l (suc k) 0

-- both lists
pub record SymptomFits (D O : ℕ) (s : Symptom) : Type 0 where
  pub detectors : Fits D s.detectors
  pub observables : Fits O s.observables

-- its probability, its own lists, and "up to 16 suggested components, each a pair of such lists"
pub record MechanismFits (D O : ℕ) (m : ErrorMechanism) : Type 0 where
  pub lists : lists_fit D O m ≡ true
  pub probability : probability_fits m.probability ≡ true
  pub symptom : SymptomFits D O m.symptom
  pub few : length m.components ≤ max_entries
  pub components : (k : ℕ) → k < length m.components → SymptomFits D O (get_or m.components k none_such)

-- D detectors, O observables and n mechanisms in tables that were accepted
pub record ModelFits (D O n : ℕ) (t : Tables) : Type 0 where
  pub detectors : D ≤ max_detectors
  pub observables : O ≤ max_observables
  pub mechanisms : n ≤ max_mechanisms
  pub holds : tables_hold n t ≡ true
  pub fits : (k : ℕ) (z : ErrorMechanism) → k < n → MechanismFits D O (get_or (model_of n t) k z)

-- ---- where a mechanism stands

-- the place of mechanism i, or past the last one, is inside tables that hold it
pub record Reached (i : ℕ) (t : Tables) : Type 0 where
  pub probability : i ≤ length t.probability
  pub detectors : i ≤ length t.detector_counts
  pub observables : i ≤ length t.observable_counts
  pub components : i ≤ length t.component_counts
  pub component_detectors : (place_of i t).component ≤ length t.component_detectors
  pub component_observables : (place_of i t).component ≤ length t.component_observables
  pub entries : (place_of i t).entry ≤ length t.entries

-- all together
pub record Laws : Type 0 where
  -- what was written is read back, whatever the tables held
  pub read_back : (ms : List ErrorMechanism) (was : Tables) → model_of (length ms) (tables_written ms was) ≡ ms
  pub written_holds : (ms : List ErrorMechanism) (was : Tables) → tables_hold (length ms) (tables_written ms was) ≡ true
  -- and ends where the tables of the model alone end
  pub written_ends : (ms : List ErrorMechanism) (was : Tables)
      → place_of (length ms) (tables_written ms was) ≡ record { component = length (tables_of ms).component_detectors; entry = length (tables_of ms).entries }
  pub read_alone : (ms : List ErrorMechanism) → model_of (length ms) (tables_of ms) ≡ ms
  pub alone_holds : (ms : List ErrorMechanism) → tables_hold (length ms) (tables_of ms) ≡ true
  -- n mechanisms are read: the first i, and those from i on
  pub count : (n : ℕ) (t : Tables) → length (model_of n t) ≡ n
  pub split : (i n : ℕ) (t : Tables) → i ≤ n → model_of n t ≡ model_of i t ++ model_of (n - i) (tables_from i t)
  -- mechanism i is the first from i on: the one with its head, at its place
  pub at : (i n : ℕ) (t : Tables) (z : ErrorMechanism) → i < n → get_or (model_of n t) i z ≡ first_of (tables_from i t)
  pub at_place : (i : ℕ) (t : Tables) → first_of (tables_from i t) ≡ mechanism_at (head_of i t) (place_of i t) t.component_detectors t.component_observables t.entries
  -- its place: the first is 0, and each next one is past it
  pub place_first : (t : Tables) → place_of 0 t ≡ record { component = 0; entry = 0 }
  pub place_next : (i : ℕ) (t : Tables) → place_past (head_of i t) (place_of i t) t.component_detectors t.component_observables ≡ place_of (i + 1) t
  -- its lists lie inside tables that hold it
  pub inside : (i n : ℕ) (t : Tables) → i < n → tables_hold n t ≡ true → Inside (head_of i t) (place_of i t) t.component_detectors t.component_observables t.entries
  pub reached : (i n : ℕ) (t : Tables) → i ≤ n → tables_hold n t ≡ true → Reached i t
  -- and the columns that places go by are long enough for their sums
  pub counted : (n : ℕ) (t : Tables) → n ≤ max_mechanisms → tables_hold n t ≡ true
      → Counted n t.detector_counts t.observable_counts t.component_counts t.component_detectors t.component_observables
  pub place_alone : (n : ℕ) (t : Tables)
      → place_of n (columns t.detector_counts t.observable_counts t.component_counts t.component_detectors t.component_observables) ≡ place_of n t
  -- of an accepted model every mechanism fits
  pub accepted : (D O i : ℕ) (ms : List ErrorMechanism) → check_model D O i ms ≡ Ok tt → (k : ℕ) (z : ErrorMechanism) → k < length ms → MechanismFits D O (get_or ms k z)
  pub checked : (D O n : ℕ) (t : Tables) → check_all D O n t ≡ Ok tt → ModelFits D O n t
