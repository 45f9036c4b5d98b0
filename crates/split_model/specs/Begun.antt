-- The kept mechanisms in the output tables, as splitting finds them.
use Rattle.std.specs.Prelude.{ℕ, ◌+◌, ◌*◌, ◌<◌, ◌≤◌, ◌≡◌, List, [], map, true, length, get_or, Float}
use Rattle.dem.specs.Model.{Symptom, ErrorMechanism, lists_fit}
use Rattle.dem.specs.Tables.{Tables, model_of, components_in, entries_in, columns_hold, lists_hold, tables_hold, tables_of, tables_written, written}
use Rattle.dem.specs.Positions.{tables}
use Rattle.dem.specs.Decompose.{kept_of}
use Rattle.kept.specs.Columns.{kept_by}
use Rattle.suggested.specs.declared.Size.{Size}
use Rattle.split_model.specs.declared.Counts.{Counts}
use Rattle.suggested.specs.Held.{Holds}
use Rattle.splits.specs.Ready.{Ready}

abbrev pub symptoms_of : List ErrorMechanism → List Symptom
symptoms_of ms = map (λ m. m.symptom) ms

-- the three columns that splitting changes
abbrev pub columns_of : List Float → List ℕ → List ℕ → Tables
columns_of ps ds os = tables ps ds os [] [] [] []

-- n checked mechanisms t, of which the kept ones stand in the tables, and room for 16 more by each
pub record Begun (n : ℕ) (t : Tables) (kept : ℕ) (size room : Size) (first next starts counts others : List ℕ) (ps : List Float) (last before numbers masks words0 words1 earlier : List ℕ) : Type 0 where
  pub holds : tables_hold n t ≡ true
  pub checked : (k : ℕ) (z : ErrorMechanism) → k < n → lists_fit (length last) 128 (get_or (model_of n t) k z) ≡ true
  pub small : entries_in n t < 4294967296
  pub state : Holds (kept_of (model_of n t)) (columns_of ps counts others) size t.entries starts counts others ps last before
  pub ready : Ready (symptoms_of (kept_of (model_of n t))) kept first next numbers masks words0 words1 earlier
  pub wide : length first ≡ length last
  pub starts_hold : size.mechanisms + 16 * n ≤ length starts
  pub before_hold : size.mechanisms + 16 * n ≤ length before
  pub counts_hold : room.mechanisms ≤ length counts
  pub others_hold : room.mechanisms ≤ length others
  pub probability_hold : room.mechanisms ≤ length ps

-- ---- the kept mechanisms are copied

-- tables that hold n mechanisms, and room for as much in the output tables
pub record Copyable (n : ℕ) (t was : Tables) (starts : List ℕ) : Type 0 where
  pub holds : tables_hold n t ≡ true
  pub columns : columns_hold n was ≡ true
  pub lists : lists_hold (components_in n t) (entries_in n t) was ≡ true
  pub small : entries_in n t < 4294967296
  pub started : n ≤ length starts

-- they stand in the output tables, with their starts in the entries given
pub record CopiedKept (n : ℕ) (t was : Tables) (starts : List ℕ) (r : Counts) (after : Tables) (starts' : List ℕ) : Type 0 where
  pub tables : after ≡ tables_written (kept_of (model_of n t)) was
  pub started : starts' ≡ written (kept_by n t.detector_counts (λ i. entries_in i t)) starts
  pub mechanisms : r.mechanisms ≡ length (kept_of (model_of n t))
  pub components : r.components ≡ length (tables_of (kept_of (model_of n t))).component_detectors
  pub entries : r.entries ≡ length (tables_of (kept_of (model_of n t))).entries
