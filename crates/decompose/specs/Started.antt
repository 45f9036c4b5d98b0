-- A checked model, and the slices that its decomposition is given.
use Rattle.std.specs.Prelude.{ℕ, ◌*◌, ◌<◌, ◌≤◌, ◌≡◌, List, true, length, get_or}
use Rattle.codes.specs.Limits.{max_mechanisms, max_observables}
use Rattle.dem.specs.Model.{ErrorMechanism, lists_fit}
use Rattle.dem.specs.Tables.{Tables, model_of, components_in, entries_in, columns_hold, lists_hold, tables_hold}
use Rattle.cover.specs.Kept.{detectors_at, Chains}
use Rattle.suggested.specs.declared.Size.{Size}
use Rattle.last_equal.specs.Last.{Chained}
use Rattle.suggested.specs.Held.{places_of}
use Rattle.split_model.specs.declared.Counts.{Counts}
use Rattle.split_model.specs.Begun.{CopiedKept}
use Rattle.decompose.specs.Call.{room_of}

-- n mechanisms in tables that hold them, their lists below D and below the limit of observables
pub record Fitting (D n : ℕ) (t : Tables) : Type 0 where
  pub holds : tables_hold n t ≡ true
  pub few : n ≤ max_mechanisms
  pub lists : (k : ℕ) (z : ErrorMechanism) → k < n → lists_fit D max_observables (get_or (model_of n t) k z) ≡ true

-- room for as much in the output tables, and for the chains
pub record Startable (n : ℕ) (t was : Tables) (starts before last first next : List ℕ) : Type 0 where
  pub fitting : Fitting (length last) n t
  pub columns : columns_hold n was ≡ true
  pub lists : lists_hold (components_in n t) (entries_in n t) was ≡ true
  pub wide : length first ≡ length last
  pub starts_hold : n ≤ length starts
  pub before_hold : n ≤ length before
  pub next_hold : n ≤ length next

-- the kept mechanisms in the output tables, and the chains of both kinds
pub record Started (n : ℕ) (t was : Tables) (starts : List ℕ) (r : Counts) (after : Tables) (starts' before last first next : List ℕ) : Type 0 where
  pub copied : CopiedKept n t was starts r after starts'
  pub lasts : Chained (detectors_at starts' after.detector_counts t.entries) r.mechanisms last before
  pub firsts : Chains (detectors_at starts' after.detector_counts t.entries) r.mechanisms first next

-- the lent places, and every scratch slice
pub record Decomposable (D n : ℕ) (t was : Tables) (room : Size) (starts before last first next numbers masks words0 words1 earlier : List ℕ) : Type 0 where
  pub fitting : Fitting D n t
  pub columns : columns_hold n was ≡ true
  pub lists : lists_hold (components_in n t) (entries_in n t) was ≡ true
  pub places : places_of room ≡ room_of was
  pub starts_hold : 17 * n ≤ length starts
  pub before_hold : 17 * n ≤ length before
  pub last_hold : D ≤ length last
  pub first_hold : D ≤ length first
  pub next_hold : n ≤ length next
  pub numbers_hold : n ≤ length numbers
  pub masks_hold : n ≤ length masks
  pub words0_hold : n ≤ length words0
  pub words1_hold : n ≤ length words1
  pub earlier_hold : n ≤ length earlier
