-- The model so far in its tables.
use Rattle.std.specs.Prelude.{Option, Some, None}
use Rattle.std.specs.Prelude.{ℕ, ◌+◌, ◌<◌, ◌≤◌, ◌≡◌, List, Bool, true, false, not, ◌&&◌, length, get_or, drop, leb, ltb, Float}
use Rattle.codes.specs.declared.Refusal.TheVariants.{Limit}
use Rattle.dem.specs.Model.{Symptom, ErrorMechanism, symptoms_fit}
use Rattle.dem.specs.Tables.{Tables, tables_of, written, components_of, component_entries}
use Rattle.dem.specs.Positions.{Within}
use Rattle.lists.specs.Lists.{any}
use Rattle.dem.specs.Decompose.{Places, Split, into, refused, entries_of, one_or_two}
use Rattle.cover.specs.Kept.{detectors_at, symptom_at, Detectors, Observables}
use Rattle.suggested.specs.declared.Size.{Size}
use Rattle.last_equal.specs.Last.{Chained}

abbrev pub places_of : Size → Places
places_of s = record { mechanisms = s.mechanisms; entries = s.entries }

abbrev pub size_of : List ErrorMechanism → Size
size_of ms = record { mechanisms = length ms; entries = entries_of ms }

-- one more mechanism of so many entries finds its place
abbrev pub place_for : Size → Size → ℕ → Bool
place_for size room more = ltb size.mechanisms room.mechanisms && (ltb size.mechanisms 16384 && leb (size.entries + more) room.entries)

-- the model ms: its size, its lists by their starts in the entries given, its columns in front of the old contents, and the chains
pub record Holds (ms : List ErrorMechanism) (was : Tables) (size : Size) (es starts counts others : List ℕ) (ps : List Float) (last before : List ℕ) : Type 0 where
  pub sized : size ≡ size_of ms
  pub detectors : Detectors starts counts es (length ms) (length last)
  pub observables : Observables starts counts others es (length ms)
  pub symptoms : (k : ℕ) (z : ErrorMechanism) → k < length ms → (get_or ms k z).symptom ≡ symptom_at starts counts others es k
  pub probability : ps ≡ written (tables_of ms).probability was.probability
  pub detector_counts : counts ≡ written (tables_of ms).detector_counts was.detector_counts
  pub observable_counts : others ≡ written (tables_of ms).observable_counts was.observable_counts
  pub chains : Chained (detectors_at starts counts es) (length ms) last before
  pub fits : length ms ≤ length ps

-- some model
pub record Held (size : Size) (es starts counts others : List ℕ) (ps : List Float) (last before : List ℕ) : Type 0 where
  pub ms : List ErrorMechanism
  pub was : Tables
  pub holds : Holds ms was size es starts counts others ps last before

-- what adding comes to: the model and its tables, or no place
abbrev pub Outcome : Split → Tables → Option Size → List ℕ → List ℕ → List ℕ → List ℕ → List Float → List ℕ → List ℕ → Type 0
Outcome (into ms) was r es starts counts others ps last before = (r ≡ Some (size_of ms)) × Holds ms was (size_of ms) es starts counts others ps last before
Outcome (refused x) was r es starts counts others ps last before = (x ≡ Limit) × (r ≡ None)

-- so many new mechanisms of a room find their place in the tables
pub record Roomy (n : ℕ) (size room : Size) (starts counts others : List ℕ) (ps : List Float) (before : List ℕ) : Type 0 where
  pub starts_hold : size.mechanisms + n ≤ length starts
  pub before_hold : size.mechanisms + n ≤ length before
  pub counts_hold : room.mechanisms ≤ length counts
  pub others_hold : room.mechanisms ≤ length others
  pub probability_hold : room.mechanisms ≤ length ps

-- n components, from component c and entry e on
abbrev pub components_from : ℕ → ℕ → ℕ → List ℕ → List ℕ → List ℕ → List Symptom
components_from n c e cds cos es = components_of n (drop c cds) (drop c cos) (drop e es)

-- they are checked, each of one or two detectors, and inside the tables
pub record Suggested (n c e D : ℕ) (cds cos es : List ℕ) : Type 0 where
  pub within : Within n c e cds cos es
  pub small : e + component_entries n (drop c cds) (drop c cos) < 4294967296
  pub checked : symptoms_fit D 128 (components_from n c e cds cos es) ≡ true
  pub one_or_two_is : any (λ r. not (one_or_two r)) (components_from n c e cds cos es) ≡ false
