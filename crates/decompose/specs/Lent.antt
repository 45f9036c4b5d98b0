-- The structs of slices that decomposition takes, as its definitions name their lists.
use Rattle.std.specs.Prelude.{ℕ, ◌≡◌, List, length}
use Rattle.dem.specs.declared.Model.{Model}
use Rattle.dem.specs.declared.Output.{Output}
use Rattle.dem.specs.Lent.{tables_of, tables_out}
use Rattle.dem.specs.Model.{Symptom, ErrorMechanism}
use Rattle.dem.specs.Tables.{model_of}
use Rattle.dem.specs.Decompose.{kept_of}
use Rattle.cover.specs.declared.CandidateTables.{CandidateTables}
use Rattle.cover.specs.Lent.{SameCandidates}
use Rattle.suggested.specs.declared.Mechanisms.{Mechanisms}
use Rattle.suggested.specs.declared.Size.{Size}
use Rattle.split_model.specs.declared.Counts.{Counts}
use Rattle.split_model.specs.Begun.{Begun}
use Rattle.decompose.specs.declared.ChainTables.{ChainTables}
use Rattle.decompose.specs.declared.Lengths.{Lengths}
use Rattle.decompose.specs.declared.Scratch.{Scratch}
use Rattle.decompose.specs.Appended.{lists_from, Appendable}
use Rattle.decompose.specs.Call.{lengths_of}
use Rattle.decompose.specs.Made.{Finished, Roomy}
use Rattle.decompose.specs.Started.{Startable, Started, Decomposable}

-- the mechanisms of a model in its tables
abbrev pub model_in : Model → List ErrorMechanism
model_in m = model_of m.mechanisms (tables_of m)

-- the lengths of the scratch slices
abbrev pub lengths_in : Scratch → Lengths
lengths_in s =
    let c = s.candidates in
    lengths_of s.starts.now s.before.now s.last_of.now s.first_of.now s.next_of.now c.numbers.now c.masks.now c.words0.now c.words1.now c.earlier.now

-- each slice is the one that was lent, and as long
pub record SameChains (x x' : ChainTables) : Type 0 where
  pub starts : x'.starts.ghost_name ≡ x.starts.ghost_name
  pub before : x'.before.ghost_name ≡ x.before.ghost_name
  pub last_of : x'.last_of.ghost_name ≡ x.last_of.ghost_name
  pub first_of : x'.first_of.ghost_name ≡ x.first_of.ghost_name
  pub next_of : x'.next_of.ghost_name ≡ x.next_of.ghost_name
  pub starts_long : length x'.starts.now ≡ length x.starts.now
  pub before_long : length x'.before.now ≡ length x.before.now
  pub last_of_long : length x'.last_of.now ≡ length x.last_of.now
  pub first_of_long : length x'.first_of.now ≡ length x.first_of.now
  pub next_of_long : length x'.next_of.now ≡ length x.next_of.now

pub record SameScratch (s s' : Scratch) : Type 0 where
  pub starts : s'.starts.ghost_name ≡ s.starts.ghost_name
  pub before : s'.before.ghost_name ≡ s.before.ghost_name
  pub last_of : s'.last_of.ghost_name ≡ s.last_of.ghost_name
  pub first_of : s'.first_of.ghost_name ≡ s.first_of.ghost_name
  pub next_of : s'.next_of.ghost_name ≡ s.next_of.ghost_name
  pub starts_long : length s'.starts.now ≡ length s.starts.now
  pub before_long : length s'.before.now ≡ length s.before.now
  pub last_of_long : length s'.last_of.now ≡ length s.last_of.now
  pub first_of_long : length s'.first_of.now ≡ length s.first_of.now
  pub next_of_long : length s'.next_of.now ≡ length s.next_of.now
  pub candidates : SameCandidates s.candidates s'.candidates

-- ---- the appended mechanisms, their lists in the entries es

abbrev pub lists_in : Mechanisms → List ℕ → ℕ → ℕ → List Symptom
lists_in t es k n = lists_from t.starts.now t.detector_counts.now t.observable_counts.now es k n

abbrev pub AppendableIn : Mechanisms → List ℕ → ℕ → ℕ → ℕ → List ℕ → Type 0
AppendableIn t es k n at out = Appendable t.starts.now t.detector_counts.now t.observable_counts.now es k n at out

abbrev pub FinishedIn : Counts → Size → Mechanisms → List ℕ → List ℕ → List ℕ → Counts → List ℕ → List ℕ → Type 0
FinishedIn kept size t es cs out r cs' out' = Finished kept size t.starts.now t.detector_counts.now t.observable_counts.now es cs out r cs' out'

-- ---- a checked model

abbrev pub StartableIn : Model → Output → ChainTables → Type 0
StartableIn m out x = Startable m.mechanisms (tables_of m) (tables_out out) x.starts.now x.before.now x.last_of.now x.first_of.now x.next_of.now

abbrev pub StartedIn : Model → Output → ChainTables → Counts → Output → ChainTables → Type 0
StartedIn m out x r out' x' =
    Started m.mechanisms (tables_of m) (tables_out out) x.starts.now r (tables_out out')
    x'.starts.now x'.before.now x'.last_of.now x'.first_of.now x'.next_of.now

abbrev pub BegunIn : Model → Counts → Size → Output → ChainTables → CandidateTables → Type 0
BegunIn m kept room out x c =
    Begun m.mechanisms (tables_of m) kept.mechanisms (record { mechanisms = kept.mechanisms; entries = kept.entries }) room x.first_of.now x.next_of.now
    x.starts.now out.detector_counts.now out.observable_counts.now out.probability.now x.last_of.now x.before.now
    c.numbers.now c.masks.now c.words0.now c.words1.now c.earlier.now

abbrev pub RoomyIn : Model → Counts → Size → Output → Type 0
RoomyIn m kept room out = Roomy (kept_of (model_in m)) kept room out.component_counts.now out.entries.now

abbrev pub DecomposableIn : Model → Size → Output → List ℕ → List ℕ → List ℕ → List ℕ → List ℕ → CandidateTables → Type 0
DecomposableIn m room out starts before last first next c =
    Decomposable m.detectors m.mechanisms (tables_of m) (tables_out out) room starts before last first next
    c.numbers.now c.masks.now c.words0.now c.words1.now c.earlier.now
