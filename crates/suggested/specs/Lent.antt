-- The mechanisms so far as a struct of slices: what is said of the slices, of the struct.
use Rattle.std.specs.Prelude.{Option, ℕ, ◌≡◌, List, length, Float}
use Rattle.dem.specs.declared.Model.{Model}
use Rattle.dem.specs.declared.Place.{Place}
use Rattle.dem.specs.Model.{Symptom, ErrorMechanism}
use Rattle.dem.specs.Tables.{Tables}
use Rattle.dem.specs.Decompose.{Split}
use Rattle.last_equal.specs.declared.Span.{Span}
use Rattle.suggested.specs.declared.Size.{Size}
use Rattle.suggested.specs.declared.Mechanisms.{Mechanisms}
use Rattle.suggested.specs.Held.{Holds, Held, Outcome, Roomy, components_from, Suggested}
use Rattle.suggested.specs.Appended.{Appendable, Appended}

-- each slice is the one that was lent, and as long
pub record SameMechanisms (t t' : Mechanisms) : Type 0 where
  pub starts : t'.starts.ghost_name ≡ t.starts.ghost_name
  pub detector_counts : t'.detector_counts.ghost_name ≡ t.detector_counts.ghost_name
  pub observable_counts : t'.observable_counts.ghost_name ≡ t.observable_counts.ghost_name
  pub probability : t'.probability.ghost_name ≡ t.probability.ghost_name
  pub last_of : t'.last_of.ghost_name ≡ t.last_of.ghost_name
  pub before : t'.before.ghost_name ≡ t.before.ghost_name
  pub starts_long : length t'.starts.now ≡ length t.starts.now
  pub detector_counts_long : length t'.detector_counts.now ≡ length t.detector_counts.now
  pub observable_counts_long : length t'.observable_counts.now ≡ length t.observable_counts.now
  pub probability_long : length t'.probability.now ≡ length t.probability.now
  pub last_of_long : length t'.last_of.now ≡ length t.last_of.now
  pub before_long : length t'.before.now ≡ length t.before.now

-- ---- the model so far: Held

abbrev pub HoldsBy : List ErrorMechanism → Tables → Size → List ℕ → Mechanisms → Type 0
HoldsBy ms was size es t = Holds ms was size es t.starts.now t.detector_counts.now t.observable_counts.now t.probability.now t.last_of.now t.before.now

abbrev pub HeldBy : Size → List ℕ → Mechanisms → Type 0
HeldBy size es t = Held size es t.starts.now t.detector_counts.now t.observable_counts.now t.probability.now t.last_of.now t.before.now

abbrev pub OutcomeBy : Split → Tables → Option Size → List ℕ → Mechanisms → Type 0
OutcomeBy x was r es t = Outcome x was r es t.starts.now t.detector_counts.now t.observable_counts.now t.probability.now t.last_of.now t.before.now

abbrev pub RoomyBy : ℕ → Size → Size → Mechanisms → Type 0
RoomyBy n size room t = Roomy n size room t.starts.now t.detector_counts.now t.observable_counts.now t.probability.now t.before.now

-- ---- one more: Appended

abbrev pub AppendableBy : Span → ℕ → List ℕ → Mechanisms → Type 0
AppendableBy s n es t = Appendable s n es t.starts.now t.detector_counts.now t.observable_counts.now t.probability.now t.last_of.now t.before.now

abbrev pub AppendedBy : Span → Float → ℕ → List ℕ → Mechanisms → Mechanisms → Type 0
AppendedBy s p n es t t' =
    Appended s p n es t.starts.now t.detector_counts.now t.observable_counts.now t.probability.now
    t'.starts.now t'.detector_counts.now t'.observable_counts.now t'.probability.now t'.last_of.now t'.before.now

-- ---- components of a model, from a place on

abbrev pub components_at : ℕ → Place → Model → List Symptom
components_at n p m = components_from n p.component p.entry m.component_detectors.now m.component_observables.now m.entries.now

abbrev pub SuggestedAt : ℕ → Place → ℕ → Model → Type 0
SuggestedAt n p d m = Suggested n p.component p.entry d m.component_detectors.now m.component_observables.now m.entries.now
