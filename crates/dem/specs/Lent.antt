-- A model as a struct of slices, and its tables lent for writing: the same ones after a call as before it.
use Rattle.std.specs.Prelude.{◌≡◌, length}
use Rattle.dem.specs.declared.Mechanism.{Mechanism}
use Rattle.dem.specs.declared.Place.{Place}
use Rattle.dem.specs.declared.Model.{Model}
use Rattle.dem.specs.declared.Output.{Output}
use Rattle.dem.specs.Model.{ErrorMechanism}
use Rattle.dem.specs.Tables.{Tables}
use Rattle.dem.specs.Positions.{tables, mechanism_at, place_past, Inside, Counted}

abbrev pub tables_of : Model → Tables
tables_of m =
    tables m.probability.now m.detector_counts.now m.observable_counts.now m.component_counts.now m.component_detectors.now m.component_observables.now
    m.entries.now

-- its columns hold its mechanisms and their components
abbrev pub CountedIn : Model → Type 0
CountedIn m = Counted m.mechanisms m.detector_counts.now m.observable_counts.now m.component_counts.now m.component_detectors.now m.component_observables.now

abbrev pub tables_out : Output → Tables
tables_out t =
    tables t.probability.now t.detector_counts.now t.observable_counts.now t.component_counts.now t.component_detectors.now t.component_observables.now
    t.entries.now

-- ---- in a model's tables: the mechanism with head h at p, the place past it, and that all its lists lie inside

abbrev pub mechanism_in : Model → Mechanism → Place → ErrorMechanism
mechanism_in m h p = mechanism_at h p m.component_detectors.now m.component_observables.now m.entries.now

abbrev pub past_in : Model → Mechanism → Place → Place
past_in m h p = place_past h p m.component_detectors.now m.component_observables.now

abbrev pub InsideIn : Model → Mechanism → Place → Type 0
InsideIn m h p = Inside h p m.component_detectors.now m.component_observables.now m.entries.now

-- each slice is the one that was lent, and as long
pub record SameOutput (t t' : Output) : Type 0 where
  pub probability : t'.probability.ghost_name ≡ t.probability.ghost_name
  pub detector_counts : t'.detector_counts.ghost_name ≡ t.detector_counts.ghost_name
  pub observable_counts : t'.observable_counts.ghost_name ≡ t.observable_counts.ghost_name
  pub component_counts : t'.component_counts.ghost_name ≡ t.component_counts.ghost_name
  pub component_detectors : t'.component_detectors.ghost_name ≡ t.component_detectors.ghost_name
  pub component_observables : t'.component_observables.ghost_name ≡ t.component_observables.ghost_name
  pub entries : t'.entries.ghost_name ≡ t.entries.ghost_name
  pub probability_long : length t'.probability.now ≡ length t.probability.now
  pub detector_counts_long : length t'.detector_counts.now ≡ length t.detector_counts.now
  pub observable_counts_long : length t'.observable_counts.now ≡ length t.observable_counts.now
  pub component_counts_long : length t'.component_counts.now ≡ length t.component_counts.now
  pub component_detectors_long : length t'.component_detectors.now ≡ length t.component_detectors.now
  pub component_observables_long : length t'.component_observables.now ≡ length t.component_observables.now
  pub entries_long : length t'.entries.now ≡ length t.entries.now
