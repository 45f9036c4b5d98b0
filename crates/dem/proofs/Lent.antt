-- The same tables after one call and the next.
use mathlib.Core.Path.{◌∙◌, refl}
use Rattle.dem.specs.declared.Output.{Output}
use Rattle.dem.specs.Lent.{SameOutput}

pub same_none : (t : Output) → SameOutput t t
same_none t = record { probability = refl; detector_counts = refl; observable_counts = refl; component_counts = refl; component_detectors = refl; component_observables = refl; entries = refl; probability_long = refl; detector_counts_long = refl; observable_counts_long = refl; component_counts_long = refl; component_detectors_long = refl; component_observables_long = refl; entries_long = refl }

pub same_then : {t t' t'' : Output} → SameOutput t t' → SameOutput t' t'' → SameOutput t t''
same_then a b = record {
  probability = b.probability ∙ a.probability;
  detector_counts = b.detector_counts ∙ a.detector_counts;
  observable_counts = b.observable_counts ∙ a.observable_counts;
  component_counts = b.component_counts ∙ a.component_counts;
  component_detectors = b.component_detectors ∙ a.component_detectors;
  component_observables = b.component_observables ∙ a.component_observables;
  entries = b.entries ∙ a.entries;
  probability_long = b.probability_long ∙ a.probability_long;
  detector_counts_long = b.detector_counts_long ∙ a.detector_counts_long;
  observable_counts_long = b.observable_counts_long ∙ a.observable_counts_long;
  component_counts_long = b.component_counts_long ∙ a.component_counts_long;
  component_detectors_long = b.component_detectors_long ∙ a.component_detectors_long;
  component_observables_long = b.component_observables_long ∙ a.component_observables_long;
  entries_long = b.entries_long ∙ a.entries_long;
}
