-- The same slices after one call and the next.
use mathlib.Core.Path.{◌∙◌, refl}
use Rattle.suggested.specs.declared.Mechanisms.{Mechanisms}
use Rattle.suggested.specs.Lent.{SameMechanisms}

pub same_none : (t : Mechanisms) → SameMechanisms t t
same_none t = record {
  starts = refl;
  detector_counts = refl;
  observable_counts = refl;
  probability = refl;
  last_of = refl;
  before = refl;
  starts_long = refl;
  detector_counts_long = refl;
  observable_counts_long = refl;
  probability_long = refl;
  last_of_long = refl;
  before_long = refl;
}

pub same_then : {t t' t'' : Mechanisms} → SameMechanisms t t' → SameMechanisms t' t'' → SameMechanisms t t''
same_then a b = record {
  starts = b.starts ∙ a.starts;
  detector_counts = b.detector_counts ∙ a.detector_counts;
  observable_counts = b.observable_counts ∙ a.observable_counts;
  probability = b.probability ∙ a.probability;
  last_of = b.last_of ∙ a.last_of;
  before = b.before ∙ a.before;
  starts_long = b.starts_long ∙ a.starts_long;
  detector_counts_long = b.detector_counts_long ∙ a.detector_counts_long;
  observable_counts_long = b.observable_counts_long ∙ a.observable_counts_long;
  probability_long = b.probability_long ∙ a.probability_long;
  last_of_long = b.last_of_long ∙ a.last_of_long;
  before_long = b.before_long ∙ a.before_long;
}
