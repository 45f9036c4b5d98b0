-- The lists as a struct of slices, in the words of Last.
use Rattle.std.specs.Prelude.{ℕ, List}
use Rattle.cover.specs.declared.Lists.{Lists}
use Rattle.last_equal.specs.declared.Span.{Span}
use Rattle.last_equal.specs.Last.{Linkable, Findable}

abbrev pub LinkableBy : Lists → ℕ → List ℕ → List ℕ → Type 0
LinkableBy l = Linkable l.starts.now l.detector_counts.now l.entries.now

abbrev pub FindableBy : Span → ℕ → Lists → List ℕ → List ℕ → Type 0
FindableBy s n l = Findable s n l.entries.now l.starts.now l.detector_counts.now l.observable_counts.now
