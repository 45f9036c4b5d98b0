-- The components of a model in its tables.
use Rattle.std.specs.Prelude.{ℕ, List, take}
use Rattle.dem.specs.declared.Model.{Model}
use Rattle.dem.specs.Positions.{total}
use Rattle.kept.specs.Columns.{kept_parts}

-- how many they are
abbrev pub component_total : Model → ℕ
component_total m = total (take m.mechanisms m.component_counts.now)

-- of a column of theirs, the part of the kept mechanisms
abbrev pub component_column : Model → List ℕ → List ℕ
component_column m = kept_parts m.mechanisms m.detector_counts.now (λ i. total (take i m.component_counts.now))
