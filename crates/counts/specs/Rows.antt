-- The table of counts, and its columns.
use Rattle.std.specs.Prelude.{ℕ, zero, suc, ◌≡◌, List, map, length, take}
use Rattle.columns.specs.Columns.{Keeps}
use Rattle.counts.specs.declared.Row.{Row}
use Rattle.counts.specs.declared.Columns.{Columns}

abbrev pub detectors : List Row → List ℕ
detectors = map (λ r. r.detectors)

abbrev pub observables : List Row → List ℕ
observables = map (λ r. r.observables)

abbrev pub components : List Row → List ℕ
components = map (λ r. r.components)

abbrev pub component_detectors : List Row → List ℕ
component_detectors = map (λ r. r.component_detectors)

abbrev pub component_observables : List Row → List ℕ
component_observables = map (λ r. r.component_observables)

-- by number; there are no more
abbrev pub row_column : ℕ → Row → ℕ
row_column zero r = r.detectors
row_column (suc zero) r = r.observables
row_column (suc (suc zero)) r = r.components
row_column (suc (suc (suc zero))) r = r.component_detectors
row_column (suc (suc (suc (suc zero)))) r = r.component_observables
row_column (suc (suc (suc (suc (suc k))))) r = 0

-- all but the columns ks is kept
abbrev pub SameRows : List ℕ → List Row → List Row → Type 0
SameRows = Keeps row_column

-- c has the first n rows of s, column by column, with places for more
pub record FirstRows (n : ℕ) (s : List Row) (c : Columns) : Type 0 where
  pub detectors_long : 1024 ≡ length c.detectors
  pub observables_long : 1024 ≡ length c.observables
  pub components_long : 1024 ≡ length c.components
  pub component_detectors_long : 1024 ≡ length c.component_detectors
  pub component_observables_long : 1024 ≡ length c.component_observables
  pub detectors : take n c.detectors ≡ take n (detectors s)
  pub observables : take n c.observables ≡ take n (observables s)
  pub components : take n c.components ≡ take n (components s)
  pub component_detectors : take n c.component_detectors ≡ take n (component_detectors s)
  pub component_observables : take n c.component_observables ≡ take n (component_observables s)
