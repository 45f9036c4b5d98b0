-- A field of a row stored: its column, and what is kept. A field read.
use Prim.Native.Nat.{ℕ, zero, suc}
use mathlib.Core.Path.{◌≡◌, refl}
use mathlib.Core.Bool.{false}
use mathlib.Core.List.{List, [], ◌∷◌}
use lib.ListN.{get_or, set, get_or-map}
use Rattle.columns.specs.Columns.{among}
use Rattle.columns.proofs.Columns.{keep_row}
use Rattle.counts.specs.declared.Row.{Row}
use Rattle.counts.specs.Rows.{detectors, observables, components, component_detectors, component_observables, row_column, SameRows}

but_detectors : (r : Row) (v : ℕ) (k : ℕ) → among k (0 ∷ []) ≡ false → row_column k (record r { detectors = v }) ≡ row_column k r
but_detectors r v zero h = cc
but_detectors r v (suc zero) h = refl
but_detectors r v (suc (suc zero)) h = refl
but_detectors r v (suc (suc (suc zero))) h = refl
but_detectors r v (suc (suc (suc (suc zero)))) h = refl
but_detectors r v (suc (suc (suc (suc (suc k))))) h = refl

pub kept_detectors : (t : List Row) (x : ℕ) (v : ℕ) (z : Row) → SameRows (0 ∷ []) t (set t x (record (get_or t x z) { detectors = v }))
kept_detectors t x v z = keep_row t x (record (get_or t x z) { detectors = v }) z (but_detectors (get_or t x z) v)

but_observables : (r : Row) (v : ℕ) (k : ℕ) → among k (1 ∷ []) ≡ false → row_column k (record r { observables = v }) ≡ row_column k r
but_observables r v zero h = refl
but_observables r v (suc zero) h = cc
but_observables r v (suc (suc zero)) h = refl
but_observables r v (suc (suc (suc zero))) h = refl
but_observables r v (suc (suc (suc (suc zero)))) h = refl
but_observables r v (suc (suc (suc (suc (suc k))))) h = refl

pub kept_observables : (t : List Row) (x : ℕ) (v : ℕ) (z : Row) → SameRows (1 ∷ []) t (set t x (record (get_or t x z) { observables = v }))
kept_observables t x v z = keep_row t x (record (get_or t x z) { observables = v }) z (but_observables (get_or t x z) v)

but_components : (r : Row) (v : ℕ) (k : ℕ) → among k (2 ∷ []) ≡ false → row_column k (record r { components = v }) ≡ row_column k r
but_components r v zero h = refl
but_components r v (suc zero) h = refl
but_components r v (suc (suc zero)) h = cc
but_components r v (suc (suc (suc zero))) h = refl
but_components r v (suc (suc (suc (suc zero)))) h = refl
but_components r v (suc (suc (suc (suc (suc k))))) h = refl

pub kept_components : (t : List Row) (x : ℕ) (v : ℕ) (z : Row) → SameRows (2 ∷ []) t (set t x (record (get_or t x z) { components = v }))
kept_components t x v z = keep_row t x (record (get_or t x z) { components = v }) z (but_components (get_or t x z) v)

but_component_detectors : (r : Row) (v : ℕ) (k : ℕ) → among k (3 ∷ []) ≡ false → row_column k (record r { component_detectors = v }) ≡ row_column k r
but_component_detectors r v zero h = refl
but_component_detectors r v (suc zero) h = refl
but_component_detectors r v (suc (suc zero)) h = refl
but_component_detectors r v (suc (suc (suc zero))) h = cc
but_component_detectors r v (suc (suc (suc (suc zero)))) h = refl
but_component_detectors r v (suc (suc (suc (suc (suc k))))) h = refl

pub kept_component_detectors : (t : List Row) (x : ℕ) (v : ℕ) (z : Row) → SameRows (3 ∷ []) t (set t x (record (get_or t x z) { component_detectors = v }))
kept_component_detectors t x v z = keep_row t x (record (get_or t x z) { component_detectors = v }) z (but_component_detectors (get_or t x z) v)

but_component_observables : (r : Row) (v : ℕ) (k : ℕ) → among k (4 ∷ []) ≡ false → row_column k (record r { component_observables = v }) ≡ row_column k r
but_component_observables r v zero h = refl
but_component_observables r v (suc zero) h = refl
but_component_observables r v (suc (suc zero)) h = refl
but_component_observables r v (suc (suc (suc zero))) h = refl
but_component_observables r v (suc (suc (suc (suc zero)))) h = cc
but_component_observables r v (suc (suc (suc (suc (suc k))))) h = refl

pub kept_component_observables : (t : List Row) (x : ℕ) (v : ℕ) (z : Row) → SameRows (4 ∷ []) t (set t x (record (get_or t x z) { component_observables = v }))
kept_component_observables t x v z = keep_row t x (record (get_or t x z) { component_observables = v }) z (but_component_observables (get_or t x z) v)

-- ---- a field read, from its column

-- the row that a read past the table gives
abbrev pub no_row : Row
no_row = record { detectors = 0; observables = 0; components = 0; component_detectors = 0; component_observables = 0 }

pub read_detectors : (t : List Row) (x : ℕ) → get_or (detectors t) x 0 ≡ (get_or t x no_row).detectors
read_detectors t x = get_or-map (λ r. r.detectors) t x no_row

pub read_observables : (t : List Row) (x : ℕ) → get_or (observables t) x 0 ≡ (get_or t x no_row).observables
read_observables t x = get_or-map (λ r. r.observables) t x no_row

pub read_components : (t : List Row) (x : ℕ) → get_or (components t) x 0 ≡ (get_or t x no_row).components
read_components t x = get_or-map (λ r. r.components) t x no_row

pub read_component_detectors : (t : List Row) (x : ℕ) → get_or (component_detectors t) x 0 ≡ (get_or t x no_row).component_detectors
read_component_detectors t x = get_or-map (λ r. r.component_detectors) t x no_row

pub read_component_observables : (t : List Row) (x : ℕ) → get_or (component_observables t) x 0 ≡ (get_or t x no_row).component_observables
read_component_observables t x = get_or-map (λ r. r.component_observables) t x no_row
