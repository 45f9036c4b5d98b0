-- "The LAST mechanism with equal lists", by chains of the mechanisms with the same first detector.
use Rattle.std.specs.Prelude.{ℕ, ◌+◌, ◌<◌, ◌≤◌, ◌≡◌, List, true, length, get_or, take, drop}
use Rattle.dem.specs.Model.{Symptom, list_fits}
use Rattle.cover.specs.Kept.{starts_with, detectors_at, Detectors, Observables}
use Rattle.cover.specs.Search.{previous}
use Rattle.last_equal.specs.declared.Span.{Span}

-- the lists of a span of the entries
abbrev pub symptom_in : List ℕ → Span → Symptom
symptom_in es s = record { detectors = take s.detectors (drop s.at es); observables = take s.observables (drop (s.at + s.detectors) es) }

-- of n mechanisms with these detectors: by detector the number past the last that begins with it, by mechanism the one past the last before it
-- that begins as it does; 0 where there is none
pub record Chained (lists : ℕ → List ℕ) (n : ℕ) (last before : List ℕ) : Type 0 where
  pub heads : (d : ℕ) → d < length last → get_or last d 0 ≡ previous (λ k. starts_with d (lists k)) n
  pub links : (k d : ℕ) → k < n → starts_with d (lists k) ≡ true → get_or before k 0 ≡ previous (λ i. starts_with d (lists i)) k

-- what a mechanism is linked into
pub record Linkable (starts counts es : List ℕ) (k : ℕ) (last before : List ℕ) : Type 0 where
  pub detectors : Detectors starts counts es (k + 1) (length last)
  pub chains : Chained (detectors_at starts counts es) k last before
  pub long : k < length before

-- a component of one or two detectors, in entries that a u32 counts
pub record Component (D : ℕ) (s : Span) (es : List ℕ) : Type 0 where
  pub small : s.at < 4294967296
  pub some_detectors : 0 < s.detectors
  pub inside : s.at + s.detectors + s.observables ≤ length es
  pub detectors : list_fits D (symptom_in es s).detectors ≡ true
  pub observables : list_fits 128 (symptom_in es s).observables ≡ true

-- n mechanisms in their tables with their chains, and a component
pub record Findable (s : Span) (n : ℕ) (es starts counts others last before : List ℕ) : Type 0 where
  pub component : Component (length last) s es
  pub detectors : Detectors starts counts es n (length last)
  pub observables : Observables starts counts others es n
  pub chains : Chained (detectors_at starts counts es) n last before
  pub long : n ≤ length before
