-- A mechanism of over two detectors, the kept mechanisms that a cover may choose, and the model so far.
use Rattle.std.specs.Prelude.{Option, None, Some, ⊤, Result, Ok, Err, ℕ, ◌+◌, ◌<◌, ◌≤◌, ◌≡◌, List, [], ◌∷◌, Bool, true, false, not, ◌&&◌, length, get_or, leb, Float}
use Rattle.codes.specs.declared.Refusal.{Refusal}
use Rattle.lists.specs.Lists.{any}
use Rattle.dem.specs.declared.Mechanism.{Mechanism}
use Rattle.dem.specs.declared.Place.{Place}
use Rattle.dem.specs.Model.{Symptom, ErrorMechanism, list_fits, lists_fit}
use Rattle.dem.specs.Tables.{Tables}
use Rattle.dem.specs.Positions.{mechanism_at, place_past, Inside}
use Rattle.dem.specs.Cover.{none_such}
use Rattle.dem.specs.Decompose.{Split, into, refused}
use Rattle.cover.specs.Kept.{detectors_at, Detectors, Observables, Chains}
use Rattle.suggested.specs.declared.Size.{Size}
use Rattle.last_equal.specs.declared.Span.{Span}
use Rattle.probability.specs.Probability.{raised_all}
use Rattle.last_equal.specs.Last.{symptom_in}
use Rattle.suggested.specs.Held.{size_of, Holds, Roomy}

-- "Components present, each of one or two detectors", by the counts of their detectors
unfoldable pub counts_suggest : List ℕ → Bool
unfolding any
counts_suggest [] = false
counts_suggest (d ∷ ds) = not (any (λ n. not (leb 1 n && leb n 2)) (d ∷ ds))

-- a checked mechanism with some detectors, in entries that a u32 counts
pub record Coverable (D : ℕ) (s : Span) (es : List ℕ) : Type 0 where
  pub some_detectors : 0 < s.detectors
  pub small : s.at < 4294967296
  pub inside : s.at + s.detectors + s.observables ≤ length es
  pub detectors : list_fits D (symptom_in es s).detectors ≡ true
  pub observables : list_fits 128 (symptom_in es s).observables ≡ true

-- n kept mechanisms in their tables with their chains, and the scratch tables
pub record Kept (n : ℕ) (starts counts others es first next numbers masks words0 words1 earlier : List ℕ) (ps : List Float) : Type 0 where
  pub detectors : Detectors starts counts es n (length first)
  pub observables : Observables starts counts others es n
  pub chains : Chains (detectors_at starts counts es) n first next
  pub linked : n ≤ length next
  pub numbers_hold : n ≤ length numbers
  pub masks_hold : n ≤ length masks
  pub words0_hold : n ≤ length words0
  pub words1_hold : n ≤ length words1
  pub earlier_hold : n ≤ length earlier
  pub probable : n ≤ length ps

-- p is added to each member of the cover, or nothing is touched
abbrev pub Covered : Option (List ℕ) → Float → List Float → Option ⊤ → List Float → Type 0
Covered None p ps r after = (r ≡ None) × (after ≡ ps)
Covered (Some cs) p ps r after = (r ≡ Some tt) × (after ≡ raised_all p cs ps)

-- ---- a mechanism

-- a checked mechanism, inside the tables
pub record Large (D : ℕ) (h : Mechanism) (p : Place) (cds cos es : List ℕ) : Type 0 where
  pub over_two : 2 < h.detectors
  pub inside : Inside h p cds cos es
  pub small : (place_past h p cds cos).entry < 4294967296
  pub checked : lists_fit D 128 (mechanism_at h p cds cos es) ≡ true

-- the kept mechanisms ks: their chains, and the scratch tables
pub record Ready (ks : List Symptom) (n : ℕ) (first next numbers masks words0 words1 earlier : List ℕ) : Type 0 where
  pub counted : length ks ≡ n
  pub chains : Chains (λ k. (get_or ks k none_such).detectors) n first next
  pub linked : n ≤ length next
  pub numbers_hold : n ≤ length numbers
  pub masks_hold : n ≤ length masks
  pub words0_hold : n ≤ length words0
  pub words1_hold : n ≤ length words1
  pub earlier_hold : n ≤ length earlier

-- the first mechanisms of the model have the lists ks
pub record Front (ks : List Symptom) (ms : List ErrorMechanism) : Type 0 where
  pub few : length ks ≤ length ms
  pub same : (k : ℕ) (z : ErrorMechanism) → k < length ks → get_or ks k none_such ≡ (get_or ms k z).symptom

-- what a mechanism is split over
pub record Splitting (n : ℕ) (size room : Size) (es first next starts counts others : List ℕ) (ps : List Float) (last before numbers masks words0 words1 earlier : List ℕ) : Type 0 where
  pub ms : List ErrorMechanism
  pub was : Tables
  pub ks : List Symptom
  pub holds : Holds ms was size es starts counts others ps last before
  pub ready : Ready ks n first next numbers masks words0 words1 earlier
  pub front : Front ks ms
  pub wide : length first ≡ length last
  pub roomy : Roomy 16 size room starts counts others ps before

-- what splitting comes to: the model and its tables, or a refusal
abbrev pub After : Split → Tables → Result Size Refusal → List ℕ → List ℕ → List ℕ → List ℕ → List Float → List ℕ → List ℕ → Type 0
After (into ms) was r es starts counts others ps last before = (r ≡ Ok (size_of ms)) × Holds ms was (size_of ms) es starts counts others ps last before
After (refused x) was r es starts counts others ps last before = r ≡ Err x
