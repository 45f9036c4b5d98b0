-- The model, the mechanisms so far and the candidates as structs of slices, in the words of Ready.
use Rattle.std.specs.Prelude.{Option, Result, ℕ, ◌≡◌, List}
use Rattle.codes.specs.declared.Refusal.{Refusal}
use Rattle.dem.specs.declared.Mechanism.{Mechanism}
use Rattle.dem.specs.declared.Place.{Place}
use Rattle.dem.specs.declared.Model.{Model}
use Rattle.dem.specs.Model.{Symptom, ErrorMechanism}
use Rattle.dem.specs.Tables.{Tables}
use Rattle.dem.specs.Positions.{mechanism_at}
use Rattle.dem.specs.Cover.{first_cover}
use Rattle.dem.specs.Decompose.{Split}
use Rattle.cover.specs.declared.Index.{Index}
use Rattle.cover.specs.declared.CandidateTables.{CandidateTables}
use Rattle.cover.specs.Kept.{kept_in}
use Rattle.last_equal.specs.declared.Span.{Span}
use Rattle.last_equal.specs.Last.{symptom_in}
use Rattle.suggested.specs.declared.Size.{Size}
use Rattle.suggested.specs.declared.Mechanisms.{Mechanisms}
use Rattle.splits.specs.Ready.{Kept, Large, Ready, Splitting, After}

-- the mechanism of a model with head h at p
abbrev pub mechanism_of : Mechanism → Place → Model → ErrorMechanism
mechanism_of h p m = mechanism_at h p m.component_detectors.now m.component_observables.now m.entries.now

abbrev pub LargeBy : ℕ → Mechanism → Place → Model → Type 0
LargeBy d h p m = Large d h p m.component_detectors.now m.component_observables.now m.entries.now

-- the kept mechanisms are the first of those so far
abbrev pub KeptBy : Index → List ℕ → Mechanisms → CandidateTables → Type 0
KeptBy x es t c =
    Kept x.kept t.starts.now t.detector_counts.now t.observable_counts.now es x.first_of.now x.next_of.now
    c.numbers.now c.masks.now c.words0.now c.words1.now c.earlier.now t.probability.now

-- the first cover by them of the lists of a span
abbrev pub cover_by : Index → Span → List ℕ → Mechanisms → Option (List ℕ)
cover_by x s es t = first_cover (kept_in t.starts.now t.detector_counts.now t.observable_counts.now es x.kept) (symptom_in es s)

-- all but the probabilities are as they were
abbrev pub SameLists : Mechanisms → Mechanisms → Type 0
SameLists t t' =
    (t'.starts.now ≡ t.starts.now) × (t'.detector_counts.now ≡ t.detector_counts.now) × (t'.observable_counts.now ≡ t.observable_counts.now)
    × (t'.last_of.now ≡ t.last_of.now) × (t'.before.now ≡ t.before.now)

abbrev pub ReadyBy : List Symptom → Index → CandidateTables → Type 0
ReadyBy ks x c = Ready ks x.kept x.first_of.now x.next_of.now c.numbers.now c.masks.now c.words0.now c.words1.now c.earlier.now

abbrev pub SplittingBy : Index → Size → Size → List ℕ → Mechanisms → CandidateTables → Type 0
SplittingBy x size room es t c =
    Splitting x.kept size room es x.first_of.now x.next_of.now
    t.starts.now t.detector_counts.now t.observable_counts.now t.probability.now t.last_of.now t.before.now
    c.numbers.now c.masks.now c.words0.now c.words1.now c.earlier.now

abbrev pub AfterBy : Split → Tables → Result Size Refusal → List ℕ → Mechanisms → Type 0
AfterBy x was r es t = After x was r es t.starts.now t.detector_counts.now t.observable_counts.now t.probability.now t.last_of.now t.before.now
