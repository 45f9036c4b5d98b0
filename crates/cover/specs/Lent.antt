-- The structs of slices, in the words of Kept and Search; tables lent for writing are the same ones after a call as before it.
use Rattle.std.specs.Prelude.{ℕ, ◌+◌, ◌<◌, ◌≤◌, ◌≡◌, List, Bool, length, get_or, take}
use Rattle.std.specs.Int.Count.{ones}
use Rattle.dem.specs.Model.{Symptom}
use Rattle.cover.specs.declared.Lists.{Lists}
use Rattle.cover.specs.declared.Index.{Index}
use Rattle.cover.specs.declared.Candidates.{Candidates}
use Rattle.cover.specs.declared.CandidateTables.{CandidateTables}
use Rattle.cover.specs.Kept.{detectors_at, observables_at, symptom_at, kept_in, Detectors}
use Rattle.cover.specs.Masks.{Candidate}
use Rattle.cover.specs.Search.{equal_at, fresh_at, Room, Merged, Numbered, Worded, Compact, Compacted, Given}

-- ---- mechanism k of lists

abbrev pub detectors_of : Lists → ℕ → List ℕ
detectors_of l = detectors_at l.starts.now l.detector_counts.now l.entries.now

abbrev pub observables_of : Lists → ℕ → List ℕ
observables_of l = observables_at l.starts.now l.detector_counts.now l.observable_counts.now l.entries.now

abbrev pub symptom_of : Lists → ℕ → Symptom
symptom_of l = symptom_at l.starts.now l.detector_counts.now l.observable_counts.now l.entries.now

-- its detectors are in the tables
abbrev pub HasDetectors : Lists → ℕ → Type 0
HasDetectors l k = (k < length l.starts.now) × (k < length l.detector_counts.now) × (get_or l.starts.now k 0 + get_or l.detector_counts.now k 0 ≤ length l.entries.now)

-- both its lists are
abbrev pub HasLists : Lists → ℕ → Type 0
HasLists l k =
    (k < length l.starts.now) × (k < length l.detector_counts.now) × (k < length l.observable_counts.now)
    × (get_or l.starts.now k 0 + get_or l.detector_counts.now k 0 + get_or l.observable_counts.now k 0 ≤ length l.entries.now)

-- ---- n mechanisms of lists

abbrev pub kept_of : Lists → ℕ → List Symptom
kept_of l = kept_in l.starts.now l.detector_counts.now l.observable_counts.now l.entries.now

abbrev pub DetectorsBy : Lists → ℕ → ℕ → Type 0
DetectorsBy l = Detectors l.starts.now l.detector_counts.now l.entries.now

-- ---- the search

abbrev pub fresh_of : Candidates → ℕ → ℕ → List Candidate
fresh_of c = fresh_at c.numbers.now c.masks.now c.words0.now c.words1.now c.earlier.now

abbrev pub RoomBy : Candidates → ℕ → List ℕ → ℕ → Type 0
RoomBy c = Room c.numbers.now c.masks.now c.words0.now c.words1.now c.earlier.now

abbrev pub MergedBy : Lists → Index → List ℕ → List ℕ → List ℕ → Type 0
MergedBy l x = Merged l.starts.now l.detector_counts.now l.entries.now x.kept x.first_of.now x.next_of.now

-- the first n candidates of the tables
abbrev pub NumberedBy : Lists → ℕ → CandidateTables → Type 0
NumberedBy l n c =
    (n ≤ length c.numbers.now) × Numbered l.starts.now l.detector_counts.now l.observable_counts.now l.entries.now (take n c.numbers.now) c.words0.now c.words1.now

abbrev pub WordedBy : (ℕ → List ℕ) → ℕ → CandidateTables → Type 0
WordedBy lists n c = Worded lists (take n c.numbers.now) c.words0.now c.words1.now

-- candidate j is in the tables
abbrev pub HasWords : CandidateTables → ℕ → Type 0
HasWords c j = (j < length c.masks.now) × (j < length c.words0.now) × (j < length c.words1.now)

abbrev pub equal_in : CandidateTables → ℕ → ℕ → Bool
equal_in c = equal_at c.masks.now c.words0.now c.words1.now

abbrev pub fresh_in : ℕ → CandidateTables → List Candidate
fresh_in n c = fresh_at (take n c.numbers.now) (take n c.masks.now) (take n c.words0.now) (take n c.words1.now) (take n c.earlier.now) n 0

abbrev pub RoomIn : ℕ → CandidateTables → ℕ → List ℕ → Type 0
RoomIn n c m chosen =
    (n ≤ length c.numbers.now) × (n ≤ length c.masks.now) × (n ≤ length c.words0.now) × (n ≤ length c.words1.now) × (n ≤ length c.earlier.now)
    × (ones m ≤ 16) × (16 ≤ length chosen)

abbrev pub CompactBy : Lists → Index → List ℕ → CandidateTables → Type 0
CompactBy l x ds c =
    Compact l.starts.now l.detector_counts.now l.observable_counts.now l.entries.now x.kept x.first_of.now x.next_of.now ds
    c.numbers.now c.masks.now c.words0.now c.words1.now c.earlier.now

abbrev pub CompactedBy : (ℕ → Symptom) → ℕ → List ℕ → ℕ → CandidateTables → Type 0
CompactedBy symptoms n ds count c = Compacted symptoms n ds count c.numbers.now c.masks.now c.words0.now c.words1.now c.earlier.now

abbrev pub GivenBy : Lists → Index → List ℕ → List ℕ → CandidateTables → List ℕ → Type 0
GivenBy l x ds os c =
    Given l.starts.now l.detector_counts.now l.observable_counts.now l.entries.now x.kept x.first_of.now x.next_of.now ds os
    c.numbers.now c.masks.now c.words0.now c.words1.now c.earlier.now

-- ---- the tables

-- all but the earlier equals are as they were
abbrev pub SameWords : CandidateTables → CandidateTables → Type 0
SameWords c c' = (c'.numbers.now ≡ c.numbers.now) × (c'.masks.now ≡ c.masks.now) × (c'.words0.now ≡ c.words0.now) × (c'.words1.now ≡ c.words1.now)

-- each slice is the one that was lent, and as long
pub record SameCandidates (c c' : CandidateTables) : Type 0 where
  pub numbers : c'.numbers.ghost_name ≡ c.numbers.ghost_name
  pub masks : c'.masks.ghost_name ≡ c.masks.ghost_name
  pub words0 : c'.words0.ghost_name ≡ c.words0.ghost_name
  pub words1 : c'.words1.ghost_name ≡ c.words1.ghost_name
  pub earlier : c'.earlier.ghost_name ≡ c.earlier.ghost_name
  pub numbers_long : length c'.numbers.now ≡ length c.numbers.now
  pub masks_long : length c'.masks.now ≡ length c.masks.now
  pub words0_long : length c'.words0.now ≡ length c.words0.now
  pub words1_long : length c'.words1.now ≡ length c.words1.now
  pub earlier_long : length c'.earlier.now ≡ length c.earlier.now
