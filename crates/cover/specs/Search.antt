-- The search over the candidates in their tables, and its answer.
use Rattle.std.specs.Prelude.{Option}
use Rattle.std.specs.Prelude.{Some, None}
use Rattle.std.specs.Prelude.{ℕ, zero, suc, ◌+◌, ◌<◌, ◌≤◌, ◌≡◌, List, map, Bool, true, cond, ◌&&◌, length, get_or, take, eqb}
use Rattle.std.proofs.lemmas.List.Edits.{sets}
use Rattle.std.specs.Int.Count.{ones}
use Rattle.lists.specs.Lists.{from, filter}
use Rattle.dem.specs.Model.{Symptom, list_fits}
use Rattle.dem.specs.Tables.{written}
use Rattle.cover.specs.Kept.{detectors_at, Detectors, Observables, Chains}
use Rattle.cover.specs.Masks.{Candidate, mask_of, word_of, candidate_of, candidates_from}

-- the highest number below n that passes, plus one; 0 where none does
unfoldable pub previous : (ℕ → Bool) → ℕ → ℕ
previous p zero = 0
previous p (suc n) = cond (p n) (suc n) (previous p n)

-- that number itself
unfoldable pub highest : (ℕ → Bool) → ℕ → Option ℕ
highest p zero = None
highest p (suc n) = cond (p n) (Some n) (highest p n)

-- a number that there may be, plus one; 0 where there is none
abbrev pub past : Option ℕ → ℕ
past None = 0
past (Some n) = n + 1

-- candidates i and j have equal masks and words
unfoldable pub equal_at : List ℕ → List ℕ → List ℕ → ℕ → ℕ → Bool
equal_at ms os ps i j = eqb (get_or ms i 0) (get_or ms j 0) && (eqb (get_or os i 0) (get_or os j 0) && eqb (get_or ps i 0) (get_or ps j 0))

abbrev pub candidate_at : List ℕ → List ℕ → List ℕ → List ℕ → ℕ → Candidate
candidate_at ns ms os ps i = record { number = get_or ns i 0; mask = get_or ms i 0; word0 = get_or os i 0; word1 = get_or ps i 0 }

-- the n candidates from `at` on
unfoldable pub candidates_at : List ℕ → List ℕ → List ℕ → List ℕ → ℕ → ℕ → List Candidate
unfolding from
candidates_at ns ms os ps n at = map (candidate_at ns ms os ps) (from n at)

-- and those of them with no earlier equal
unfoldable pub fresh_at : List ℕ → List ℕ → List ℕ → List ℕ → List ℕ → ℕ → ℕ → List Candidate
unfolding filter from
fresh_at ns ms os ps es n at = map (candidate_at ns ms os ps) (filter (λ i. eqb (get_or es i 0) 0) (from n at))

-- five tables of the same length, and room for the members
pub record Room (ns ms os ps es : List ℕ) (m : ℕ) (chosen : List ℕ) (depth : ℕ) : Type 0 where
  pub numbered : length ns ≡ length ms
  pub worded0 : length os ≡ length ms
  pub worded1 : length ps ≡ length ms
  pub marked : length es ≡ length ms
  pub shallow : depth + ones m ≤ 16
  pub room : 16 ≤ length chosen

-- the answer of a search that writes from place d on, and every entry of the list that it leaves
abbrev pub Outcome : Option (List ℕ) → ℕ → List ℕ → Option ℕ → List ℕ → Type 0
Outcome None d l r after = (r ≡ None) × (after ≡ l)
Outcome (Some cs) d l r after = (r ≡ Some (d + length cs)) × (after ≡ sets l d cs)

-- the members of the cover at the front of the list and nothing else of it touched, or the list untouched
abbrev pub Answered : Option (List ℕ) → List ℕ → Option ℕ → List ℕ → Type 0
Answered None l r after = (r ≡ None) × (after ≡ l)
Answered (Some cs) l r after = (r ≡ Some (length cs)) × (after ≡ written cs l)

-- ---- the candidates in ascending order

-- the place of the lowest of the first n heads
pub record Least (heads : List ℕ) (n at : ℕ) : Type 0 where
  pub within : at < n
  pub least : (i : ℕ) → i < n → get_or heads at 0 ≤ get_or heads i 0

-- what the merge of the chains of ds is given
pub record Merged (starts counts entries : List ℕ) (n : ℕ) (first next ds numbers masks : List ℕ) : Type 0 where
  pub tables : Detectors starts counts entries n (length first)
  pub chains : Chains (detectors_at starts counts entries) n first next
  pub linked : n ≤ length next
  pub some_detectors : 0 < length ds
  pub checked : list_fits (length first) ds ≡ true
  pub numbers_hold : n ≤ length numbers
  pub masks_hold : n ≤ length masks

-- the candidates among n mechanisms for a cover of ds, by number and mask, at the front of two tables
pub record Gathered (lists : ℕ → List ℕ) (n : ℕ) (ds : List ℕ) (count : ℕ) (numbers masks : List ℕ) : Type 0 where
  pub numbered : take count numbers ≡ candidates_from ds lists n 0
  pub masked : take count masks ≡ map (λ k. mask_of ds (lists k)) (take count numbers)
  pub counted : count ≤ n

-- the observables of the mechanisms with these numbers are in the tables
pub record Numbered (starts counts others entries numbers words0 words1 : List ℕ) : Type 0 where
  pub started : (i : ℕ) → i < length numbers → get_or numbers i 0 < length starts
  pub counted : (i : ℕ) → i < length numbers → get_or numbers i 0 < length counts
  pub observed : (i : ℕ) → i < length numbers → get_or numbers i 0 < length others
  pub listed : (i : ℕ) → i < length numbers → get_or starts (get_or numbers i 0) 0 + get_or counts (get_or numbers i 0) 0 + get_or others (get_or numbers i 0) 0 ≤ length entries
  pub words0_hold : length numbers ≤ length words0
  pub words1_hold : length numbers ≤ length words1

-- the words of the mechanisms with these numbers, at the front of two tables
pub record Worded (lists : ℕ → List ℕ) (numbers words0 words1 : List ℕ) : Type 0 where
  pub low : (i : ℕ) → i < length numbers → get_or words0 i 0 ≡ word_of 0 (lists (get_or numbers i 0))
  pub high : (i : ℕ) → i < length numbers → get_or words1 i 0 ≡ word_of 64 (lists (get_or numbers i 0))

-- what the kept mechanisms, their chains and the scratch tables are given as
pub record Compact (starts counts others entries : List ℕ) (n : ℕ) (first next ds numbers masks words0 words1 earlier : List ℕ) : Type 0 where
  pub merged : Merged starts counts entries n first next ds numbers masks
  pub observables : Observables starts counts others entries n
  pub words0_hold : n ≤ length words0
  pub words1_hold : n ≤ length words1
  pub earlier_hold : n ≤ length earlier

-- the candidates for a cover of ds, at the front of the scratch tables, each with its earlier equal
pub record Compacted (symptoms : ℕ → Symptom) (n : ℕ) (ds : List ℕ) (count : ℕ) (numbers masks words0 words1 earlier : List ℕ) : Type 0 where
  pub counted : count ≤ n
  pub candidates : candidates_at (take count numbers) (take count masks) (take count words0) (take count words1) count 0
      ≡ map (candidate_of ds symptoms) (candidates_from ds (λ k. (symptoms k).detectors) n 0)
  pub repeats : (j : ℕ) → j < count → get_or earlier j 0 ≡ previous (λ i. equal_at (take count masks) (take count words0) (take count words1) i j) j

-- what the cover of a mechanism is given
pub record Given (starts counts others entries : List ℕ) (n : ℕ) (first next ds os numbers masks words0 words1 earlier chosen : List ℕ) : Type 0 where
  pub compact : Compact starts counts others entries n first next ds numbers masks words0 words1 earlier
  pub checked : list_fits 128 os ≡ true
  pub room : 16 ≤ length chosen
