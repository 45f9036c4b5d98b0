-- Detectors as the bits of a mask, observables as the bits of two words, and the first cover by them.
use Rattle.std.specs.Prelude.{Option, Some, None}
use Rattle.std.specs.Prelude.{ℕ, suc, ◌+◌, ◌*◌, ◌≤◌, List, [], ◌∷◌, Bool, cond, not, ◌&&◌, eqb, position}
use Rattle.std.specs.Int.Bits.{bit_and, bit_xor}
use Rattle.lists.specs.Lists.{from, filter, member}
use Rattle.dem.specs.Model.{Symptom}
use Rattle.dem.specs.Cover.{one, is_empty, within, choose, closes}

-- bit j is set where the j-th of ds is in l
unfoldable pub mask_of : List ℕ → List ℕ → ℕ
unfolding member
mask_of [] l = 0
mask_of (d ∷ ds) l = mask_of ds l * 2 + one (member d l)

-- bit j is set where the observable f + j is in l
unfoldable pub word_of : ℕ → List ℕ → ℕ
word_of f l = mask_of (from 64 f) l

-- a kept mechanism that a cover of the detectors ds may choose
pub record Candidate : Type 0 where
  pub number : ℕ
  pub mask : ℕ
  pub word0 : ℕ
  pub word1 : ℕ

unfoldable pub candidate_of : List ℕ → (ℕ → Symptom) → ℕ → Candidate
candidate_of ds symptoms k = record {
  number = k;
  mask = mask_of ds (symptoms k).detectors;
  word0 = word_of 0 (symptoms k).observables;
  word1 = word_of 64 (symptoms k).observables;
}

-- a mechanism with the detectors l may be chosen
unfoldable pub is_candidate : List ℕ → List ℕ → Bool
unfolding within
is_candidate ds l = not (is_empty l) && within ds l

-- the candidates among the n mechanisms from `at` on, by number
unfoldable pub candidates_from : List ℕ → (ℕ → List ℕ) → ℕ → ℕ → List ℕ
unfolding filter is_candidate from
candidates_from ds lists n at = filter (λ k. is_candidate ds (lists k)) (from n at)

-- the mask of a list, where each entry is in ds
unfoldable pub mask_within : List ℕ → List ℕ → Option ℕ
unfolding within mask_of
mask_within ds l = cond (within ds l) (Some (mask_of ds l)) None

-- strictly ascending from low on
abbrev pub Rises : ℕ → List ℕ → Type 0
Rises low [] = Unit {0}
Rises low (x ∷ xs) = (low ≤ x) × Rises (suc x) xs

-- where x stands in the list
abbrev pub place_of : ℕ → List ℕ → Option ℕ
place_of x ds = position (λ y. eqb y x) ds

-- c is not empty and lies within m
unfoldable pub fits : ℕ → ℕ → Bool
fits m c = not (eqb c 0) && eqb (bit_and m c) c

-- of these candidates, the first cover of the mask and the two words left
unfoldable pub cover_of : List Candidate → ℕ → ℕ → ℕ → Option (List ℕ)
unfolding fits
cover_of [] m o p = closes (eqb m 0 && (eqb o 0 && eqb p 0))
cover_of (c ∷ cs) m o p =
    let with_it = cover_of cs (bit_xor m c.mask) (bit_xor o c.word0) (bit_xor p c.word1) in
    let without-it = cover_of cs m o p in
    choose (fits m c.mask) c.number with_it without-it

-- equal masks and words
unfoldable pub alike : Candidate → Candidate → Bool
alike c d = eqb c.mask d.mask && (eqb c.word0 d.word0 && eqb c.word1 d.word1)

-- each candidate that is like no earlier one
unfoldable pub distinct : List Candidate → List Candidate
unfolding filter alike
distinct [] = []
distinct (c ∷ cs) = c ∷ filter (λ d. not (alike c d)) (distinct cs)
