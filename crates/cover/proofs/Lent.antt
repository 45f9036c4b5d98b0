-- The same slices after one call and the next, and what goes by them.
use Prim.Native.Nat.{ℕ, ◌<◌}
use native.Mathlib.Omega.{arith}
use mathlib.Core.Path.{◌≡◌, ◌∙◌, refl}
use lib.ListN.{take}
use lib.Seq.{get_or-take}
use Rattle.cover.specs.declared.CandidateTables.{CandidateTables}
use Rattle.cover.specs.Search.{previous, equal_at}
use Rattle.cover.specs.Lent.{equal_in, SameWords, SameCandidates}
use Rattle.cover.proofs.Turn.{previous_cong}

pub same_none : (c : CandidateTables) → SameCandidates c c
same_none c = record { numbers = refl; masks = refl; words0 = refl; words1 = refl; earlier = refl; numbers_long = refl; masks_long = refl; words0_long = refl; words1_long = refl; earlier_long = refl }

pub same_then : {c c' c'' : CandidateTables} → SameCandidates c c' → SameCandidates c' c'' → SameCandidates c c''
same_then a b = record {
  numbers = b.numbers ∙ a.numbers;
  masks = b.masks ∙ a.masks;
  words0 = b.words0 ∙ a.words0;
  words1 = b.words1 ∙ a.words1;
  earlier = b.earlier ∙ a.earlier;
  numbers_long = b.numbers_long ∙ a.numbers_long;
  masks_long = b.masks_long ∙ a.masks_long;
  words0_long = b.words0_long ∙ a.words0_long;
  words1_long = b.words1_long ∙ a.words1_long;
  earlier_long = b.earlier_long ∙ a.earlier_long;
}

-- earlier equals go by the masks and the words
pub same_earlier : (c c' : CandidateTables) → SameWords c c' → (j : ℕ) → previous (λ i. equal_in c' i j) j ≡ previous (λ i. equal_in c i j) j
same_earlier c c' s j = rw (s.1, s.2, s.3)

-- and so those of the first n
pub first_earlier : (n j : ℕ) (c : CandidateTables) → j < n
    → previous (λ i. equal_in c i j) j ≡ previous (λ i. equal_at (take n c.masks.now) (take n c.words0.now) (take n c.words1.now) i j) j
unfolding equal_at
first_earlier n j c h = previous_cong (λ i. equal_in c i j) (λ i. equal_at (take n c.masks.now) (take n c.words0.now) (take n c.words1.now) i j) j
    (λ i l. let k : i < n = omega arith in
    rw (get_or-take n c.masks.now i 0 k, get_or-take n c.masks.now j 0 h, get_or-take n c.words0.now i 0 k, get_or-take n c.words0.now j 0 h, get_or-take n c.words1.now i 0 k, get_or-take n c.words1.now j 0 h))
