-- What holds of the first cover, of all lists whether or not they pass the model check, and of the chains. Statements only: proofs/Laws.antt proves them.
use Rattle.std.specs.Prelude.{ℕ, ◌<◌, ◌≡◌, Bool, List, length, get_or, Option}
use Rattle.lists.specs.Lists.{below, filter}
use Rattle.dem.specs.Model.{Symptom}
use Rattle.dem.specs.Cover.{first_cover, IsFirst}
use Rattle.cover.specs.Kept.{starts_with, Chains, Follows}
use Rattle.cover.specs.Masks.{Candidate, cover_of, distinct}
use Rattle.cover.specs.Search.{previous, highest, past}

pub record Laws : Type 0 where
  -- what it returns is a cover, and none is earlier; none exists where it returns none
  pub first_cover_is : (kept : List Symptom) (s : Symptom) → IsFirst kept s (first_cover kept s)
  -- and nothing else is that
  pub only_first : (kept : List Symptom) (s : Symptom) (x : Option (List ℕ)) → IsFirst kept s x → x ≡ first_cover kept s
  -- a candidate that equals an earlier one in mask and words is never chosen: without them the same cover is found, whatever is left to cover
  pub repeats : (cs : List Candidate) (mask word0 word1 : ℕ) → cover_of cs mask word0 word1 ≡ cover_of (distinct cs) mask word0 word1
  -- the chain of a detector is the list of the mechanisms whose first detector it is
  pub chain : (lists : ℕ → List ℕ) (n : ℕ) (first next : List ℕ) → Chains lists n first next → (d : ℕ) → d < length first
      → Follows next (get_or first d 0) (filter (λ k. starts_with d (lists k)) (below n))
  -- tables hold the highest number that passes as one more, and 0 where there is none
  pub held_past : (p : ℕ → Bool) (n : ℕ) → previous p n ≡ past (highest p n)
