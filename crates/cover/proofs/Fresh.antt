-- The candidates with no earlier equal are the distinct ones.
use Prim.Native.Nat.{ℕ, zero, suc, ◌+◌, ◌-◌, ◌<◌}
use native.Mathlib.Omega.{arith}
use mathlib.Core.Path.{◌≡◌, refl, sym, ap, ◌∙◌}
use mathlib.Core.List.{List, ◌∷◌, map}
use mathlib.Core.Bool.{Bool, true, false, not, ◌&&◌, and-false, and-true}
use lib.Dec.{eqb}
use borrow.Author.Tests.{ne_eqb}
use lib.ListN.{get_or}
use Rattle.lists.specs.Lists.{from, filter}
use Rattle.lists.proofs.Ranges.{filter_from}
use Rattle.lists.proofs.Truth.{case-of}
use Rattle.cover.specs.Masks.{Candidate, alike, distinct}
use Rattle.cover.specs.Search.{previous, equal_at, candidate_at, candidates_at, fresh_at}

-- none of the k numbers from a on passes
clear : (ℕ → Bool) → ℕ → ℕ → Bool
clear p zero a = true
clear p (suc k) a = not (p a) && clear p k (suc a)

clear_last : (p : ℕ → Bool) (k a : ℕ) → clear p (suc k) a ≡ (clear p k a && not (p (k + a)))
unfolding clear
clear_last p zero a = let e : zero + a ≡ a = omega arith in rw e (and-true (not (p a)))
clear_last p (suc k) a =
    let e : k + suc a ≡ suc k + a = omega arith in
    ap (λ (b : Bool). not (p a) && b) (clear_last p k (suc a) ∙ ap (λ (i : ℕ). clear p k (suc a) && not (p i)) e)
    ∙ regroup (not (p a)) (clear p k (suc a)) (not (p (suc k + a)))
  where
    regroup : (x y z : Bool) → (x && (y && z)) ≡ ((x && y) && z)
    regroup true y z = refl
    regroup false y z = refl

clear_previous : (p : ℕ → Bool) (k : ℕ) → clear p k 0 ≡ eqb (previous p k) 0
unfolding clear previous
clear_previous p zero = refl
clear_previous p (suc k) =
    let e : k + 0 ≡ k = omega arith in
    clear_last p k 0 ∙ ap (λ (i : ℕ). clear p k 0 && not (p i)) e
    ∙ case-of (p k) (λ t. rw (t, ne_eqb (suc k) 0 (λ z. omega arith)) (and-false (clear p k 0))) (λ f. rw f (and-true (clear p k 0) ∙ clear_previous p k))

module _ (f : ℕ → Candidate) where
  -- one more to be unlike
  step : (n b a : ℕ) → a < b → filter (λ d. not (alike (f a) d)) (map f (filter (λ i. clear (λ j. alike (f j) (f i)) (i - suc a) (suc a)) (from n b)))
      ≡ map f (filter (λ i. clear (λ j. alike (f j) (f i)) (i - a) a) (from n b))
  unfolding filter from clear
  step zero b a h = refl
  step (suc n) b a h =
      let e : b - a ≡ suc (b - suc a) = omega arith in
      let r = step n (suc b) a (omega arith) in
      case-of (clear (λ j. alike (f j) (f b)) (b - suc a) (suc a))
      (λ t. case-of (alike (f a) (f b)) (λ u. rw (e, t, u) r) (λ u. rw (e, t, u) (ap {B = List Candidate} (λ l. f b ∷ l) r)))
      (λ t. case-of (alike (f a) (f b)) (λ u. rw (e, t, u) r) (λ u. rw (e, t, u) r))

  distinct_from : (n a : ℕ) → distinct (map f (from n a)) ≡ map f (filter (λ i. clear (λ j. alike (f j) (f i)) (i - a) a) (from n a))
  unfolding distinct filter from clear
  distinct_from zero a = refl
  distinct_from (suc n) a =
      let e : a - a ≡ zero = omega arith in
      rw e (ap {B = List Candidate} (λ l. f a ∷ l) (ap (filter (λ d. not (alike (f a) d))) (distinct_from n (suc a)) ∙ step n (suc a) a (omega arith)))

pub fresh_distinct : (ns ms os ps es : List ℕ) (n : ℕ) → ((j : ℕ) → j < n → get_or es j 0 ≡ previous (λ i. equal_at ms os ps i j) j)
    → fresh_at ns ms os ps es n 0 ≡ distinct (candidates_at ns ms os ps n 0)
unfolding fresh_at candidates_at equal_at alike
fresh_distinct ns ms os ps es n h =
    ap (map (candidate_at ns ms os ps))
    (filter_from (λ i. eqb (get_or es i 0) 0) (λ i. clear (λ j. alike (candidate_at ns ms os ps j) (candidate_at ns ms os ps i)) (i - 0) 0) n 0
    (λ i low k. let e : i - 0 ≡ i = omega arith in
    ap (λ (x : ℕ). eqb x 0) (h i (omega arith)) ∙ sym (clear_previous (λ j. equal_at ms os ps j i) i) ∙ ap (λ (x : ℕ). clear (λ j. equal_at ms os ps j i) x 0) (sym e)))
    ∙ sym (distinct_from (candidate_at ns ms os ps) n 0)
