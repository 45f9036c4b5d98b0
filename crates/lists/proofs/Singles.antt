-- Lists in which no element stands twice.
use Prim.Native.Nat.{ℕ, zero, suc, ◌<◌}
use native.Mathlib.Nat.{not-suc-le-zero, le_of_suc-le-suc}
use native.Mathlib.Omega.{arith}
use mathlib.Core.Path.{◌≡◌, ◌∙◌}
use mathlib.Core.List.{List, [], ◌∷◌}
use mathlib.Core.Bool.{Bool, false, not, and-false}
use lib.Dec.{eqb}
use lib.ListN.{length, get_or}
use Rattle.lists.specs.Lists.{from, below, filter, member, firsts}
use Rattle.lists.proofs.Truth.{case-of, clash, same_eqb, not_so}
use Rattle.lists.proofs.Members.{member_filter, member_from, at_member}

abbrev pub Single : List ℕ → Type 0
Single [] = Unit {0}
Single (a ∷ l) = (member a l ≡ false) × Single l

pub single_filter : (p : ℕ → Bool) (l : List ℕ) → Single l → Single (filter p l)
unfolding filter
single_filter p [] t = tt
single_filter p (a ∷ l) t = case-of (p a)
    (λ u. rw u (member_filter p a l ∙ rw t.0 (and-false (p a)), single_filter p l t.1))
    (λ f. rw f (single_filter p l t.1))

pub single_firsts : (l : List ℕ) → Single (firsts l)
unfolding firsts
single_firsts [] = tt
single_firsts (a ∷ l) = (member_filter (λ b. not (eqb b a)) a (firsts l) ∙ rw (same_eqb a), single_filter (λ b. not (eqb b a)) (firsts l) (single_firsts l))

single_from : (n a : ℕ) → Single (from n a)
unfolding from
single_from zero a = tt
single_from (suc n) a = (not_so (member a (from n (suc a))) (λ m. absurd (let k = member_from a n (suc a) m in omega arith)), single_from n (suc a))

pub single_below : (n : ℕ) → Single (below n)
unfolding below
single_below n = single_from n 0

-- two places hold two elements
pub single_places : (l : List ℕ) → Single l → (i j : ℕ) → i < j → j < length l → get_or l i 0 ≡ get_or l j 0 → ⊥
single_places [] t i j h k q = not-suc-le-zero k
single_places (a ∷ l) t i zero h k q = not-suc-le-zero h
single_places (a ∷ l) t zero (suc j) h k q = clash (rw q (at_member l j (le_of_suc-le-suc k))) t.0
single_places (a ∷ l) t (suc i) (suc j) h k q = single_places l t.1 i j (le_of_suc-le-suc h) (le_of_suc-le-suc k) q
