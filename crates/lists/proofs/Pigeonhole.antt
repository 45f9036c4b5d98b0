-- Lists in which no element stands twice, by counting. Assumes nothing.
use Prim.Native.Nat.{ℕ, zero, suc, ◌+◌, ◌<◌, ◌≤◌}
use native.Mathlib.Omega.{arith}
use mathlib.Core.Path.{◌≡◌, refl, sym, ◌∙◌}
use mathlib.Core.List.{List, [], ◌∷◌, ◌++◌}
use mathlib.Core.Bool.{Bool, true, false}
use mathlib.Core.Logic.{⊎_elim}
use lib.Dec.{eqb}
use lib.ListN.{length, get_or, set, replicate, length-set, length-replicate}
use lib.Seq.{get_or-set_other}
use borrow.Author.Tests.{eqb-true, eqb-false}
use Rattle.lists.specs.Lists.{member, falses}
use Rattle.lists.proofs.Truth.{case-of, clash, same_eqb, not_so, or_cases, or_intro}
use Rattle.lists.proofs.Members.{member_append}
use Rattle.lists.proofs.Singles.{Single}
use Rattle.lists.proofs.Counts.{falses_set, falses_replicate, none_true}

pub single_append : (l m : List ℕ) → Single l → Single m → ((a : ℕ) → member a l ≡ true → member a m ≡ false) → Single (l ++ m)
unfolding member
single_append [] m s t h = t
single_append (a ∷ l) m s t h = (
  member_append a l m ∙ rw s.0 (h a (rw (same_eqb a))),
  single_append l m s.1 t (λ b k. h b (or_intro (eqb b a) (member b l) k)),
)

-- ---- no more than there are numbers

falses_many : (l : List ℕ) (t : List Bool) → Single l → ((a : ℕ) → member a l ≡ true → (a < length t) × (get_or t a false ≡ false)) → length l ≤ falses t
unfolding member
falses_many [] t s h = omega arith
falses_many (a ∷ l) t s h =
    let (k, f) = h a (rw (same_eqb a)) in
    let more = falses_many l (set t a true) s.1 (λ b m.
    let (n, u) = h b (or_intro (eqb b a) (member b l) m) in
    (rw length-set n, get_or-set_other t a b true false (λ q. clash m (rw q s.0)) ∙ u)) in
    omega (arith, falses_set t a k f)

pub single_few : (l : List ℕ) (n : ℕ) → Single l → ((a : ℕ) → member a l ≡ true → a < n) → length l ≤ n
single_few l n s h =
    let k = falses_many l (replicate n false) s (λ a m. (rw length-replicate (h a m), none_true n a)) in
    omega (arith, falses_replicate n)

-- ---- a list with each true place of a table, and no longer than these are many

abbrev Covers : List ℕ → List Bool → Type 0
Covers l t = (x : ℕ) → get_or t x false ≡ true → member x l ≡ true

falses_unset : (t : List Bool) (i : ℕ) → falses (set t i false) ≤ suc (falses t)
unfolding falses
falses_unset [] i = omega arith
falses_unset (true ∷ t) zero = omega arith
falses_unset (false ∷ t) zero = omega arith
falses_unset (true ∷ t) (suc i) = falses_unset t i
falses_unset (false ∷ t) (suc i) = let h = falses_unset t i in omega arith

unset : (t : List Bool) (i : ℕ) → get_or (set t i false) i false ≡ false
unset [] i = refl
unset (b ∷ t) zero = refl
unset (b ∷ t) (suc i) = unset t i

covers_rest : (a : ℕ) (l : List ℕ) (t : List Bool) → Covers (a ∷ l) t → Covers l (set t a false)
unfolding member
covers_rest a l t c x k = case-of (eqb x a)
    (λ u. clash k (rw (eqb-true x a u) (unset t a)))
    (λ f. rw f at (c x (sym (get_or-set_other t a x false false (eqb-false x a f)) ∙ k)))

covers_many : (l : List ℕ) (t : List Bool) → Covers l t → length t ≤ length l + falses t
unfolding member falses
covers_many [] [] c = omega arith
covers_many [] (true ∷ t) c = clash (c 0 refl) refl
covers_many [] (false ∷ t) c = let h = covers_many [] t (λ x. c (suc x)) in omega arith
covers_many (a ∷ l) t c = omega (arith, covers_many l (set t a false) (covers_rest a l t c), length-set t a false, falses_unset t a)

pub covers_single : (l : List ℕ) (t : List Bool) → Covers l t → length l + falses t ≤ length t → Single l
unfolding member
covers_single [] t c h = tt
covers_single (a ∷ l) t c h = (
  not_so (member a l) (λ m. absurd (let k = covers_many l t (λ x u. ⊎_elim (λ (e : eqb x a ≡ true). rw (eqb-true x a e) m) (λ (e : member x l ≡ true). e) (or_cases (eqb x a) (member x l) (c x u))) in omega arith)),
  covers_single l (set t a false) (covers_rest a l t c) (omega (arith, length-set t a false, falses_unset t a)),
)
