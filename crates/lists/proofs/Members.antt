-- Membership in the lists that the steps make.
use Prim.Native.Nat.{ℕ, zero, suc, ◌+◌, ◌≤◌, ◌<◌}
use native.Mathlib.Nat.{not-suc-le-zero, le_of_suc-le-suc}
use native.Mathlib.Omega.{arith}
use mathlib.Core.Path.{◌≡◌, refl, sym, ap, ◌∙◌}
use mathlib.Core.List.{List, [], ◌∷◌, ◌++◌, map}
use mathlib.Core.Bool.{Bool, true, false, not, ◌&&◌, ◌||◌, and-false, or_assoc}
use mathlib.Core.Logic.{⊎_elim}
use lib.Dec.{eqb}
use lib.ListN.{length, get_or}
use borrow.Author.Tests.{eqb-true, eqb-false, eq-eqb}
use Rattle.lists.specs.Lists.{from, below, filter, any, member, firsts}
use Rattle.lists.proofs.Truth.{case-of, clash, or_cases, or_left, or_right, or_intro, same_eqb}

-- ---- member

pub member_filter : (p : ℕ → Bool) (a : ℕ) (l : List ℕ) → member a (filter p l) ≡ (p a && member a l)
unfolding member filter
member_filter p a [] = sym (and-false (p a))
member_filter p a (b ∷ l) = case-of (p b)
    (λ t. case-of (eqb a b) (λ u. let k = ap p (eqb-true a b u) ∙ t in rw (t, u, k)) (λ u. rw (t, u, member_filter p a l)))
    (λ f. case-of (eqb a b) (λ u. let k = ap p (eqb-true a b u) ∙ f in rw (f, u, member_filter p a l, k)) (λ u. rw (f, u, member_filter p a l)))

pub member_firsts : (a : ℕ) (l : List ℕ) → member a (firsts l) ≡ member a l
unfolding member firsts
member_firsts a [] = refl
member_firsts a (b ∷ l) = rw (member_filter (λ c. not (eqb c b)) a (firsts l), member_firsts a l) (absorb (eqb a b) (member a l))
  where
    absorb : (p q : Bool) → (p || (not p && q)) ≡ (p || q)
    absorb true q = refl
    absorb false q = refl

pub member_map : (f : ℕ → ℕ) (a : ℕ) (l : List ℕ) → member a l ≡ true → member (f a) (map f l) ≡ true
unfolding member
member_map f a [] h = h
member_map f a (b ∷ l) h = ⊎_elim
    (λ t. rw (eq-eqb (f a) (f b) (ap f (eqb-true a b t))))
    (λ t. or_intro (eqb (f a) (f b)) (member (f a) (map f l)) (member_map f a l t))
    (or_cases (eqb a b) (member a l) h)

pub member_unmap : (f : ℕ → ℕ) (b : ℕ) (l : List ℕ) → member b (map f l) ≡ true → (a : ℕ) × (member a l ≡ true) × (f a ≡ b)
unfolding member
member_unmap f b [] m = clash m refl
member_unmap f b (a ∷ l) m = ⊎_elim
    (λ t. (a, rw (same_eqb a), sym (eqb-true b (f a) t)))
    (λ t. let (c, n, e) = member_unmap f b l t in (c, or_intro (eqb c a) (member c l) n, e))
    (or_cases (eqb b (f a)) (member b (map f l)) m)

pub member_from : (d n a : ℕ) → member d (from n a) ≡ true → (a ≤ d) × (d < n + a)
unfolding member from
member_from d zero a h = clash h refl
member_from d (suc n) a h = ⊎_elim {C = (a ≤ d) × (d < suc n + a)} (λ t. let e = eqb-true d a t in omega arith) (λ t. let k = member_from d n (suc a) t in omega arith) (or_cases (eqb d a) (member d (from n (suc a))) h)

from_member : (d n a : ℕ) → a ≤ d → d < n + a → member d (from n a) ≡ true
unfolding member from
from_member d zero a h k = absurd (omega arith)
from_member d (suc n) a h k = case-of (eqb d a) (λ t. rw t) (λ f. rw f (from_member d n (suc a) (omega (arith, eqb-false d a f)) (omega arith)))

pub member_below : (d n : ℕ) → member d (below n) ≡ true → d < n
unfolding below
member_below d n h = let k = member_from d n 0 h in omega arith

pub below_member : (d n : ℕ) → d < n → member d (below n) ≡ true
unfolding below
below_member d n h = from_member d n 0 (omega arith) (omega arith)

pub member_append : (a : ℕ) (l m : List ℕ) → member a (l ++ m) ≡ (member a l || member a m)
unfolding member
member_append a [] m = refl
member_append a (b ∷ l) m = rw (member_append a l m) (sym (or_assoc (eqb a b) (member a l) (member a m)))

pub at_member : (l : List ℕ) (j : ℕ) → j < length l → member (get_or l j 0) l ≡ true
unfolding member
at_member [] j h = absurd (not-suc-le-zero h)
at_member (a ∷ l) zero h = rw (same_eqb a)
at_member (a ∷ l) (suc j) h = or_intro (eqb (get_or l j 0) a) (member (get_or l j 0) l) (at_member l j (le_of_suc-le-suc h))

-- ---- any

pub any_some : (p : ℕ → Bool) (l : List ℕ) → any p l ≡ true → (a : ℕ) × (member a l ≡ true) × (p a ≡ true)
unfolding any member
any_some p [] h = clash h refl
any_some p (a ∷ l) h = ⊎_elim
    (λ t. (a, rw (same_eqb a), t))
    (λ t. let (b, m, k) = any_some p l t in (b, or_intro (eqb b a) (member b l) m, k))
    (or_cases (p a) (any p l) h)

pub any_none : (p : ℕ → Bool) (l : List ℕ) → any p l ≡ false → (a : ℕ) → member a l ≡ true → p a ≡ false
unfolding any member
any_none p [] h a m = clash m refl
any_none p (b ∷ l) h a m = ⊎_elim
    (λ t. rw (eqb-true a b t) (or_left (p b) (any p l) h))
    (λ t. any_none p l (or_right (p b) (any p l) h) a t)
    (or_cases (eqb a b) (member a l) m)

pub any_at : (p : ℕ → Bool) (l : List ℕ) (a : ℕ) → member a l ≡ true → p a ≡ true → any p l ≡ true
any_at p l a m t = case-of (any p l) (λ h. h) (λ f. clash t (any_none p l f a m))

-- ---- lengths and elements

pub length_from : (n a : ℕ) → length (from n a) ≡ n
unfolding from
length_from zero a = refl
length_from (suc n) a = ap suc (length_from n (suc a))

pub length_below : (n : ℕ) → length (below n) ≡ n
unfolding below
length_below n = length_from n 0

get_d_from : {B : Type 0} (f : ℕ → B) (z : B) (n a i : ℕ) → i < n → get_or (map f (from n a)) i z ≡ f (i + a)
unfolding from
get_d_from f z zero a i h = absurd (not-suc-le-zero h)
get_d_from f z (suc n) a zero h = ap f (omega arith)
get_d_from f z (suc n) a (suc i) h = get_d_from f z n (suc a) i (le_of_suc-le-suc h) ∙ ap f (omega arith)

pub get_d_below : {B : Type 0} (f : ℕ → B) (z : B) (n i : ℕ) → i < n → get_or (map f (below n)) i z ≡ f i
unfolding below
get_d_below f z n i h = get_d_from f z n 0 i h ∙ ap f (omega arith)

pub map_snoc : {A B : Type 0} (f : A → B) (l : List A) (x : A) → map f (l ++ (x ∷ [])) ≡ map f l ++ (f x ∷ [])
map_snoc f [] x = refl
map_snoc {A} {B} f (y ∷ l) x = ap (λ (r : List B). f y ∷ r) (map_snoc f l x)

pub get_d_any : {B : Type 0} (l : List B) (i : ℕ) (y z : B) → i < length l → get_or l i y ≡ get_or l i z
get_d_any [] i y z h = absurd (not-suc-le-zero h)
get_d_any (b ∷ l) zero y z h = refl
get_d_any (b ∷ l) (suc i) y z h = get_d_any l i y z (le_of_suc-le-suc h)

map_same : (l : List ℕ) → map (λ a. a) l ≡ l
map_same [] = refl
map_same (a ∷ l) = ap {B = List ℕ} (λ r. a ∷ r) (map_same l)

pub below_at : (n i z : ℕ) → i < n → get_or (below n) i z ≡ i
below_at n i z h = ap (λ (l : List ℕ). get_or l i z) (sym (map_same (below n))) ∙ get_d_below (λ a. a) z n i h

-- the first element that passes is the lowest
pub first_low : (p : ℕ → Bool) (n a e : ℕ) → p e ≡ true → a ≤ e → e < n + a → get_or (filter p (from n a)) 0 0 ≤ e
unfolding filter from
first_low p zero a e t l h = absurd (omega arith)
first_low p (suc n) a e t l h = case-of (p a) (λ u. rw u l) (λ f. rw f (first_low p n (suc a) e t (above e l f t) (omega arith)))
  where
    above : (e : ℕ) → a ≤ e → p a ≡ false → p e ≡ true → suc a ≤ e
    above e l f t = case-of (eqb e a) (λ u. clash (rw (eqb-true e a u) at t) f) (λ u. omega (arith, eqb-false e a u))
