-- Laws of filters, of one more element, and of stores. Assumes nothing.
use Prim.Native.Nat.{ℕ, zero, suc, ◌+◌, ◌<◌, ◌≤◌, min}
use native.Mathlib.Nat.{add-zero}
use native.Mathlib.Omega.{arith}
use native.Mathlib.Numerals.{add-one}
use mathlib.Core.Path.{◌≡◌, refl, sym, ap₂}
use mathlib.Core.List.{List, [], ◌∷◌, ◌++◌, map, append_assoc}
use mathlib.Core.Bool.{Bool, true, false, cond, ◌||◌, or-false, or_assoc}
use mathlib.Core.Logic.{⊎_elim}
use lib.Dec.{eqb}
use lib.ListN.{length, get_or, set, take}
use mir.Val.{bool_byte}
use Rattle.steps.specs.Growth.{one}
use lib.Seq.{get_or-set_same, get_or-set_other, take-set-le, take-suc, take-suc-set, slice, slice-cons}
use borrow.Author.Tests.{eqb-true, eqb-false}
use Rattle.lists.specs.Lists.{filter, member}
use Rattle.lists.proofs.Truth.{case-of, clash, same_eqb, or_intro, or_cases}

-- ---- filter

pub filter_one : (p : ℕ → Bool) (a : ℕ) → p a ≡ true → filter p (a ∷ []) ≡ a ∷ []
unfolding filter
filter_one p a t = rw t

pub filter_none : (p : ℕ → Bool) (a : ℕ) → p a ≡ false → filter p (a ∷ []) ≡ []
unfolding filter
filter_none p a t = rw t

-- functions that agree on a list map it alike
pub map_cong : (f h : ℕ → ℕ) (l : List ℕ) → ((a : ℕ) → member a l ≡ true → f a ≡ h a) → map f l ≡ map h l
unfolding member
map_cong f h [] q = refl
map_cong f h (a ∷ l) q = ap₂ (λ (b : ℕ) (m : List ℕ). b ∷ m) (q a (rw (same_eqb a))) (map_cong f h l (λ b k. q b (or_intro (eqb b a) (member b l) k)))

-- ---- one more element

pub member_snoc : (a b : ℕ) (l : List ℕ) → member a (l ++ (b ∷ [])) ≡ (member a l || eqb a b)
unfolding member
member_snoc a b [] = or-false (eqb a b)
member_snoc a b (c ∷ l) = rw (member_snoc a b l) (sym (or_assoc (eqb a c) (member a l) (eqb a b)))

pub take_next {ℓ} : {A : Type ℓ} (l : List A) (i : ℕ) (z : A) → i < length l → take (i + 1) l ≡ take i l ++ (get_or l i z ∷ [])
take_next l i z h = rw add-one (take-suc l i z h)

pub put_next {ℓ} : {A : Type ℓ} (l : List A) (i : ℕ) (a : A) → i < length l → take (i + 1) (set l i a) ≡ take i l ++ (a ∷ [])
put_next l i a h = rw add-one (take-suc-set l i a h)

-- what stands at j after v is stored at i, by the test
pub set_bool : (l : List Bool) (i : ℕ) (v : Bool) (j : ℕ) → i < length l → get_or (set l i v) j false ≡ cond (eqb j i) v (get_or l j false)
set_bool l i v j h = case-of (eqb j i)
    (λ t. rw (t, eqb-true j i t) (get_or-set_same l i v false h))
    (λ f. rw f (get_or-set_other l i j v false (eqb-false j i f)))

pub slice_next : (k t : ℕ) (l : List ℕ) → k < t → t ≤ length l → slice k t l ≡ get_or l k 0 ∷ slice (k + 1) t l
slice_next k t l h r = rw add-one (slice-cons k t l 0 h r)

-- what holds of each index holds of each member
pub member_take : (P : ℕ → Type 0) (l : List ℕ) (n : ℕ) → ((i : ℕ) → i < n → P (get_or l i 0)) → (a : ℕ) → member a (take n l) ≡ true → P a
unfolding member
member_take P l zero h a m = clash m refl
member_take P [] (suc n) h a m = clash m refl
member_take P (b ∷ l) (suc n) h a m = ⊎_elim
    (λ t. rw (eqb-true a b t) (h 0 (omega arith)))
    (λ t. member_take P l n (λ i k. h (suc i) (omega arith)) a t)
    (or_cases (eqb a b) (member a (take n l)) m)

-- ---- an entry written before it is known whether it is kept

pub byte_one : (b : Bool) → bool_byte b ≡ one b
byte_one true = refl
byte_one false = refl

-- at most 1, whatever the test is
pub byte_low : (b : Bool) → bool_byte b ≡ min (one b) 1
byte_low true = refl
byte_low false = refl

-- v is written past what is listed; h makes what is written of what is listed
pub listed : (h : List ℕ → List ℕ) (e v : ℕ) (rest : List ℕ) → h (e ∷ rest) ≡ v ∷ h rest → (out : List ℕ) (at : ℕ) → at < length out → (b : Bool)
    → take (at + bool_byte b) (set out at v) ++ h rest ≡ take at out ++ h (cond b (e ∷ rest) rest)
listed h e v rest q out at k true = rw (put_next out at v k, q) (append_assoc (take at out) (v ∷ []) (h rest))
listed h e v rest q out at k false = rw (add-zero at, take-set-le at out at v (omega arith))
