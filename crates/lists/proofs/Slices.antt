-- An entry, and a stretch, of a list: after a store, one entry more, and entry by entry.
use Prim.Native.Nat.{ℕ, zero, suc, ◌+◌, ◌-◌, ◌≤◌, ◌<◌}
use native.Mathlib.Omega.{arith}
use native.Mathlib.Decide.{ℕ_discrete}
use native.Mathlib.Numerals.{add-one}
use mathlib.Core.Path.{◌≡◌, sym, ap, ◌∙◌}
use mathlib.Core.List.{List, [], ◌∷◌, ◌++◌, map}
use mathlib.Core.Bool.{true}
use mathlib.Core.Logic.{◌⊎◌, inl, inr, ⊎_elim}
use lib.ListN.{length, get_or, set, take, length-set, length-take, length-map, drop_of_length-le, get_or-map}
use lib.Seq.{get_or-set_same, get_or-set_other, get_or-take, get_or-drop, slice, slice-cons, length-slice, take-set-le, take-set-lt, drop-set-lt, sets}
use Rattle.lists.specs.Lists.{member}
use Rattle.lists.proofs.Members.{at_member, get_d_any}

-- ---- after a store

-- what stands at j after v is stored at i
pub at_set {ℓ} : {A : Type ℓ} (l : List A) (i : ℕ) (v z : A) (j : ℕ) → i < length l
    → ((j ≡ i) × (get_or (set l i v) j z ≡ v)) ⊎ ((j ≡ i → ⊥) × (get_or (set l i v) j z ≡ get_or l j z))
at_set {A} l i v z j h = go (ℕ_discrete j i)
  where
    go : Dec (j ≡ i) → ((j ≡ i) × (get_or (set l i v) j z ≡ v)) ⊎ ((j ≡ i → ⊥) × (get_or (set l i v) j z ≡ get_or l j z))
    go (yes e) = inl (e, rw e (get_or-set_same l i v z h))
    go (no n) = inr (n, get_or-set_other l i j v z n)

-- a store before the stretch
pub slice_before : (f t : ℕ) (l : List ℕ) (i v : ℕ) → i < f → slice f t (set l i v) ≡ slice f t l
slice_before f t l i v h = case (ltb' i t)
  where
    ltb' : (a b : ℕ) → (a < b) ⊎ (b ≤ a)
    ltb' a zero = inr (omega arith)
    ltb' zero (suc b) = inl (omega arith)
    ltb' (suc a) (suc b) = ⊎_elim (λ x. inl (omega arith)) (λ x. inr (omega arith)) (ltb' a b)

    case : (i < t) ⊎ (t ≤ i) → slice f t (set l i v) ≡ slice f t l
    case (inl k) = rw (take-set-lt t l i v k) (drop-set-lt f (take t l) i v h)
    case (inr k) = rw (take-set-le t l i v k)

-- a store past it
pub slice_after : (f t : ℕ) (l : List ℕ) (i v : ℕ) → t ≤ i → slice f t (set l i v) ≡ slice f t l
slice_after f t l i v h = rw (take-set-le t l i v h)

-- a store at its first place
pub slice_put : (i t : ℕ) (l : List ℕ) (v : ℕ) → i < t → t ≤ length l → slice i t (set l i v) ≡ v ∷ slice (suc i) t l
slice_put i t l v h k =
    slice-cons i t (set l i v) 0 h (rw length-set k)
    ∙ rw (get_or-set_same l i v 0 (omega arith), slice_before (suc i) t l i v (omega arith))

-- ---- one entry more

pub slice_next : (k e : ℕ) (l : List ℕ) → k < e → e ≤ length l → slice k e l ≡ get_or l k 0 ∷ slice (k + 1) e l
slice_next k e l h m = rw add-one (slice-cons k e l 0 h m)

pub slice_none : (k e : ℕ) (l : List ℕ) → e ≤ k → slice k e l ≡ []
slice_none k e l h = drop_of_length-le (take e l) {i = k} (omega (arith, length-take e l))

-- ---- entry by entry

slice_at : (f t i : ℕ) (l : List ℕ) → f ≤ i → i < t → get_or (slice f t l) (i - f) 0 ≡ get_or l i 0
slice_at f t i l h k = let q : f + (i - f) ≡ i = omega arith in rw (get_or-drop, q) (get_or-take t l i 0 k)

pub slice_member : (f t i : ℕ) (l : List ℕ) → f ≤ i → i < t → t ≤ length l → member (get_or l i 0) (slice f t l) ≡ true
slice_member f t i l h k m = rw (← slice_at f t i l h k) (at_member (slice f t l) (i - f) (omega (arith, length-slice f t l m)))

-- a stretch that is the other's, entry by entry
pub slice_map : (h : ℕ → ℕ) (f t i : ℕ) (l m : List ℕ) → slice f t m ≡ map h (slice f t l) → f ≤ i → i < t → t ≤ length l → get_or m i 0 ≡ h (get_or l i 0)
slice_map h f t i l m q p k n =
    let s = slice f t l in
    let j : i - f < length (map h s) = omega (arith, length-map s h, length-slice f t l n) in
    sym (slice_at f t i m p k) ∙ ap (λ (r : List ℕ). get_or r (i - f) 0) q ∙ get_d_any (map h s) (i - f) 0 (h 0) j ∙ get_or-map h s (i - f) 0 ∙ ap h (slice_at f t i l p k)

-- ---- a run of stores in two parts

pub sets_append : {A : Type 0} (l : List A) (n : ℕ) (a b : List A) → sets l n (a ++ b) ≡ sets (sets l n a) (n + length a) b
sets_append l n [] b = ap (λ (k : ℕ). sets l k b) (omega arith)
sets_append l n (x ∷ a) b = sets_append (set l n x) (suc n) a b ∙ ap (λ (k : ℕ). sets (sets (set l n x) (suc n) a) k b) (omega arith)
