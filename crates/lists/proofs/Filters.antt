-- The laws of `filter`.
use Prim.Native.Nat.{ℕ, ◌≤◌}
use native.Mathlib.Omega.{arith}
use mathlib.Core.Path.{◌≡◌, refl}
use mathlib.Core.List.{List, [], ◌∷◌}
use mathlib.Core.Bool.{Bool, true, ◌&&◌}
use lib.Dec.{eqb}
use lib.ListN.{length}
use Rattle.lists.specs.Lists.{filter, member}
use Rattle.lists.proofs.Truth.{case-of, same_eqb, or_intro}

pub length_filter : (p : ℕ → Bool) (l : List ℕ) → length (filter p l) ≤ length l
unfolding filter
length_filter p [] = omega arith
length_filter p (a ∷ l) = let h = length_filter p l in case-of (p a) (λ t. rw t (omega arith)) (λ f. rw f (omega arith))

pub filter_cong : {A : Type 0} (p q : A → Bool) → ((a : A) → p a ≡ q a) → (l : List A) → filter p l ≡ filter q l
unfolding filter
filter_cong p q h [] = refl
filter_cong p q h (a ∷ l) = rw (h a, filter_cong p q h l)

pub filter_filter : {A : Type 0} (p q : A → Bool) (l : List A) → filter p (filter q l) ≡ filter (λ a. q a && p a) l
unfolding filter
filter_filter p q [] = refl
filter_filter p q (a ∷ l) = case-of (q a) (λ t. rw (t, filter_filter p q l)) (λ f. rw (f, filter_filter p q l))

-- two tests that agree on the list
pub filter_in : (p q : ℕ → Bool) (l : List ℕ) → ((a : ℕ) → member a l ≡ true → p a ≡ q a) → filter p l ≡ filter q l
unfolding filter member
filter_in p q [] h = refl
filter_in p q (a ∷ l) h =
    let k : p a ≡ q a = h a (rw (same_eqb a)) in
    rw (k, filter_in p q l (λ b m. h b (or_intro (eqb b a) (member b l) m)))
