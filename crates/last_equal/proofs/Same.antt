-- Equal lists, entry by entry.
use Rattle.std.proofs.Common.{◌≡◌, ℕ, Bool, true, ◌&&◌, List, [], ◌∷◌, eqb, ap, ◌∙◌, refl}
use Prim.Native.Nat.{suc, ◌+◌, ◌<◌, ◌≤◌}
use mathlib.Core.Bool.{false}
use native.Mathlib.Numerals.{add-one}
use lib.ListN.{length, get_or, drop, drop_of_length-le}
use lib.Seq.{drop-cons}
use Rattle.std.specs.Cmp.Lexicographic.{pointwise}
use Rattle.lists.proofs.Truth.{and_left, clash}
use Rattle.dem.specs.Model.{Symptom}
use Rattle.dem.specs.Decompose.{same_list, same_symptom}
use Rattle.cover.specs.Kept.{starts_with}
use borrow.Author.Tests.{eqb-true}

pub lengths_differ : (a b : List ℕ) → (length a ≡ length b → ⊥) → same_list a b ≡ false
unfolding same_list
lengths_differ [] [] f = absurd (f refl)
lengths_differ [] (y ∷ b) f = refl
lengths_differ (x ∷ a) [] f = refl
lengths_differ (x ∷ a) (y ∷ b) f = rw (lengths_differ a b (λ e. f (ap suc e))) (and_false (eqb x y))
  where
    and_false : (b : Bool) → (b && false) ≡ false
    and_false true = refl
    and_false false = refl

module _ (a b : List ℕ) (i : ℕ) where
  pub same_turn : i < length a → i < length b → same_list (drop i a) (drop i b) ≡ (eqb (get_or a i 0) (get_or b i 0) && same_list (drop (i + 1) a) (drop (i + 1) b))
  unfolding same_list
  same_turn h k = rw (add-one i, drop-cons a i 0 h, drop-cons b i 0 k)

  pub same_end : length a ≤ i → length b ≤ i → same_list (drop i a) (drop i b) ≡ true
  unfolding same_list
  same_end h k = rw (drop_of_length-le a {i = i} h, drop_of_length-le b {i = i} k)

-- `==` on slices
pub same_slices : (a b : List ℕ) → pointwise eqb a b ≡ same_list a b
unfolding same_list
same_slices [] [] = refl
same_slices [] (y ∷ b) = refl
same_slices (x ∷ a) [] = refl
same_slices (x ∷ a) (y ∷ b) = ap (λ (r : Bool). eqb x y && r) (same_slices a b)

-- equal lists begin alike
pub same_starts : (a b : List ℕ) (d : ℕ) → same_list a b ≡ true → starts_with d b ≡ true → starts_with d a ≡ true
unfolding same_list
same_starts [] [] d e h = h
same_starts [] (y ∷ b) d e h = e
same_starts (x ∷ a) [] d e h = clash h refl
same_starts (x ∷ a) (y ∷ b) d e h = ap (λ (z : ℕ). eqb z d) (eqb-true x y (and_left _ _ e)) ∙ h

pub same_detectors : (s r : Symptom) → same_symptom s r ≡ true → same_list s.detectors r.detectors ≡ true
unfolding same_symptom
same_detectors s r h = and_left _ _ h
