-- A shot of which no word has a bit set has no lit detector. Assumes nothing.
use Prim.Native.Nat.{ℕ}
use mathlib.Core.Path.{◌≡◌, refl, sym, ap, ap₂, ◌∙◌}
use mathlib.Core.List.{List, [], ◌∷◌}
use mathlib.Core.Bool.{true, false, not}
use lib.Dec.{eqb}
use lib.ListN.{length, replicate}
use borrow.Author.Tests.{eqb-true, not-false, not-true}
use Rattle.std.specs.List.{list_all}
use Rattle.lists.specs.Lists.{any, below}
use Rattle.lists.proofs.Truth.{case-of, or_left, or_right}
use Rattle.lists.proofs.Ranges.{filter_false}
use Rattle.bits.specs.Rows.{bit, set_bits}
use Rattle.bits.proofs.Rows.{bit_zeros}
use Rattle.lists.proofs.Filters.{filter_in}
use Rattle.shot.specs.Blank.{is_blank}

-- every word is 0
pub all_blank : (row : List ℕ) → list_all (λ w. eqb w 0) row ≡ is_blank row
unfolding any
all_blank [] = refl
all_blank (w ∷ row) = case-of (eqb w 0) (λ t. rw t (all_blank row)) (λ f. rw f)

zeros_of : (row : List ℕ) → any (λ w. not (eqb w 0)) row ≡ false → row ≡ replicate (length row) 0
unfolding any
zeros_of [] h = refl
zeros_of (w ∷ row) h = ap₂ (λ (a : ℕ) (l : List ℕ). a ∷ l)
    (eqb-true w 0 (not-false (eqb w 0) (or_left (not (eqb w 0)) (any (λ w. not (eqb w 0)) row) h)))
    (zeros_of row (or_right (not (eqb w 0)) (any (λ w. not (eqb w 0)) row) h))

pub none_lit : (n : ℕ) (row : List ℕ) → is_blank row ≡ true → 0 ≡ length (set_bits n row)
unfolding set_bits
none_lit n row h =
    let q : row ≡ replicate (length row) 0 = zeros_of row (not-true (any (λ w. not (eqb w 0)) row) h) in
    sym (ap length (filter_in (bit row) (λ x. false) (below n) (λ j m. ap (λ (l : List ℕ). bit l j) q ∙ bit_zeros (length row) j) ∙ filter_false (below n)))
