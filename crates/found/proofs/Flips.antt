-- Sums over the detectors of what edges flip.
use Prim.Native.Nat.{ℕ, ◌<◌}
use native.Mathlib.Omega.{arith}
use mathlib.Core.Path.{◌≡◌, sym, ap₂, ◌∙◌}
use mathlib.Core.List.{List}
use mathlib.Core.Bool.{Bool, true, ◌&&◌, xor}
use lib.Dec.{eqb}
use lib.ListN.{length}
use borrow.Author.Tests.{eqb-true}
use Rattle.lists.specs.Lists.{below, odd, member}
use Rattle.steps.specs.Graph.{Graph, Ends, inner, outer, is_pair, ends, flipped}
use Rattle.lists.proofs.Truth.{case-of, and_left, and_right, or_xor, xor_and}
use Rattle.lists.proofs.Sums.{odd_cong, odd_none, odd_xor, odd_and, odd_swap, odd_hit}

-- the detectors that pass q and that e ends at, counted by e's ends
unfoldable pub weight : Graph → (ℕ → Bool) → ℕ → Bool
weight g q e = xor (q (inner g e)) (is_pair g e && q (outer g e))

module _ (g : Graph) (ok : Ends g) where
  pub ends_xor : (e : ℕ) → e < length g.edge_u → (d : ℕ) → ends g e d ≡ xor (eqb (inner g e) d) (is_pair g e && eqb (outer g e) d)
  ends_xor e h d = or_xor (eqb (inner g e) d) (is_pair g e && eqb (outer g e) d) (λ t. case-of (is_pair g e && eqb (outer g e) d) (λ u. absurd (apart t u)) (λ u. u))
    where
      apart : eqb (inner g e) d ≡ true → (is_pair g e && eqb (outer g e) d) ≡ true → ⊥
      apart t u =
          let a = eqb-true (inner g e) d t in
          let b = eqb-true (outer g e) d (and_right (is_pair g e) (eqb (outer g e) d) u) in
          let k = (ok.paired e h (and_left (is_pair g e) (eqb (outer g e) d) u)).0 in
          omega arith

  ends_sum : (q : ℕ → Bool) (e : ℕ) → e < length g.edge_u → odd (λ d. ends g e d && q d) (below g.detectors) ≡ weight g q e
  unfolding weight
  ends_sum q e h =
      odd_cong (λ d. ends g e d && q d) (λ d. xor (eqb (inner g e) d && q d) (is_pair g e && eqb (outer g e) d && q d)) (below g.detectors)
      (λ d m. rw (ends_xor e h d) (xor_and (eqb (inner g e) d) (is_pair g e && eqb (outer g e) d) (q d)))
      ∙ odd_xor (λ d. eqb (inner g e) d && q d) (λ d. is_pair g e && eqb (outer g e) d && q d) (below g.detectors)
      ∙ ap₂ xor (odd_hit (inner g e) q g.detectors (ok.inside e h)) (case-of (is_pair g e) (λ t. rw t (odd_hit (outer g e) q g.detectors (ok.paired e h t).1)) (λ f. rw f (odd_none (below g.detectors))))

  pub flips_sum : (q : ℕ → Bool) (es : List ℕ) → ((e : ℕ) → member e es ≡ true → e < length g.edge_u)
      → odd (λ d. flipped g es d && q d) (below g.detectors) ≡ odd (weight g q) es
  flips_sum q es h =
      odd_cong (λ d. flipped g es d && q d) (λ d. odd (λ e. ends g e d && q d) es) (below g.detectors) (λ d m. sym (odd_and (λ e. ends g e d) (q d) es))
      ∙ odd_swap (λ d e. ends g e d && q d) (below g.detectors) es
      ∙ odd_cong (λ e. odd (λ d. ends g e d && q d) (below g.detectors)) (weight g q) es (λ e m. ends_sum q e (h e m))
