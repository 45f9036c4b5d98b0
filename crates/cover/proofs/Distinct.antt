-- A candidate that equals an earlier one in mask and words is never in the first cover.
use Rattle.std.specs.Prelude.{Option, None, Some}
use Prim.Native.Nat.{ℕ}
use native.Mathlib.Omega.{arith}
use mathlib.Core.Path.{◌≡◌, refl, sym, ap, ap₂, ◌∙◌}
use mathlib.Core.List.{List, [], ◌∷◌}
use mathlib.Core.Bool.{Bool, true, false, not, ◌&&◌}
use lib.Dec.{eqb}
use lib.Bits.{bit_xor}
use borrow.Author.Tests.{eqb-true}
use Rattle.lists.specs.Lists.{filter}
use Rattle.lists.proofs.Truth.{case-of, clash, and_left, and_right, not_so}
use Rattle.dem.specs.Cover.{choose}
use Rattle.cover.specs.Masks.{Candidate, fits, cover_of, alike, distinct}
use Rattle.cover.proofs.Bitwise.{xor_turn, fits_more, fits_turn, fits_once}

choose_none : (b : Bool) (at : ℕ) (x r : Option (List ℕ)) → choose b at x r ≡ None → (b ≡ true → x ≡ None) × (r ≡ None)
choose_none true at (Some cs) r e = absurd (let z : ◌≡◌ {A = ℕ} 0 1 = cc in omega arith)
choose_none true at None r e = (λ t. refl, e)
choose_none false at x r e = (λ t. clash t refl, e)

-- the state that c leaves
abbrev after : Candidate → List Candidate → ℕ → ℕ → ℕ → Option (List ℕ)
after c cs m o p = cover_of cs (bit_xor m c.mask) (bit_xor o c.word0) (bit_xor p c.word1)

alike_parts : (c d : Candidate) → alike c d ≡ true → (c.mask ≡ d.mask) × (c.word0 ≡ d.word0) × (c.word1 ≡ d.word1)
unfolding alike
alike_parts c d e =
    let x = eqb c.mask d.mask in
    let y = eqb c.word0 d.word0 in
    let z = eqb c.word1 d.word1 in
    (eqb-true c.mask d.mask (and_left x (y && z) e), eqb-true c.word0 d.word0 (and_left y z (and_right x (y && z) e)), eqb-true c.word1 d.word1 (and_right y z (and_right x (y && z) e)))

module _ (c : Candidate) where
  abbrev others : List Candidate → List Candidate
  others ds = filter (λ d. not (alike c d)) ds

  -- where c does not fit, none that equals it does
  unfit : (ds : List Candidate) (m o p : ℕ) → fits m c.mask ≡ false → cover_of ds m o p ≡ cover_of (others ds) m o p
  unfolding cover_of filter
  unfit [] m o p f = refl
  unfit (d ∷ ds) m o p f = case-of (alike c d)
      (λ t. let e = sym (ap (fits m) (alike_parts c d t).0) ∙ f in rw (t, e) (unfit ds m o p f))
      (λ t. case-of (fits m d.mask)
      (λ u. let g = not_so (fits (bit_xor m d.mask) c.mask) (λ v. clash (fits_more m c.mask d.mask u v) f) in
      rw (t, u) (ap₂ (choose true d.number) (unfit ds (bit_xor m d.mask) (bit_xor o d.word0) (bit_xor p d.word1) g) (unfit ds m o p f)))
      (λ u. rw (t, u) (unfit ds m o p f)))

  turned : (d : Candidate) (ds : List Candidate) (m o p : ℕ) → after d ds (bit_xor m c.mask) (bit_xor o c.word0) (bit_xor p c.word1) ≡ None
      → after c ds (bit_xor m d.mask) (bit_xor o d.word0) (bit_xor p d.word1) ≡ None
  turned d ds m o p e = rw (xor_turn m d.mask c.mask, xor_turn o d.word0 c.word0, xor_turn p d.word1 c.word1) e

  -- where c fits and fails, every one that equals it fails, here and deeper
  failed : (ds : List Candidate) (m o p : ℕ) → fits m c.mask ≡ true → after c ds m o p ≡ None → cover_of ds m o p ≡ cover_of (others ds) m o p
  unfolding cover_of filter
  failed [] m o p f e = refl
  failed (d ∷ ds) m o p f e =
      let n = choose_none (fits (bit_xor m c.mask) d.mask) d.number (after d ds (bit_xor m c.mask) (bit_xor o c.word0) (bit_xor p c.word1)) (after c ds m o p) e in
      let without-it = failed ds m o p f n.1 in
      case-of (alike c d)
      (λ t. let (q, r, s) = alike_parts c d t in
      let u : fits m d.mask ≡ true = sym (ap (fits m) q) ∙ f in
      let v : after d ds m o p ≡ None = let w = n.1 in cc in
      rw (t, u, v) without-it)
      (λ t. case-of (fits m d.mask)
      (λ u. rw (t, u) (ap₂ (choose true d.number) (case-of (fits (bit_xor m d.mask) c.mask)
      (λ v. failed ds (bit_xor m d.mask) (bit_xor o d.word0) (bit_xor p d.word1) v (turned d ds m o p (n.0 (fits_turn m c.mask d.mask u f v))))
      (λ v. unfit ds (bit_xor m d.mask) (bit_xor o d.word0) (bit_xor p d.word1) v)) without-it))
      (λ u. rw (t, u) without-it))

  -- so once c has been tried, none that equals it need be
  once : (cs : List Candidate) (m o p : ℕ) → cover_of (c ∷ cs) m o p ≡ cover_of (c ∷ others cs) m o p
  unfolding cover_of
  once cs m o p = case-of (fits m c.mask)
      (λ t. let e = unfit cs (bit_xor m c.mask) (bit_xor o c.word0) (bit_xor p c.word1) (fits_once m c.mask c.mask t) in
      rw t (ap (λ x. choose true c.number x (cover_of cs m o p)) e ∙ go t (after c (others cs) m o p) e))
      (λ f. rw f (unfit cs m o p f))
    where
      go : fits m c.mask ≡ true → (x : Option (List ℕ)) → after c cs m o p ≡ x → choose true c.number x (cover_of cs m o p) ≡ choose true c.number x (cover_of (others cs) m o p)
      go t (Some ks) e = refl
      go t None e = failed cs m o p t e

pub all_distinct : (cs : List Candidate) (m o p : ℕ) → cover_of cs m o p ≡ cover_of (distinct cs) m o p
unfolding cover_of distinct
all_distinct [] m o p = refl
all_distinct (c ∷ cs) m o p =
    ap₂ (choose (fits m c.mask) c.number) (all_distinct cs (bit_xor m c.mask) (bit_xor o c.word0) (bit_xor p c.word1)) (all_distinct cs m o p)
    ∙ once c (distinct cs) m o p
