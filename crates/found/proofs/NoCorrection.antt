-- A stuck cluster is a component of the graph: every edge flips an even number of its detectors, and an odd number of them is lit.
use Rattle.std.specs.Prelude.{Some}
use Prim.Native.Nat.{ℕ, ◌<◌}
use native.Mathlib.Omega.{arith}
use mathlib.Core.Path.{◌≡◌, refl, sym, ap, ◌∙◌}
use mathlib.Core.List.{List}
use mathlib.Core.Bool.{Bool, true, false, ◌&&◌, ◌||◌, xor}
use mathlib.Core.Logic.{⊎_elim}
use lib.Dec.{eqb}
use lib.ListN.{length, get_or}
use borrow.Author.Tests.{eqb-true, eq-eqb}
use Rattle.lists.specs.Lists.{below, any, member}
use Rattle.steps.specs.Graph.{Graph, Ends, inner, outer, edges, is_pair, ends, flipped}
use Rattle.steps.specs.Growth.{State, is_odd, exits, leaves, first_stuck, after}
use Rattle.steps.specs.Found.{Known, Explains, Named}
use Rattle.lists.proofs.Truth.{case-of, clash, and_left, and_right, or_cases, or_left, or_right, or_intro, iff_eq}
use Rattle.lists.proofs.Sums.{odd_cong, odd_no, odd_some}
use Rattle.lists.proofs.Members.{member_below, below_member, any_none}
use Rattle.found.proofs.Flips.{weight, flips_sum}
use Rattle.found.proofs.Labels.{name}
use Rattle.found.proofs.Rounds.{Kept, of_live}
use Rattle.found.proofs.Kept.{kept}
use Rattle.found.proofs.Moves.{stuck_is}

module _ (g : Graph) (ok : Ends g) (lit : List Bool) (n d : ℕ) (st : first_stuck g lit (after g lit n) (after g lit n).active ≡ Some d) where
  abbrev s : State
  s = after g lit n

  -- c is in the cluster
  abbrev here : ℕ → Bool
  here c = eqb (name s.label c) d

  k : Kept g lit s.saturated s.label s.active
  k = kept g ok lit n

  stands : (member d s.active ≡ true) × (any (leaves g lit s d) (edges g) ≡ false)
  stands = stuck_is g lit s s.active d st

  live : (is_odd g lit s.label d ≡ true) × (any (exits g lit s.saturated s.label d) (edges g) ≡ false)
  live = of_live g ok lit s.saturated s.label d (sym (k.actives d) ∙ stands.0)

  -- ---- its edges

  -- an edge with one end in it has both
  both : (e : ℕ) → e < length g.edge_u → (here (inner g e) || (is_pair g e && here (outer g e))) ≡ true → (is_pair g e ≡ true) × (here (inner g e) ≡ true) × (here (outer g e) ≡ true)
  both e h t =
      let m = below_member e (length g.edge_u) h in
      let x = any_none (exits g lit s.saturated s.label d) (edges g) live.1 e m in
      let y = any_none (leaves g lit s d) (edges g) stands.1 e m in
      case-of (get_or s.saturated e false)
      (λ u. case-of (is_pair g e)
      (λ p. let j = k.joins e h u p in
      let z : here (outer g e) ≡ true = ⊎_elim (λ i. rw (← j) i) (λ i. i) (or_cases (here (inner g e)) (here (outer g e)) (rw p at t)) in
      (p, rw j z, z))
      (λ p. let i : here (inner g e) ≡ false = rw (u, p) at x in clash (rw (p, i) at t) refl))
      (λ f. let r : (here (inner g e) || (is_pair g e && here (outer g e))) ≡ false = rw f at y in clash t r)

  even : (e : ℕ) → e < length g.edge_u → weight g here e ≡ false
  unfolding weight xor
  even e h = case-of (here (inner g e) || (is_pair g e && here (outer g e)))
      (λ t. let (p, i, o) = both e h t in rw (p, i, o))
      (λ f. rw (or_left (here (inner g e)) (is_pair g e && here (outer g e)) f, or_right (here (inner g e)) (is_pair g e && here (outer g e)) f))

  -- repeats are allowed
  pub no_correction : (es : List ℕ) → Known g es → Explains g lit es → ⊥
  unfolding is_odd
  no_correction es known ex =
      let ds = below g.detectors in
      clash
      (sym (flips_sum g ok here es known) ∙ odd_cong (λ c. flipped g es c && here c) (λ c. get_or lit c false && here c) ds (λ c m. rw (ex c (member_below c g.detectors m))) ∙ live.0)
      (odd_no (weight g here) es (λ e m. even e (known e m)))

  -- ---- its name

  inside : (d < g.detectors) × (name s.label d ≡ d)
  unfolding is_odd
  inside =
      let (c, m, t) = odd_some (λ c. get_or lit c false && here c) (below g.detectors) live.0 in
      let l = member_below c g.detectors m in
      let q = eqb-true (name s.label c) d (and_right (get_or lit c false) (here c) t) in
      (omega (arith, k.labels.low c l), ap (name s.label) (sym q) ∙ k.labels.root c l ∙ q)

  agrees : (e : ℕ) → e < length g.edge_u → is_pair g e ≡ true → here (inner g e) ≡ here (outer g e)
  agrees e h p = iff_eq (here (inner g e)) (here (outer g e))
      (λ i. (both e h (rw i)).2)
      (λ o. (both e h (or_intro (here (inner g e)) (is_pair g e && here (outer g e)) (rw (p, o)))).1)

  touched : (e c : ℕ) → ends g e c ≡ true → name s.label c ≡ d → (here (inner g e) || (is_pair g e && here (outer g e))) ≡ true
  touched e c t q = ⊎_elim
      (λ i. rw (eqb-true (inner g e) c i, eq-eqb (name s.label c) d q))
      (λ o. or_intro (here (inner g e)) (is_pair g e && here (outer g e))
      (rw (and_left (is_pair g e) (eqb (outer g e) c) o, eqb-true (outer g e) c (and_right (is_pair g e) (eqb (outer g e) c) o)) (eq-eqb (name s.label c) d q)))
      (or_cases (eqb (inner g e) c) (is_pair g e && eqb (outer g e) c) t)

  pub names : Named g lit n d
  names = record {
    known = inside.0;
    own = inside.1;
    lowest = λ c l q. omega (arith, k.labels.low c l);
    closed = λ e c h t q.
        let (p, i, o) = both e h (touched e c t q) in
        (p, eqb-true (name s.label (inner g e)) d i, eqb-true (name s.label (outer g e)) d o);
    component = λ c l. (
      λ q f a. ap f (sym q) ∙ k.labels.linked c l f (λ e h u p. a e h p),
      λ j. eqb-true (name s.label c) d (sym (j here agrees) ∙ eq-eqb (name s.label d) d inside.1),
    );
    odd_lit = live.0;
  }
