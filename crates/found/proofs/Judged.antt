-- The marker passes exactly what explains the shot, and names the lowest wrong detector otherwise.
use Rattle.std.specs.Prelude.{Option, None, Some}
use Prim.Native.Nat.{ℕ, zero, suc, ◌+◌, ◌≤◌, ◌<◌}
use native.Mathlib.Omega.{arith}
use mathlib.Core.Path.{◌≡◌, refl, sym, ◌∙◌}
use mathlib.Core.List.{List, [], ◌∷◌}
use mathlib.Core.Bool.{Bool, true, false, xor}
use mathlib.Core.Logic.{⊎_elim}
use lib.Dec.{eqb}
use lib.ListN.{get_or}
use borrow.Author.Tests.{eqb-true, eqb-false}
use Rattle.lists.specs.Lists.{from, below, member}
use Rattle.steps.specs.Graph.{Graph, flipped}
use Rattle.steps.specs.Rows.{row_of}
use Rattle.steps.specs.Marker.{pass, differs, unfit, fit, first_wrong, verdict, mark}
use Rattle.steps.specs.Found.{Explains, Judged, by_steps}
use Rattle.lists.proofs.Truth.{case-of, clash, or_cases, or_intro, same_eqb, xor_is, xor_self}
use Rattle.lists.proofs.Members.{member_below, below_member}

module _ (g : Graph) (lit : List Bool) (es : List ℕ) where
  abbrev Right : ℕ → Type 0
  Right d = flipped g es d ≡ get_or lit d false

  abbrev wrong : Option ℕ
  wrong = first_wrong g lit es (below g.detectors)

  -- ---- the first wrong detector

  wrong_none : (ds : List ℕ) → first_wrong g lit es ds ≡ None → (d : ℕ) → member d ds ≡ true → Right d
  unfolding first_wrong member
  wrong_none [] h d m = clash m refl
  wrong_none (c ∷ ds) h d m = case-of (xor (get_or lit c false) (flipped g es c))
      (λ t. let w = rw t at h in cc)
      (λ f. ⊎_elim (λ u. rw (eqb-true d c u) (xor_is (get_or lit c false) (flipped g es c) f)) (λ u. wrong_none ds (rw f at h) d u) (or_cases (eqb d c) (member d ds) m))

  none_wrong : (ds : List ℕ) → ((d : ℕ) → member d ds ≡ true → Right d) → first_wrong g lit es ds ≡ None
  unfolding first_wrong member
  none_wrong [] h = refl
  none_wrong (c ∷ ds) h = rw (h c (rw (same_eqb c)), xor_self (get_or lit c false)) (none_wrong ds (λ d m. h d (or_intro (eqb d c) (member d ds) m)))

  -- of a, a + 1 and so on, d is wrong, and none before it
  abbrev First : ℕ → ℕ → ℕ → Type 0
  First n a d = (a ≤ d) × (d < n + a) × (Right d → ⊥) × ((c : ℕ) → a ≤ c → c < d → Right c)

  first_wrong_lem : (n a d : ℕ) → first_wrong g lit es (from n a) ≡ Some d → First n a d
  unfolding first_wrong from
  first_wrong_lem zero a d h = cc
  first_wrong_lem (suc n) a d h = case-of (xor (get_or lit a false) (flipped g es a))
      (λ t. let w = rw t at h in
      let q : a ≡ d = cc in
      let miss : Right a → ⊥ = λ r. clash t (rw (r, xor_self (get_or lit a false))) in
      (omega arith, omega arith, rw (← q) miss, λ c l m. absurd (omega arith)))
      (λ f. let (l, m, r, u) = first_wrong_lem n (suc a) d (rw f at h) in (
        omega arith,
        omega arith,
        r,
        λ c i j. case-of (eqb c a)
            (λ t. rw (eqb-true c a t) (xor_is (get_or lit a false) (flipped g es a) f))
            (λ x. u c (omega (arith, eqb-false c a x)) j),
      ))

  lowest_wrong : (d : ℕ) → wrong ≡ Some d → (d < g.detectors) × (Right d → ⊥) × ((c : ℕ) → c < d → Right c)
  unfolding below
  lowest_wrong d h =
      let (l, m, r, u) = first_wrong_lem g.detectors 0 d h in
      (omega arith, r, λ c i. u c (omega arith) i)

  -- ---- the verdict

  no_wrong : (o : Option ℕ) (row : List ℕ) → verdict g es true o ≡ pass row → (o ≡ None) × (row ≡ row_of g es)
  unfolding verdict
  no_wrong None row e = (refl, cc)
  no_wrong (Some d) row e = cc

  a_wrong : (o : Option ℕ) (d : ℕ) → verdict g es true o ≡ differs d → o ≡ Some d
  unfolding verdict
  a_wrong None d e = cc
  a_wrong (Some c) d e = cc

  never_unfit : (o : Option ℕ) → verdict g es true o ≡ unfit → ⊥
  unfolding verdict
  never_unfit None e = cc
  never_unfit (Some d) e = cc

  module _ (h : fit g es ≡ true) where
    marked : mark g lit es ≡ verdict g es true wrong
    unfolding mark
    marked = rw h

    pub explained : Explains g lit es → mark g lit es ≡ pass (row_of g es)
    unfolding verdict
    explained k = marked ∙ rw (none_wrong (below g.detectors) (λ d m. k d (member_below d g.detectors m)))

    pub judges : Judged by_steps g lit es
    judges = record {
      exactly = (
        λ r d l. wrong_none (below g.detectors) (no_wrong wrong r.0 (sym marked ∙ r.1)).0 d (below_member d g.detectors l),
        λ k. (row_of g es, explained k),
      );
      row = λ row e. (no_wrong wrong row (sym marked ∙ e)).1;
      wrong = λ d e. lowest_wrong d (a_wrong wrong d (sym marked ∙ e));
      taken = λ e. never_unfit wrong (sym marked ∙ e);
    }

  pub refuses : fit g es ≡ false → mark g lit es ≡ unfit
  unfolding mark verdict
  refuses f = rw f
