-- The walk of a cluster: its branches are a tree, and it comes to every linked vertex.
use Prim.Native.Nat.{ℕ, zero, suc, ◌+◌, ◌≤◌, ◌<◌}
use native.Mathlib.Omega.{arith}
use mathlib.Core.Path.{◌≡◌, refl, sym, ◌∙◌}
use mathlib.Core.List.{List, [], ◌∷◌}
use mathlib.Core.Bool.{Bool, true, false, ◌&&◌, ◌||◌, or-false}
use mathlib.Core.Logic.{◌⊎◌, inl, inr, ⊎_elim}
use lib.Dec.{eqb}
use lib.ListN.{length, replicate, length-set, length-replicate, get_or-replicate}
use lib.Seq.{get_or-set_same, get_or-set_other}
use borrow.Author.Tests.{eqb-true, eqb-false, ne_eqb}
use Rattle.lists.specs.Lists.{member}
use Rattle.steps.specs.Graph.{Graph, Ends, inner, outer, is_pair}
use Rattle.steps.specs.Peeling.{Branch, Walk, joined, meet, walk, branches_from}
use Rattle.steps.specs.Laws.{Constant, Linked, Walks, begun, walk_from}
use Rattle.lists.proofs.Truth.{case-of, clash, or_cases, or_intro, same_eqb, iff_eq}
use Rattle.lists.proofs.Counts.{falses, falses_set, falses_replicate}
use Rattle.found.proofs.Meets.{is, joined_in, in_joined, Closed, Walked, Pending, measure, Met, meets}
use Rattle.found.proofs.Trees.{within, Tree}

module _ (g : Graph) (sat : List Bool) where
  -- ---- the whole walk

  Waiting : Walk → Type 0
  Waiting w = (d : ℕ) → d < g.detectors → is w.met d ≡ true → (member d w.stack ≡ true) ⊎ Closed g sat w.met d

  record Finished (v : ℕ) (w : Walk) : Type 0 where
    walked : Walked g sat v w
    none : w.stack ≡ []
    closed : (d : ℕ) → d < g.detectors → is w.met d ≡ true → Closed g sat w.met d

  -- nothing waits
  empty : (v : ℕ) (met : List Bool) (branches : List Branch) → Walked g sat v (record { met = met; stack = []; branches = branches })
      → Waiting (record { met = met; stack = []; branches = branches }) → Finished v (record { met = met; stack = []; branches = branches })
  unfolding Waiting member
  empty v met branches k p = record { walked = k; none = refl; closed = λ d l m. ⊎_elim (λ (x : member d [] ≡ true). clash x refl) (λ c. c) (p d l m) }

  module _ (ok : Ends g) (v : ℕ) where
    -- the last pushed vertex u is taken
    module _ (met : List Bool) (u : ℕ) (rest : List ℕ) (branches : List Branch)
        (k : Walked g sat v (record { met = met; stack = u ∷ rest; branches = branches })) (p : Waiting (record { met = met; stack = u ∷ rest; branches = branches })) where
      abbrev taken : Walk
      taken = record { met = met; stack = rest; branches = branches }

      top : (u < g.detectors) × (is met u ≡ true)
      unfolding member
      top = k.stacked u (rw (same_eqb u))

      popped : Walked g sat v taken
      unfolding member
      popped = record { sizes = k.sizes; seen = k.seen; tree = k.tree; stacked = λ d m. k.stacked d (or_intro (eqb d u) (member d rest) m) }

      left : Pending g sat u taken
      unfolding Pending Waiting member
      left d l m = ⊎_elim
          (λ x. ⊎_elim (λ y. inl (eqb-true d u y)) (λ y. inr (inl y)) (or_cases (eqb d u) (member d rest) x))
          (λ c. inr (inr c))
          (p d l m)

      after : Met g sat v u taken (joined g sat u) (meet g sat u taken (joined g sat u))
      after = meets g sat ok v u top.0 (joined g sat u) taken popped left top.1 (λ e m. joined_in g sat u e m)

      again : Waiting (meet g sat u taken (joined g sat u))
      unfolding Pending Waiting Closed
      again d l m = ⊎_elim
          (λ q. inr (rw q (λ e j. after.all e (in_joined g sat u e j))))
          (λ c. c)
          (after.pending d l m)

    walks : (fuel : ℕ) (met : List Bool) (stack : List ℕ) (branches : List Branch) → Walked g sat v (record { met = met; stack = stack; branches = branches })
        → Waiting (record { met = met; stack = stack; branches = branches }) → falses met + length stack ≤ fuel → Finished v (walk g sat fuel (record { met = met; stack = stack; branches = branches }))
    unfolding walk measure
    walks zero met [] branches k p h = empty v met branches k p
    walks zero met (u ∷ rest) branches k p h = absurd (omega arith)
    walks (suc fuel) met [] branches k p h = empty v met branches k p
    walks (suc fuel) met (u ∷ rest) branches k p h =
        let r = meet g sat u (taken met u rest branches k p) (joined g sat u) in
        walks fuel r.met r.stack r.branches (after met u rest branches k p).walked (again met u rest branches k p) (omega (arith, (after met u rest branches k p).same))

  -- ---- from the start

  -- the branches are a tree of the start v, and every linked vertex is in it
  pub record Spanning (v : ℕ) (bs : List Branch) : Type 0 where
    pub tree : Tree g sat v bs
    pub reaches : (d : ℕ) → d < g.detectors → Linked g sat v d → within v bs d ≡ true

  module _ (ok : Ends g) (v : ℕ) (vl : v < g.detectors) where
    abbrev first : List Bool
    first = (begun g v).met

    first_is : (d : ℕ) → d < g.detectors → is first d ≡ (eqb d v || false)
    first_is d l = case-of (eqb d v)
        (λ t. let z : is first v ≡ true = get_or-set_same (replicate g.detectors false) v true false (rw (length-replicate g.detectors false) vl) in
        rw (t, eqb-true d v t) z)
        (λ f. rw f (get_or-set_other (replicate g.detectors false) v d true false (eqb-false d v f) ∙ get_or-replicate g.detectors d false false l))

    first_walked : Walked g sat v (begun g v)
    unfolding member
    first_walked = record {
      sizes = length-set (replicate g.detectors false) v true ∙ length-replicate g.detectors false;
      seen = first_is;
      tree = tt;
      stacked = λ d m. let q = eqb-true d v (sym (or-false (eqb d v)) ∙ m) in rw q (vl, first_is v vl ∙ rw (same_eqb v));
    }

    first_waiting : Waiting (begun g v)
    unfolding Waiting member
    first_waiting d l m = inl (sym (first_is d l) ∙ m)

    done : Finished v (walk_from g sat v)
    done = walks ok v (suc g.detectors) first (v ∷ []) [] first_walked first_waiting
        (omega (
          arith,
          falses_set (replicate g.detectors false) v (rw (length-replicate g.detectors false) vl) (get_or-replicate g.detectors v false false vl),
          falses_replicate g.detectors,
        ))

    module _ (w : Walk) (f : Finished v w) where
      even : Constant g sat (λ d. is w.met d)
      unfolding Closed
      even e h s p =
          let o = ok.paired e h p in
          let i = ok.inside e h in
          let apart : eqb (inner g e) (outer g e) ≡ false = ne_eqb (inner g e) (outer g e) (λ q. omega (arith, o.0)) in
          iff_eq (is w.met (inner g e)) (is w.met (outer g e))
          (λ m. let z = f.closed (inner g e) i m e (record { known = h; solid = s; pair = p; at = rw (same_eqb (inner g e)) }) in rw (same_eqb (inner g e)) at z)
          (λ m. let z = f.closed (outer g e) o.1 m e (record {
            known = h;
            solid = s;
            pair = p;
            at = or_intro (eqb (inner g e) (outer g e)) (is_pair g e && eqb (outer g e) (outer g e)) (rw (p, same_eqb (outer g e)));
          }) in rw apart at z)

      spans_all : Spanning v w.branches
      spans_all = record {
        tree = f.walked.tree;
        reaches = λ d l c. sym (f.walked.seen d l) ∙ sym (c (λ d. is w.met d) even) ∙ f.walked.seen v vl ∙ rw (same_eqb v);
      }

    pub spanning : Spanning v (branches_from g sat v)
    unfolding branches_from
    spanning = spans_all (walk_from g sat v) done

    pub walked_out : Walks g sat v
    unfolding branches_from
    walked_out = record { branches = refl; empty = done.none }
