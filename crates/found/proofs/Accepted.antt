-- What the check of a lent graph leaves true: of its ends, its rows of observables and its weights.
use Rattle.std.specs.Prelude.{Ok}
use Prim.Native.Nat.{ℕ, ◌≤◌, ◌<◌}
use native.Mathlib.Omega.{arith}
use mathlib.Core.Path.{◌≡◌, refl}
use mathlib.Core.List.{List, [], ◌∷◌}
use mathlib.Core.Bool.{true, not, ◌&&◌, ◌||◌}
use mathlib.Core.Logic.{⊎_elim}
use lib.Dec.{eqb, ltb}
use lib.ListN.{length, get_or}
use lib.Ieee.{nan}
use borrow.Author.Tests.{eqb-true, ltb-true, ltb-false, not-false}
use Rattle.lists.specs.Lists.{member}
use Rattle.lists.proofs.Truth.{clash, and_left, and_right, or_cases}
use Rattle.lists.proofs.Members.{below_member}
use Rattle.bits.specs.Rows.{words, is_clear}
use Rattle.codes.specs.declared.Refusal.TheVariants.{Limit, Probability, Index}
use Rattle.codes.specs.Order.{refuse_if, and_then}
use Rattle.codes.proofs.Checks.{then_accepted, if_accepted}
use Rattle.codes.specs.Limits.{over, check_counts, max_detectors, max_observables, max_mechanisms}
use Rattle.steps.specs.Graph.{Graph, Ends, inner, outer, edges, is_pair}
use Rattle.weight.specs.Weight.{weight_fits}
use Rattle.steps.specs.Call.{AcceptedGraph, ends_fit, observables_fit, check_edge, check_edges}

-- the three tests of an edge
record Fits (g : Graph) (e : ℕ) : Type 0 where
  ends : ends_fit g e ≡ true
  row : observables_fit g e ≡ true
  weight : weight_fits (get_or g.edge_weight e nan) ≡ true

module _ (g : Graph) where
  edge_fits : (e : ℕ) → check_edge g e ≡ Ok tt → Fits g e
  unfolding check_edge
  edge_fits e h =
      let w = weight_fits (get_or g.edge_weight e nan) in
      let (i, p) = then_accepted (refuse_if (not (ends_fit g e && observables_fit g e)) (Index e)) (refuse_if (not w) (Probability e)) h in
      let t = not-false (ends_fit g e && observables_fit g e) (if_accepted (not (ends_fit g e && observables_fit g e)) (Index e) i) in
      record {
        ends = and_left (ends_fit g e) (observables_fit g e) t;
        row = and_right (ends_fit g e) (observables_fit g e) t;
        weight = not-false w (if_accepted (not w) (Probability e) p);
      }

  each_fits : (es : List ℕ) → check_edges g es ≡ Ok tt → (e : ℕ) → member e es ≡ true → Fits g e
  unfolding check_edges member
  each_fits [] h e m = clash m refl
  each_fits (a ∷ es) h e m =
      let (p, q) = then_accepted (check_edge g a) (check_edges g es) h in
      ⊎_elim (λ t. rw (eqb-true e a t) (edge_fits a p)) (λ t. each_fits es q e t) (or_cases (eqb e a) (member e es) m)

  module _ (a : AcceptedGraph g) where
    fits : (e : ℕ) → e < length g.edge_u → Fits g e
    fits e h = each_fits (edges g) a.passes e (below_member e (length g.edge_u) h)

    few_detectors : g.detectors ≤ max_detectors
    unfolding check_counts
    few_detectors =
        let (p, q) = then_accepted (over max_detectors g.detectors) (and_then (over max_observables g.observables) (over max_mechanisms (length g.edge_u))) a.limits in
        ltb-false max_detectors g.detectors (if_accepted (ltb max_detectors g.detectors) Limit p)

    pub accepted_ends : Ends g
    unfolding ends_fit
    accepted_ends = record {
      as_many = a.ends_table;
      small = omega (arith, few_detectors);
      inside = λ e h. ltb-true (inner g e) g.detectors (and_left (ltb (inner g e) g.detectors) (not (is_pair g e) || (ltb (inner g e) (outer g e) && ltb (outer g e) g.detectors)) (fits e h).ends);
      paired = λ e h p.
          let t : (ltb (inner g e) (outer g e) && ltb (outer g e) g.detectors) ≡ true
          = rw p at (and_right (ltb (inner g e) g.detectors) (not (is_pair g e) || (ltb (inner g e) (outer g e) && ltb (outer g e) g.detectors)) (fits e h).ends) in (
            ltb-true (inner g e) (outer g e) (and_left (ltb (inner g e) (outer g e)) (ltb (outer g e) g.detectors) t),
            ltb-true (outer g e) g.detectors (and_right (ltb (inner g e) (outer g e)) (ltb (outer g e) g.detectors) t),
          );
    }

    pub accepted_rows : (e : ℕ) → e < length g.edge_u → (length (get_or g.edge_obs e []) ≡ words g.observables) × (is_clear g.observables (get_or g.edge_obs e []) ≡ true)
    unfolding observables_fit
    accepted_rows e h =
        let row = get_or g.edge_obs e [] in
        let w = words g.observables in (
          eqb-true (length row) w (and_left (eqb (length row) w) (is_clear g.observables row) (fits e h).row),
          and_right (eqb (length row) w) (is_clear g.observables row) (fits e h).row,
        )

    pub accepted_weights : (e : ℕ) → e < length g.edge_u → weight_fits (get_or g.edge_weight e nan) ≡ true
    accepted_weights e h = (fits e h).weight
