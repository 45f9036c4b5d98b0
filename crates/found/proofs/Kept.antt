-- What every round keeps holds after any number of them.
use Prim.Native.Nat.{ℕ, zero, suc, ◌<◌}
use native.Mathlib.Omega.{arith}
use mathlib.Core.Path.{◌≡◌, sym, ap, ◌∙◌}
use mathlib.Core.List.{List, map}
use mathlib.Core.Bool.{Bool, false, not, ◌&&◌, and-false, and-true, and_comm}
use lib.Dec.{eqb, ltb}
use lib.ListN.{length, get_or, length-map}
use borrow.Author.Tests.{ne_eqb, ltb-true, ltb-false}
use Rattle.lists.specs.Lists.{below, filter, any, member}
use Rattle.steps.specs.Graph.{Graph, Ends, inner, edges, is_pair}
use Rattle.steps.specs.Growth.{State, is_odd, exits, is_active, start, next, after, least_of, saturates, is_counted}
use Rattle.lists.proofs.Truth.{case-of, clash, and_left, not_so, eqb_comm}
use Rattle.lists.proofs.Sums.{odd_cong, odd_no, odd_hit}
use Rattle.lists.proofs.Members.{member_filter, member_below, below_member, any_some, length_below, get_d_below, below_at}
use Rattle.found.proofs.Labels.{name}
use Rattle.found.proofs.Rounds.{Kept, kept_step}

module _ (g : Graph) (ok : Ends g) (lit : List Bool) where
  abbrev KeptAt : State → Type 0
  KeptAt s = Kept g lit s.saturated s.label s.active

  -- ---- before the first round

  abbrev none_yet : List Bool
  none_yet = map (λ e. false) (edges g)

  abbrev alone : List ℕ
  alone = below g.detectors

  dark : (e : ℕ) → e < length g.edge_u → get_or none_yet e false ≡ false
  dark e h = get_d_below (λ e. false) false (length g.edge_u) e h

  start_odd : (a : ℕ) → is_odd g lit alone a ≡ (get_or lit a false && member a alone)
  unfolding is_odd
  start_odd a =
      odd_cong (λ d. get_or lit d false && eqb (name alone d) a) (λ d. eqb a d && get_or lit d false) alone
      (λ d m. rw (below_at g.detectors d d (member_below d g.detectors m), eqb_comm d a) (and_comm (get_or lit d false) (eqb a d)))
      ∙ case-of (ltb a g.detectors)
      (λ t. let l = ltb-true a g.detectors t in
      odd_hit a (λ d. get_or lit d false) g.detectors l ∙ rw (below_member a g.detectors l) (sym (and-true (get_or lit a false))))
      (λ f. let l = ltb-false a g.detectors f in
      let out : member a alone ≡ false = not_so (member a alone) (λ m. let k = member_below a g.detectors m in omega arith) in
      odd_no (λ d. eqb a d && get_or lit d false) alone (λ d m. let k = member_below d g.detectors m in rw (ne_eqb a d (λ e. omega arith)))
      ∙ rw out (sym (and-false (get_or lit a false))))

  start_free : (a : ℕ) → any (exits g lit none_yet alone a) (edges g) ≡ false
  start_free a = not_so (any (exits g lit none_yet alone a) (edges g)) (λ u.
      let (e, m, t) = any_some (exits g lit none_yet alone a) (edges g) u in
      clash (and_left (get_or none_yet e false) (not (is_pair g e) && eqb (name alone (inner g e)) a) t) (dark e (member_below e (length g.edge_u) m)))

  start_active : (a : ℕ) → is_active g lit none_yet alone a ≡ (get_or lit a false && member a alone)
  unfolding is_active
  start_active a = rw (start_free a) (and-true (is_odd g lit alone a) ∙ start_odd a)

  kept_start : KeptAt (start g lit)
  unfolding start
  kept_start = record {
    sats = length-map (edges g) (λ e. false) ∙ length_below (length g.edge_u);
    labels = record {
      sizes = length_below g.detectors;
      low = λ d l. omega (arith, below_at g.detectors d d l);
      root = λ d l. rw (below_at g.detectors d d l) (below_at g.detectors d d l);
      linked = λ d l c q. ap c (below_at g.detectors d d l);
    };
    joins = λ e h s p. clash s (dark e h);
    actives = λ a. member_filter (λ d. get_or lit d false) a alone ∙ sym (start_active a);
  }

  kept_next : (s : State) → KeptAt s → KeptAt (next g lit s)
  unfolding next
  kept_next s k = kept_step g ok lit s.saturated s.label s.active k (saturates g lit s (least_of g lit s (filter (is_counted g lit s) (edges g))))

  pub kept : (n : ℕ) → Kept g lit (after g lit n).saturated (after g lit n).label (after g lit n).active
  unfolding after
  kept zero = kept_start
  kept (suc n) = kept_next (after g lit n) (kept n)
