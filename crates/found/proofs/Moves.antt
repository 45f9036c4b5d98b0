-- A round with an active cluster, none of them stuck, saturates a new edge.
use Rattle.std.specs.Prelude.{Option, None, Some}
use Prim.Native.Nat.{ℕ, ◌+◌, ◌<◌}
use mathlib.Core.Path.{◌≡◌, refl, sym, ◌∙◌}
use mathlib.Core.List.{List, [], ◌∷◌}
use mathlib.Core.Bool.{Bool, true, false, cond, not, ◌&&◌, ◌||◌}
use mathlib.Core.Logic.{⊎_elim}
use lib.Dec.{eqb}
use lib.ListN.{length, get_or}
use lib.Ieee as Ieee
use borrow.Author.Tests.{eqb-true, eq-eqb}
use Rattle.lists.specs.Lists.{filter, any, member}
use Rattle.steps.specs.Graph.{Graph, inner, outer, edges, is_pair}
use Rattle.steps.specs.Growth.{State, Least, ended, held, onward, turn_of, turn, one, is_open, label_of, count, is_counted, leaves, first_stuck, step_of, least, least_of, tolerance, grown, saturates, next}
use Rattle.lists.proofs.Truth.{case-of, clash, and_left, and_right, or_cases, or_intro, same_eqb}
use Rattle.lists.proofs.Members.{member_filter, member_below, any_some, get_d_below, get_d_any}

module _ (g : Graph) (lit : List Bool) where
  -- ---- the first stuck cluster

  pub stuck_is : (s : State) (l : List ℕ) (d : ℕ) → first_stuck g lit s l ≡ Some d → (member d l ≡ true) × (any (leaves g lit s d) (edges g) ≡ false)
  unfolding first_stuck member
  stuck_is s [] d h = cc
  stuck_is s (a ∷ l) d h = case-of (any (leaves g lit s a) (edges g))
      (λ t. let (m, f) = stuck_is s l d (rw t at h) in (or_intro (eqb d a) (member d l) m, f))
      (λ f. let w = rw f at h in let e : a ≡ d = cc in (rw (eq-eqb d a (sym e)), rw (← e) f))

  none_stuck : (s : State) (a : ℕ) (l : List ℕ) → first_stuck g lit s (a ∷ l) ≡ None → any (leaves g lit s a) (edges g) ≡ true
  unfolding first_stuck
  none_stuck s a l h = case-of (any (leaves g lit s a) (edges g)) (λ t. t) (λ f. let w = rw f at h in cc)

  -- ---- what each turn tells

  ended_of : (l : List ℕ) (o : Option ℕ) → turn_of l o ≡ ended → l ≡ []
  unfolding turn_of
  ended_of [] o e = refl
  ended_of (a ∷ l) (Some d) e = cc
  ended_of (a ∷ l) None e = cc

  held_of : (l : List ℕ) (o : Option ℕ) (d : ℕ) → turn_of l o ≡ held d → o ≡ Some d
  unfolding turn_of
  held_of [] o d e = cc
  held_of (a ∷ l) (Some c) d e = cc
  held_of (a ∷ l) None d e = cc

  onward_of : (a : ℕ) (l : List ℕ) (o : Option ℕ) → turn_of (a ∷ l) o ≡ onward → o ≡ None
  unfolding turn_of
  onward_of a l (Some d) e = cc
  onward_of a l None e = refl

  pub turn_ended : (s : State) → turn g lit s ≡ ended → s.active ≡ []
  unfolding turn
  turn_ended s e = ended_of s.active (first_stuck g lit s s.active) e

  pub turn_held : (s : State) (d : ℕ) → turn g lit s ≡ held d → first_stuck g lit s s.active ≡ Some d
  unfolding turn
  turn_held s d e = held_of s.active (first_stuck g lit s s.active) d e

  turn_onward : (s : State) (l : List ℕ) → turn_of l (first_stuck g lit s l) ≡ onward → (a : ℕ) × (member a l ≡ true) × (any (leaves g lit s a) (edges g) ≡ true)
  unfolding turn_of member
  turn_onward s [] e = cc
  turn_onward s (a ∷ l) e = (a, rw (same_eqb a), none_stuck s a l (onward_of a l (first_stuck g lit s (a ∷ l)) e))

  -- ---- the edge of the least

  least_in_lem : (s : State) (es ds : List ℕ) (b : Least) → member b.edge es ≡ true → ((e : ℕ) → member e ds ≡ true → member e es ≡ true)
      → member (least g lit s b ds).edge es ≡ true
  unfolding least member
  least_in_lem s es [] b m h = m
  least_in_lem s es (e ∷ ds) b m h = least_in_lem s es ds (cond (Ieee.lt (step_of g lit s e) b.step) (record { edge = e; step = step_of g lit s e }) b)
      (pick (Ieee.lt (step_of g lit s e) b.step)) (λ a k. h a (or_intro (eqb a e) (member a ds) k))
    where
      pick : (t : Bool) → member (cond {A = Least} t (record { edge = e; step = step_of g lit s e }) b).edge es ≡ true
      pick true = h e (rw (same_eqb e))
      pick false = m

  pub least_of_in : (s : State) (es : List ℕ) (e : ℕ) → member e es ≡ true → member (least_of g lit s es).edge es ≡ true
  unfolding least_of member
  least_of_in s [] e m = clash m refl
  least_of_in s (a ∷ es) e m = least_in_lem s (a ∷ es) (a ∷ es) (record { edge = a; step = Ieee.inf false }) (rw (same_eqb a)) (λ a k. k)

  -- ---- counted edges

  counted_open : (s : State) (e : ℕ) → is_counted g lit s e ≡ true → get_or s.saturated e false ≡ false
  unfolding count
  counted_open s e h = case-of (get_or s.saturated e false) (λ t. clash (rw t at h) refl) (λ f. f)

  one_sum : (p q : Bool) → (p || q) ≡ true → not (eqb (one p + one q) 0) ≡ true
  one_sum true true h = refl
  one_sum true false h = refl
  one_sum false true h = refl
  one_sum false false h = h

  leaves_counted : (s : State) (a e : ℕ) → member a s.active ≡ true → leaves g lit s a e ≡ true → is_counted g lit s e ≡ true
  unfolding count
  leaves_counted s a e m h =
      let i = label_of g lit s (inner g e) in
      let o = label_of g lit s (outer g e) in
      rw (and_left (is_open g lit s e) (eqb i a || (is_pair g e && eqb o a)) h)
      (one_sum (member i s.active) (is_pair g e && member o s.active)
      (⊎_elim
      (λ t. rw (eqb-true i a t, m))
      (λ t. or_intro (member i s.active) (is_pair g e && member o s.active)
      (rw (and_left (is_pair g e) (eqb o a) t, eqb-true o a (and_right (is_pair g e) (eqb o a) t)) m))
      (or_cases (eqb i a) (is_pair g e && eqb o a) (and_right (is_open g lit s e) (eqb i a || (is_pair g e && eqb o a)) h))))

  -- ---- the new edge

  abbrev pub New : State → State → Type 0
  New s r = (e : ℕ) × (e < length g.edge_u) × (get_or s.saturated e true ≡ false) × (get_or r.saturated e false ≡ true)

  new_edge : (s : State) (e : ℕ) → length s.saturated ≡ length g.edge_u → member e (filter (is_counted g lit s) (edges g)) ≡ true → New s (next g lit s)
  unfolding next saturates
  new_edge s e z m =
      let es = filter (is_counted g lit s) (edges g) in
      let b = least_of g lit s es in
      let u = sym (member_filter (is_counted g lit s) b.edge (edges g)) ∙ least_of_in s es e m in
      let c = and_left (is_counted g lit s b.edge) (member b.edge (edges g)) u in
      let h = member_below b.edge (length g.edge_u) (and_right (is_counted g lit s b.edge) (member b.edge (edges g)) u) in (
        b.edge,
        h,
        get_d_any s.saturated b.edge true false (rw z h) ∙ counted_open s b.edge c,
        get_d_below (λ e. get_or s.saturated e false || saturates g lit s b e) false (length g.edge_u) b.edge h
            ∙ or_intro (get_or s.saturated b.edge false) (saturates g lit s b b.edge) (rw (c, same_eqb b.edge)),
      )

  saturates_counted : (s : State) (b : Least) (e : ℕ) → saturates g lit s b e ≡ true → is_counted g lit s e ≡ true
  unfolding saturates
  saturates_counted s b e t = and_left (is_counted g lit s e) (eqb e b.edge || Ieee.le (get_or g.edge_weight e Ieee.nan) (Ieee.add Ieee.binary64 (grown g lit s b.step e) tolerance)) t

  -- only counted edges are new
  pub new_counted : (s : State) (e : ℕ) → length s.saturated ≡ length g.edge_u → e < length g.edge_u
      → get_or s.saturated e true ≡ false → get_or (next g lit s).saturated e false ≡ true → is_counted g lit s e ≡ true
  unfolding next
  new_counted s e z h p q =
      let b = least_of g lit s (filter (is_counted g lit s) (edges g)) in
      ⊎_elim
      (λ (t : get_or s.saturated e false ≡ true). clash t (get_d_any s.saturated e false true (rw z h) ∙ p))
      (λ (t : saturates g lit s b e ≡ true). saturates_counted s b e t)
      (or_cases (get_or s.saturated e false) (saturates g lit s b e) (sym (get_d_below (λ e. get_or s.saturated e false || saturates g lit s b e) false (length g.edge_u) e h) ∙ q))

  pub progress : (s : State) → length s.saturated ≡ length g.edge_u → turn g lit s ≡ onward → New s (next g lit s)
  unfolding turn
  progress s z h =
      let (a, m, u) = turn_onward s s.active h in
      let (e, i, t) = any_some (leaves g lit s a) (edges g) u in
      new_edge s e z (member_filter (is_counted g lit s) e (edges g) ∙ rw (leaves_counted s a e m t, i))
