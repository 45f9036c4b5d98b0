-- The rounds of growth. Assumes nothing.
use Rattle.std.specs.Prelude.{Option, None, Some}
use Prim.Native.Nat.{ℕ, zero, suc, ◌+◌, ◌-◌, ◌<◌, ◌≤◌}
use native.Mathlib.Omega.{arith}
use native.Mathlib.Nat.{not-suc-le-zero}
use mathlib.Core.Path.{◌≡◌, refl, sym, ap, ◌∙◌, subst}
use mathlib.Core.List.{List, [], ◌∷◌}
use mathlib.Core.Bool.{Bool, false, ◌||◌}
use lib.ListN.{length, get_or, take, length-map}
use lib.Ieee.{Float}
use borrow.Author.Tests.{ne_eqb}
use Rattle.lists.specs.Lists.{filter}
use Rattle.steps.specs.Graph.{Graph, Ends, edges}
use Rattle.steps.specs.Growth.{State, is_counted, least_of, saturates, first_stuck, next, start, ended, held, onward, turn_of, turn, stuck, settled, grow, growth}
use Rattle.lists.proofs.Members.{length_below, get_d_below}
use Rattle.lists.proofs.Counts.{trues, trues_all, Below, trues_lt, in_range}
use Rattle.found.proofs.Rounds.{Kept}
use Rattle.found.proofs.Moves.{progress, stuck_is}
use Rattle.growth_laws.specs.Laws.{Fit}
use Rattle.growth_laws.proofs.Rooms.{Rooms, rooms_next}
use Rattle.growth_state.specs.Rep.{state_of, Rep}
use Rattle.growth_state.proofs.Laws.{member_take}
use Rattle.growth_state.proofs.Unseen.{used_of}
use Rattle.forest.specs.Forest.{labels}
use Rattle.adjacency.specs.Adjacent.{weighted}
use Rattle.growth_round.specs.Round.{Stepped}
use Rattle.growth_round.specs.Grow.{Grew}

-- the state is the one that the tables hold
pub rep_own : {g : Graph} {lit : List Bool} {s : State} {growth : List Float} {sat : List Bool} {parent active : List ℕ} {a : ℕ} {odd : List Bool} {exit : List ℕ} {known : List Bool} {seen : List ℕ} {n : ℕ}
    {hot free : List Bool} → Rep g lit s growth sat parent active a odd exit known seen n hot free
    → Rep g lit (state_of g.detectors growth sat parent active a) growth sat parent active a odd exit known seen n hot free
rep_own {g} {lit} r = record {
  state = refl;
  lits = r.lits;
  growths = r.growths;
  parents = r.parents;
  kept = subst (λ (z : State). Kept g lit z.saturated z.label z.active) r.state r.kept;
  actives = r.actives;
  inside = r.inside;
  clusters = r.clusters;
  seens = r.seens;
  calm = r.calm;
  rest = r.rest;
}

-- ---- one step of growth

module _ (g : Graph) (lit : List Bool) where
  turn_none : (s : State) → s.active ≡ [] → turn g lit s ≡ ended
  unfolding turn turn_of
  turn_none s q = ap (λ (l : List ℕ). turn_of l (first_stuck g lit s l)) q

  turn_stuck : (s : State) (a : ℕ) (l : List ℕ) (d : ℕ) → s.active ≡ a ∷ l → first_stuck g lit s (a ∷ l) ≡ Some d → turn g lit s ≡ held d
  unfolding turn turn_of
  turn_stuck s a l d q h = ap (λ (l : List ℕ). turn_of l (first_stuck g lit s l)) q ∙ ap (turn_of (a ∷ l)) h

  turn_on : (s : State) (a : ℕ) (l : List ℕ) → s.active ≡ a ∷ l → first_stuck g lit s (a ∷ l) ≡ None → turn g lit s ≡ onward
  unfolding turn turn_of
  turn_on s a l q h = ap (λ (l : List ℕ). turn_of l (first_stuck g lit s l)) q ∙ ap (turn_of (a ∷ l)) h

  pub grow_none : (fuel n : ℕ) (s : State) → s.active ≡ [] → grow g lit (suc fuel) n s (turn g lit s) ≡ settled n s
  unfolding grow
  grow_none fuel n s q = ap (grow g lit (suc fuel) n s) (turn_none s q)

  grow_stuck : (fuel n : ℕ) (s : State) (a : ℕ) (l : List ℕ) (d : ℕ) → s.active ≡ a ∷ l → first_stuck g lit s (a ∷ l) ≡ Some d → grow g lit (suc fuel) n s (turn g lit s) ≡ stuck n d
  unfolding grow
  grow_stuck fuel n s a l d q h = ap (grow g lit (suc fuel) n s) (turn_stuck s a l d q h)

  grow_on : (fuel n : ℕ) (s : State) (a : ℕ) (l : List ℕ) → s.active ≡ a ∷ l → first_stuck g lit s (a ∷ l) ≡ None
      → grow g lit (suc fuel) n s (turn g lit s) ≡ grow g lit fuel (suc n) (next g lit s) (turn g lit (next g lit s))
  unfolding grow
  grow_on fuel n s a l q h = ap (grow g lit (suc fuel) n s) (turn_on s a l q h)

  -- saturated edges stay so
  stays : (s : State) → length s.saturated ≡ length g.edge_u → Below s.saturated (next g lit s).saturated
  unfolding next
  stays s z i t =
      let f : ℕ → Bool = λ e. get_or s.saturated e false || saturates g lit s (least_of g lit s (filter (is_counted g lit s) (edges g))) e in
      get_d_below f false (length g.edge_u) i (omega (arith, in_range s.saturated i t)) ∙ rw t

  next_length : (s : State) → length (next g lit s).saturated ≡ length g.edge_u
  unfolding next
  next_length s = length-map (edges g) (λ e. get_or s.saturated e false || saturates g lit s (least_of g lit s (filter (is_counted g lit s) (edges g))) e) ∙ length_below (length g.edge_u)

  more_trues : (s : State) (a : ℕ) (l : List ℕ) → length s.saturated ≡ length g.edge_u → s.active ≡ a ∷ l → first_stuck g lit s (a ∷ l) ≡ None
      → trues s.saturated < trues (next g lit s).saturated
  more_trues s a l z q h =
      let (e, k, p, r) = progress g lit s z (turn_on s a l q h) in
      trues_lt s.saturated (next g lit s).saturated (z ∙ sym (next_length s)) (stays s z) e p r

-- ---- the answer of a round

cons_of : (l : List ℕ) (a : ℕ) → 0 < a → a ≤ length l → (x : ℕ) × (m : List ℕ) × (take a l ≡ x ∷ m)
cons_of l zero h k = absurd (not-suc-le-zero h)
cons_of [] (suc a) h k = absurd (not-suc-le-zero k)
cons_of (x ∷ l) (suc a) h k = (x, take a l, refl)

module _ {d : ℕ} {us vs : List ℕ} {ws : List Float} (ok : Ends (weighted d us vs ws)) {lit : List Bool} {growth₀ : List Float} {sat : List Bool} {parent active : List ℕ} {a : ℕ} {odd : List Bool} {exit : List ℕ}
    {known : List Bool} {seen : List ℕ} {n : ℕ} {hot free : List Bool}
    (rep : Rep (weighted d us vs ws) lit (state_of d growth₀ sat parent active a) growth₀ sat parent active a odd exit known seen n hot free)
    (rounds : ℕ) (few : rounds ≤ trues sat) (so_far : grow (weighted d us vs ws) lit (suc (length us - rounds)) rounds (state_of d growth₀ sat parent active a) (turn (weighted d us vs ws) lit (state_of d growth₀ sat parent active a)) ≡ growth (weighted d us vs ws) lit) where
  abbrev g : Graph
  g = weighted d us vs ws

  abbrev s : State
  s = state_of d growth₀ sat parent active a

  pub rounds_few : rounds ≤ length us
  rounds_few = omega (arith, few, trues_all sat, rep.kept.sats)

  pub settles : a ≡ 0 → Grew g lit 4294967295 rounds growth₀ sat parent active a odd exit known seen n hot free
  settles z = record {
    answer = sym so_far ∙ grow_none g lit (length us - rounds) rounds s (ap (λ k. take k active) z);
    few = rounds_few;
    seens = rep.seens;
    settles = λ q. rep;
    used = used_of g ok lit sat (labels d parent) (take a active) rep.kept known seen n rep.seens growth₀ parent odd exit hot free
        rep.lits rep.growths rep.parents refl rep.clusters rep.calm rep.rest.hots rep.rest.hot_is rep.rest.frees (λ r h f. rep.rest.none_free r);
  }

  module _ (some-active : 0 < a) {stuck' : Option ℕ} {growth₁ : List Float} {sat₁ : List Bool} {parent₁ active₁ : List ℕ} {a₁ : ℕ} {odd₁ : List Bool} {exit₁ : List ℕ}
      {known₁ : List Bool} {seen₁ : List ℕ} {n₁ : ℕ} {hot₁ free₁ : List Bool}
      (st : Stepped g lit s stuck' growth₁ sat₁ parent₁ active₁ a₁ odd₁ exit₁ known₁ seen₁ n₁ hot₁ free₁) where
    -- a cluster that is named is one of the active ones
    pub not_boundary : (k : ℕ) → stuck' ≡ Some k → k ≡ 4294967295 → ⊥
    not_boundary k z e = omega (arith, member_take (λ x. x < d) active a rep.inside k (stuck_is g lit s (take a active) k (sym st.stuck_is ∙ z)).0, ok.small)

    pub gets_stuck : (k : ℕ) → stuck' ≡ Some k → Grew g lit k rounds growth₁ sat₁ parent₁ active₁ a₁ odd₁ exit₁ known₁ seen₁ n₁ hot₁ free₁
    gets_stuck k z =
        let (x, l, q) = cons_of active a some-active rep.actives in
        let h = st.held k z in
        record {
          answer = sym so_far ∙ grow_stuck g lit (length us - rounds) rounds s x l k q (ap (first_stuck g lit s) (sym q) ∙ sym st.stuck_is ∙ z) ∙ sym (rw (ne_eqb k 4294967295 (not_boundary k z)));
          few = rounds_few;
          seens = h.seens;
          settles = λ y. absurd (not_boundary k z y);
          used = h.used;
        }

    module _ (free_all : stuck' ≡ None) where
      none_stuck : first_stuck g lit s (take a active) ≡ None
      none_stuck = sym st.stuck_is ∙ free_all

      pub rep_on : Rep g lit (state_of d growth₁ sat₁ parent₁ active₁ a₁) growth₁ sat₁ parent₁ active₁ a₁ odd₁ exit₁ known₁ seen₁ n₁ hot₁ free₁
      rep_on = rep_own (st.moved free_all)

      pub rooms_on : Fit g → Rooms g s → Rooms g (state_of d growth₁ sat₁ parent₁ active₁ a₁)
      rooms_on fit k = subst (Rooms g) (st.moved free_all).state (rooms_next g fit lit s k)

      sat_next : (next g lit s).saturated ≡ sat₁
      sat_next = ap (λ (z : State). z.saturated) (st.moved free_all).state

      pub trues_on : trues sat < trues sat₁
      trues_on =
          let (x, l, q) = cons_of active a some-active rep.actives in
          rw sat_next at (more_trues g lit s x l rep.kept.sats q (ap (first_stuck g lit s) (sym q) ∙ none_stuck))

      pub trues_most : trues sat₁ ≤ length us
      trues_most = omega (arith, trues_all sat₁, ap length sat_next, next_length g lit s)

      pub so_on : grow g lit (suc (length us - (rounds + 1))) (rounds + 1) (state_of d growth₁ sat₁ parent₁ active₁ a₁) (turn g lit (state_of d growth₁ sat₁ parent₁ active₁ a₁)) ≡ growth g lit
      so_on =
          let (x, l, q) = cons_of active a some-active rep.actives in
          let f : suc (length us - (rounds + 1)) ≡ length us - rounds = omega (arith, few, trues_on, trues_most) in
          let r : rounds + 1 ≡ suc rounds = omega arith in
          rw (f, r, ← (st.moved free_all).state) (sym (grow_on g lit (length us - rounds) rounds s x l q (ap (first_stuck g lit s) (sym q) ∙ none_stuck)) ∙ so_far)

-- before the first round
pub starts : (g : Graph) (lit : List Bool) (s : State) → start g lit ≡ s → grow g lit (suc (length g.edge_u - 0)) 0 s (turn g lit s) ≡ growth g lit
unfolding growth
starts g lit s q = let z : length g.edge_u - 0 ≡ length g.edge_u = omega arith in rw (z, ← q)
