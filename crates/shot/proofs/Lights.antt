-- Clean tables and the first state. Assumes nothing.
use Prim.Native.Nat.{ℕ, zero, suc, ◌+◌, ◌<◌, ◌≤◌}
use native.Mathlib.Omega.{arith}
use mathlib.Core.Path.{◌≡◌, refl, sym, ap, ◌∙◌}
use mathlib.Core.List.{List, ◌∷◌, map}
use mathlib.Core.Bool.{Bool, true, false, ◌&&◌, ◌||◌, and-true, and_comm}
use lib.Dec.{eqb, ltb}
use lib.ListN.{length, get_or, take, replicate, length-map, length-replicate, get_or-replicate, get_or-eq_default}
use lib.Seq.{ext_get_or, get_or-take, length-take-le}
use lib.Ieee.{Float, nan}
use borrow.Author.Tests.{ltb-true, ltb-false}
use Rattle.lists.specs.Lists.{from, below, filter, member, falses}
use Rattle.steps.specs.Graph.{Graph, Ends, edges}
use Rattle.steps.specs.Growth.{is_odd, exits, start, after}
use Rattle.lists.proofs.Truth.{case-of, clash, and_right, eqb_comm}
use Rattle.lists.proofs.Members.{member_filter, member_below, below_member, length_below, get_d_below, below_at, at_member}
use Rattle.lists.proofs.Sums.{odd_cong, odd_hit}
use Rattle.found.proofs.Rounds.{Kept}
use Rattle.found.proofs.Kept.{kept}
use Rattle.forest.specs.Forest.{Down, labels}
use Rattle.forest.proofs.Forest.{labels_only}
use Rattle.bits.specs.Rows.{bit, bits_of, set_bits}
use Rattle.steps.specs.Call.{lit_of}
use Rattle.adjacency.specs.Adjacent.{weighted}
use Rattle.lists.proofs.Filters.{length_filter, filter_in}
use Rattle.growth_state.specs.Rep.{zero64, state_of, lowest, Rep}
use Rattle.growth_state.proofs.Join.{lowest_cong, lowest_none}
use Rattle.rest.specs.Clean.{Clean}
use Rattle.lit.specs.Lit.{Lighting, LitBy}
use Rattle.shot.specs.Begin.{Shot, Room}

-- ---- the first state

same-replicate {ℓ} : {A : Type ℓ} (v : A) (n a : ℕ) → replicate n v ≡ map (λ e. v) (from n a)
unfolding from
same-replicate v zero a = refl
same-replicate v (suc n) a = ap (λ l. v ∷ l) (same-replicate v n (suc a))

zeros {ℓ} : {A : Type ℓ} (v : A) (n : ℕ) → replicate n v ≡ map (λ e. v) (below n)
unfolding below
zeros v n = same-replicate v n 0

-- every place of an all-false table
pub off_at : (n x : ℕ) → get_or (replicate n false) x false ≡ false
off_at n x = case-of (ltb x n)
    (λ t. get_or-replicate n x false false (ltb-true x n t))
    (λ f. get_or-eq_default (replicate n false) false {n = x} (omega (arith, ltb-false x n f, length-replicate n false)))

falses_run : (p : ℕ → Bool) (n a : ℕ) → length (filter p (from n a)) + falses (map p (from n a)) ≡ n
unfolding filter falses from
falses_run p zero a = refl
falses_run p (suc n) a = let h = falses_run p n (suc a) in case-of (p a) (λ t. rw t (omega arith)) (λ f. rw f (omega arith))

falses_below : (p : ℕ → Bool) (n : ℕ) → length (filter p (below n)) + falses (map p (below n)) ≡ n
unfolding below
falses_below p n = falses_run p n 0

down_alone : (d : ℕ) → Down d (below d)
down_alone d = record { long = rw (length_below d) (omega arith); down = λ v h. omega (arith, below_at d v 0 h) }

labels_alone : (d : ℕ) → labels d (below d) ≡ below d
labels_alone d = labels_only (down_alone d) (record {
  names = length_below d;
  same = λ v h. ap (λ k. get_or (below d) k 0) (below_at d v 0 h);
  root = λ v h q. below_at d v 0 h;
})

-- ---- the lit detectors of a row

module _ {d : ℕ} {row lits : List ℕ} {l : ℕ} (r : Shot d row lits l) where
  pub lits_are : take l lits ≡ filter (bit row) (below d)
  unfolding set_bits
  lits_are = r.listed

  many_lits : l ≡ length (filter (bit row) (below d))
  many_lits = sym (length-take-le l lits r.few) ∙ ap length lits_are

  pub few_lits : l ≤ d
  few_lits = omega (arith, many_lits, length_filter (bit row) (below d), length_below d)

  pub lit_inside : (i : ℕ) → i < l → get_or lits i 0 < d
  lit_inside i k =
      let m : member (get_or lits i 0) (filter (bit row) (below d)) ≡ true
      = rw (← lits_are, ← get_or-take l lits i 0 k) (at_member (take l lits) i (rw (length-take-le l lits r.few) k)) in
      member_below (get_or lits i 0) d (and_right (bit row (get_or lits i 0)) (member (get_or lits i 0) (below d)) (sym (member_filter (bit row) (get_or lits i 0) (below d)) ∙ m))

  module _ {E : ℕ} {lit : List Bool} {growth : List Float} {sat known : List Bool} {seen active parent : List ℕ} {odd : List Bool} {exit : List ℕ} {hot free : List Bool}
      (cl : Clean d E lit growth sat known parent odd exit hot free) (rm : Room d seen active) where
    pub lighting : Lighting d lits l lit odd known hot active seen
    lighting = record {
      few = r.few;
      inside = lit_inside;
      lit_long = ap length cl.lits ∙ length-replicate d false;
      odd_long = ap length cl.odds ∙ length-replicate d false;
      known_long = ap length cl.knowns ∙ length-replicate d false;
      hot_long = ap length cl.hots ∙ length-replicate d false;
      actives = omega (arith, few_lits, rm.actives);
      seens = omega (arith, few_lits, rm.seens);
    }

    module _ {lit' odd' known' hot' : List Bool} {active' seen' : List ℕ} (lt : LitBy (take l lits) l lit odd known hot lit' odd' known' hot' active' seen')
        (l₁ : length lit' ≡ length lit) (l₂ : length odd' ≡ length odd) (l₃ : length known' ≡ length known) (l₄ : length hot' ≡ length hot)
        (l₅ : length active' ≡ length active) (l₆ : length seen' ≡ length seen) where
      on : (x : ℕ) → x < d → member x (take l lits) ≡ bit row x
      on x h = ap (member x) lits_are ∙ member_filter (bit row) x (below d) ∙ ap (λ b. bit row x && b) (below_member x d h) ∙ and-true (bit row x)

      at : (t t₀ : List Bool) → t₀ ≡ replicate d false → ((x : ℕ) → get_or t x false ≡ (get_or t₀ x false || member x (take l lits))) → (x : ℕ) → x < d → get_or t x false ≡ bit row x
      at t t₀ z q x h = q x ∙ ap (λ b. b || member x (take l lits)) (ap (λ (m : List Bool). get_or m x false) z ∙ off_at d x) ∙ on x h

      table : (t t₀ : List Bool) → t₀ ≡ replicate d false → length t ≡ length t₀ → ((x : ℕ) → get_or t x false ≡ (get_or t₀ x false || member x (take l lits))) → t ≡ map (bit row) (below d)
      table t t₀ z n q =
          let len : length t ≡ d = n ∙ ap length z ∙ length-replicate d false in
          ext_get_or false t (map (bit row) (below d)) (len ∙ sym (length-map (below d) (bit row) ∙ length_below d))
          (λ x h. at t t₀ z q x (omega arith) ∙ sym (get_d_below (bit row) false d x (omega arith)))

      pub lit_row : lit' ≡ lit_of d row
      unfolding bits_of
      lit_row = table lit' lit cl.lits l₁ lt.lit_is

      module _ {us vs : List ℕ} {ws : List Float} (ok : Ends (weighted d us vs ws)) (eq : E ≡ length us) where
        abbrev g : Graph
        g = weighted d us vs ws

        same_lit : (x : ℕ) → x < d → get_or lit' x false ≡ bit row x
        same_lit = at lit' lit cl.lits lt.lit_is

        actives_are : take l active' ≡ filter (λ x. get_or lit' x false) (below d)
        actives_are = lt.active_is ∙ lits_are ∙ filter_in (bit row) (λ x. get_or lit' x false) (below d) (λ x m. sym (same_lit x (member_below x d m)))

        labels_are : labels d parent ≡ below d
        labels_are = ap (labels d) cl.parents ∙ labels_alone d

        sat_is : sat ≡ map (λ e. false) (edges g)
        sat_is = cl.sats ∙ ap (λ k. replicate k false) eq ∙ zeros false (length us)

        state_is : start g lit' ≡ state_of d growth sat parent active' l
        unfolding start
        state_is = λ i. record {
          growth = sym (cl.growths ∙ ap (λ k. replicate k zero64) eq ∙ zeros zero64 (length us)) i;
          saturated = sym sat_is i;
          label = sym labels_are i;
          active = sym actives_are i;
        }

        dark : (e : ℕ) → get_or sat e false ≡ false
        dark e = ap (λ (m : List Bool). get_or m e false) cl.sats ∙ off_at E e

        odd_start : (r : ℕ) → r < d → get_or odd' r false ≡ is_odd g lit' (labels d parent) r
        unfolding is_odd
        odd_start r h = at odd' odd cl.odds lt.odd_is r h ∙ sym (same_lit r h) ∙ sym (
            odd_cong (λ x. get_or lit' x false && eqb (get_or (labels d parent) x x) r) (λ x. eqb r x && get_or lit' x false) (below d)
            (λ x m. rw (labels_are, below_at d x x (member_below x d m), eqb_comm x r) (and_comm (get_or lit' x false) (eqb r x)))
            ∙ odd_hit r (λ x. get_or lit' x false) d h)

        exit_start : (r : ℕ) → r < d → get_or exit r 0 ≡ lowest (exits g lit' sat (labels d parent) r) (edges g)
        unfolding below
        exit_start r h = ap (λ (m : List ℕ). get_or m r 0) cl.exits ∙ get_or-replicate d r 4294967295 0 h
            ∙ sym (lowest_cong (exits g lit' sat (labels d parent) r) (λ e. false) (edges g) (λ e m. rw (dark e)) ∙ lowest_none (length us) 0)

        kept_start : Kept g lit' (start g lit').saturated (start g lit').label (start g lit').active
        unfolding after
        kept_start = kept g ok lit' 0

        pub rep_start : Rep g lit' (start g lit') growth sat parent active' l odd' exit known' seen' l hot' free
        rep_start = record {
          state = state_is;
          lits = l₁ ∙ ap length cl.lits ∙ length-replicate d false;
          growths = ap length cl.growths ∙ length-replicate E zero64 ∙ eq;
          parents = ap length cl.parents ∙ length_below d;
          kept = kept_start;
          actives = omega (arith, few_lits, l₅, rm.actives);
          inside = λ i h. rw (← get_or-take l active' i 0 h, lt.active_is, get_or-take l lits i 0 h) (lit_inside i h);
          clusters = record {
            down = rw cl.parents (down_alone d);
            odds = l₂ ∙ ap length cl.odds ∙ length-replicate d false;
            exits = ap length cl.exits ∙ length-replicate d 4294967295;
            odd_is = λ r h q. odd_start r h;
            exit_is = λ r h q. exit_start r h;
          };
          seens = record {
            knowns = l₃ ∙ ap length cl.knowns ∙ length-replicate d false;
            room = omega (arith, l₆, rm.seens);
            many = rw (table known' known cl.knowns l₃ lt.known_is, many_lits) (falses_below (bit row) d);
            inside = λ i h. rw (← get_or-take l seen' i 0 h, lt.seen_is, get_or-take l lits i 0 h) (lit_inside i h);
            listed = λ x h. ap (member x) lt.seen_is ∙ on x h ∙ sym (at known' known cl.knowns lt.known_is x h);
            lit_known = λ x h t. at known' known cl.knowns lt.known_is x h ∙ sym (same_lit x h) ∙ t;
            inner_known = λ e h t. clash t (dark e);
            outer_known = λ e h t p. clash t (dark e);
          };
          calm = λ e h ui uo. ap (λ (m : List Float). get_or m e nan) cl.growths ∙ get_or-replicate E e zero64 nan (omega (arith, eq));
          rest = record {
            hots = l₄ ∙ ap length cl.hots ∙ length-replicate d false;
            hot_is = λ x h. at hot' hot cl.hots lt.hot_is x h ∙ sym (ap (member x) lt.active_is ∙ on x h);
            frees = ap length cl.frees ∙ length-replicate d false;
            none_free = λ x. ap (λ (m : List Bool). get_or m x false) cl.frees ∙ off_at d x;
          };
        }
