-- What the passes leave, in the words of `steps`. Assumes nothing.
use Prim.Native.Nat.{ℕ, ◌<◌, ◌≤◌}
use native.Mathlib.Omega.{arith}
use mathlib.Core.Path.{◌≡◌, refl, sym, ap, ◌∙◌}
use mathlib.Core.List.{List, map}
use mathlib.Core.Bool.{Bool, true, false, ◌&&◌, ◌||◌}
use mathlib.Core.Logic.{⊎_elim}
use lib.Dec.{eqb}
use lib.ListN.{length, get_or, take}
use lib.Seq.{get_or-take, length-take-le}
use lib.Ieee.{Float}
use borrow.Author.Tests.{eqb-true, eq-eqb}
use Rattle.lists.specs.Lists.{any, member}
use Rattle.lists.proofs.Truth.{case-of, clash, not_so, iff_eq, and_left, and_right, or_cases, or_intro}
use Rattle.lists.proofs.Members.{at_member, member_filter, member_below, below_member, any_some, any_at, get_d_any}
use Rattle.lists.proofs.Singles.{Single, single_filter}
use Rattle.lists.proofs.Counts.{in_range}
use Rattle.steps.specs.Graph.{Graph, Ends, inner, outer, edges, is_pair}
use Rattle.steps.specs.Growth.{State, label_of, is_open, count, leaves}
use Rattle.steps.specs.Laws.{counted}
use Rattle.found.proofs.Rounds.{Kept}
use Rattle.forest.specs.Forest.{Down, Flat, labels}
use Rattle.forest.proofs.Forest.{label_in, length_labels}
use Rattle.adjacency.specs.Adjacent.{star, touches}
use Rattle.growth_state.specs.Rep.{state_of, Seen, Rest}
use Rattle.growth_state.proofs.Laws.{member_take}
use Rattle.growth_state.proofs.Unseen.{alone, own_parent, unseen_cold}
use Rattle.counting.specs.Counting.{warm, is_free, taken_in, counts_in, Fronted, Counted}
use Rattle.lists.proofs.Pigeonhole.{covers_single}
use Rattle.counting.proofs.Counts.{star_of, star_to, end_of, inner_touch, outer_touch, edges_are, once, counts_are, few}

module _ (g : Graph) (ok : Ends g) (lit : List Bool) (growth : List Float) (sat : List Bool) (parent active : List ℕ) (a : ℕ) where
  abbrev d : ℕ
  d = g.detectors

  abbrev us : List ℕ
  us = g.edge_u

  abbrev vs : List ℕ
  vs = g.edge_v

  abbrev ls : List ℕ
  ls = labels d parent

  abbrev pub now : State
  now = state_of d growth sat parent active a

  -- the cluster of x is active
  abbrev pub is_live : ℕ → Bool
  is_live x = member (label_of g lit now x) (take a active)

  -- ---- the ends of an edge that leaves a cluster

  end_leaves : (q e x : ℕ) → label_of g lit now x ≡ q → is_free sat e ≡ true → touches us vs x e ≡ true → leaves g lit now q e ≡ true
  end_leaves q e x l o t = rw o (⊎_elim
      (λ (i : inner g e ≡ x). rw (i, eq-eqb (label_of g lit now x) q l))
      (λ (i : (is_pair g e ≡ true) × (outer g e ≡ x)). or_intro (eqb (label_of g lit now (inner g e)) q) (is_pair g e && eqb (label_of g lit now (outer g e)) q)
      (rw (i.0, i.1, eq-eqb (label_of g lit now x) q l)))
      (end_of g e x t))

  leaves_end : (q e : ℕ) → e < length us → leaves g lit now q e ≡ true → (x : ℕ) × (x < d) × (touches us vs x e ≡ true) × (label_of g lit now x ≡ q)
  leaves_end q e h u = ⊎_elim
      (λ (y : eqb (label_of g lit now (inner g e)) q ≡ true). (inner g e, ok.inside e h, inner_touch g e, eqb-true (label_of g lit now (inner g e)) q y))
      (λ (y : (is_pair g e && eqb (label_of g lit now (outer g e)) q) ≡ true).
      let p = and_left (is_pair g e) (eqb (label_of g lit now (outer g e)) q) y in
      (outer g e, (ok.paired e h p).1, outer_touch g e p, eqb-true (label_of g lit now (outer g e)) q (and_right (is_pair g e) (eqb (label_of g lit now (outer g e)) q) y)))
      (or_cases (eqb (label_of g lit now (inner g e)) q) (is_pair g e && eqb (label_of g lit now (outer g e)) q)
      (and_right (is_open g lit now e) (eqb (label_of g lit now (inner g e)) q || (is_pair g e && eqb (label_of g lit now (outer g e)) q)) u))

  module _ (known : List Bool) (seen : List ℕ) (n : ℕ) (k : Kept g lit sat ls (take a active)) (v : Seen g lit sat known seen n) where
    live_known : (x : ℕ) → x < d → is_live x ≡ true → get_or known x false ≡ true
    live_known x hx t = case-of (get_or known x false) (λ q. q) (λ u. clash t (unseen_cold g ok lit sat ls (take a active) k known seen n v x hx u))

    pub seen_single : Single (take n seen)
    seen_single = covers_single (take n seen) known
        (λ x t. v.listed x (rw (← v.knowns) (in_range known x t)) ∙ t)
        (omega (arith, length-take-le n seen (omega (arith, v.many, v.room)), v.many, v.knowns))

    module _ (down : Down d parent) (hot free : List Bool) (r : Rest g active a hot free) where
      label_is : (x : ℕ) → x < d → get_or ls x 0 ≡ label_of g lit now x
      label_is x hx = get_d_any ls x 0 x (rw (length_labels d parent) hx)

      warm_is : (x : ℕ) → x < d → warm d parent hot x ≡ is_live x
      warm_is x hx = r.hot_is (get_or ls x 0) (label_in down x hx) ∙ ap (λ z. member z (take a active)) (label_is x hx)

      -- one that is not seen is alone, so it points at its label
      flat_before : (x : ℕ) → x < d → get_or known x false ≡ false → Flat d parent x
      flat_before x hx u = own_parent g ok lit sat ls (take a active) k known seen n v x hx u parent down refl
          ∙ sym (label_is x hx ∙ alone g ok lit sat ls (take a active) k known seen n v x hx u)

      module _ (parent' front' : List ℕ) (f : ℕ) (fr : Fronted d seen n parent hot parent' front' f) where
        pub flat_all : (x : ℕ) → x < d → Flat d parent' x
        flat_all x hx = case-of (get_or known x false) (λ t. fr.flat x hx (v.listed x hx ∙ t)) (λ u. fr.still x hx (flat_before x hx u))

        root_is : (x : ℕ) → x < d → get_or parent' x 0 ≡ get_or ls x 0
        root_is x hx = flat_all x hx ∙ ap (λ (l : List ℕ). get_or l x 0) fr.kept

        pub root_live : (x : ℕ) → x < d → get_or hot (get_or parent' x 0) false ≡ is_live x
        root_live x hx = ap (λ z. get_or hot z false) (root_is x hx) ∙ warm_is x hx

        -- ---- the front

        in_front : (x : ℕ) → x < d → is_live x ≡ true → member x (take f front') ≡ true
        in_front x hx t = rw (fr.front_is, member_filter (warm d parent hot) x (take n seen), warm_is x hx, t) (v.listed x hx ∙ live_known x hx t)

        of_front : (x : ℕ) → member x (take f front') ≡ true → (x < d) × (is_live x ≡ true)
        of_front x m =
            let u = sym (member_filter (warm d parent hot) x (take n seen)) ∙ (rw fr.front_is at m) in
            let hx = member_take (λ x. x < d) seen n v.inside x (and_right (warm d parent hot x) (member x (take n seen)) u) in
            (hx, sym (warm_is x hx) ∙ and_left (warm d parent hot x) (member x (take n seen)) u)

        -- each place of the front is a detector
        pub front_inside : f ≤ length front' → (i : ℕ) → i < f → get_or front' i 0 < d
        front_inside le i hi = (of_front (get_or front' i 0) (rw (← get_or-take f front' i 0 hi) (at_member (take f front') i (rw (length-take-le f front' le) hi)))).0

        pub front_single : Single (take f front')
        front_single = rw fr.front_is (single_filter (warm d parent hot) (take n seen) seen_single)

        -- ---- the counted edges

        abbrev listed : List ℕ
        listed = taken_in d us vs parent' sat hot (take f front')

        pub counted_in : (e : ℕ) → member e listed ≡ member e (counted g lit now)
        counted_in = edges_are g ok lit now parent' hot root_live (take f front') (λ x m. (of_front x m).1) in_front

        pub counted_once : Single listed
        counted_once = once g ok lit now parent' hot root_live (take f front') front_single (λ x m. (of_front x m).1)

        pub counts_in_lem : counts_in d us vs parent' sat hot (take f front') ≡ map (count g lit now) listed
        counts_in_lem = counts_are g ok lit now parent' hot root_live (take f front') (λ x m. (of_front x m).1)

        pub counted_few : length listed ≤ length us
        counted_few = few g ok lit now parent' hot root_live (take f front') (λ x m. (of_front x m).1) in_front front_single

        -- ---- free clusters

        module _ (free' : List Bool) (touched' cnt' : List ℕ) (m : ℕ) (c : Counted d us vs front' f parent' sat hot free free' touched' cnt' m) where
          abbrev st : ℕ → List ℕ
          st = star us vs

          -- x is of the cluster q and has an open edge
          abbrev opens : ℕ → ℕ → Bool
          opens q x = eqb (get_or parent' x 0) q && any (is_free sat) (st x)

          free_at : (q : ℕ) → q < d → get_or free' q false ≡ any (opens q) (take f front')
          free_at q hq = c.frees q hq ∙ ap (λ t. t || any (opens q) (take f front')) (r.none_free q)

          label_of_lem : (q x : ℕ) → x < d → opens q x ≡ true → label_of g lit now x ≡ q
          label_of_lem q x hx u = sym (root_is x hx ∙ label_is x hx) ∙ eqb-true (get_or parent' x 0) q (and_left (eqb (get_or parent' x 0) q) (any (is_free sat) (st x)) u)

          pub free_is : (q : ℕ) → q < d → member q (take a active) ≡ true → get_or free' q false ≡ any (leaves g lit now q) (edges g)
          free_is q hq act = free_at q hq ∙ iff_eq (any (opens q) (take f front')) (any (leaves g lit now q) (edges g))
              (λ t. let (x, m, u) = any_some (opens q) (take f front') t in
              let (e, w, o) = any_some (is_free sat) (st x) (and_right (eqb (get_or parent' x 0) q) (any (is_free sat) (st x)) u) in
              let (z, h) = star_of g e x w in
              any_at (leaves g lit now q) (edges g) e (below_member e (length us) h) (end_leaves q e x (label_of_lem q x (of_front x m).0 u) o z))
              (λ t. let (e, m, u) = any_some (leaves g lit now q) (edges g) t in
              let h = member_below e (length us) m in
              let (x, hx, z, l) = leaves_end q e h u in
              let o : is_free sat e ≡ true = and_left (is_open g lit now e) (eqb (label_of g lit now (inner g e)) q || (is_pair g e && eqb (label_of g lit now (outer g e)) q)) u in
              any_at (opens q) (take f front') x (in_front x hx (rw l act))
              (rw (eq-eqb (get_or parent' x 0) q (root_is x hx ∙ label_is x hx ∙ l), any_at (is_free sat) (st x) e (star_to g e x z h) o)))

          pub free_only : (q : ℕ) → q < d → member q (take a active) ≡ false → get_or free' q false ≡ false
          free_only q hq act = free_at q hq ∙ not_so (any (opens q) (take f front')) (λ t.
              let (x, m, u) = any_some (opens q) (take f front') t in
              let (hx, l) = of_front x m in
              clash (rw (label_of_lem q x hx u) at l) act)
