-- A detector that is not seen is at rest: alone in its cluster, not lit, without an exit and not active. Assumes nothing.
use Prim.Native.Nat.{ℕ, ◌+◌, ◌<◌, ◌≤◌}
use native.Mathlib.Omega.{arith}
use mathlib.Core.Path.{◌≡◌, refl, sym, ◌∙◌}
use mathlib.Core.List.{List, map}
use mathlib.Core.Bool.{Bool, true, false, cond, not, ◌&&◌}
use lib.Dec.{eqb}
use lib.ListN.{length, get_or, take}
use lib.Ieee.{Float, nan}
use borrow.Author.Tests.{eqb-true, eq-eqb, ne_eqb}
use Rattle.lists.specs.Lists.{below, any, odd, member}
use Rattle.lists.proofs.Truth.{clash, same_eqb, not_so, and_left, and_right, or_intro}
use Rattle.lists.proofs.Members.{member_below, any_at, get_d_any, get_d_below}
use Rattle.lists.proofs.Sums.{odd_some}
use Rattle.steps.specs.Graph.{Graph, Ends, boundary, inner, outer, edges, is_pair}
use Rattle.steps.specs.Growth.{State, one, is_odd, exits, is_open, count, is_counted, grown}
use Rattle.steps.specs.Laws.{Constant}
use Rattle.found.proofs.Labels.{name}
use Rattle.found.proofs.Rounds.{Kept, of_live}
use Rattle.forest.specs.Forest.{Down, labels}
use Rattle.forest.proofs.Forest.{labels_named}
use Rattle.adjacency.specs.Adjacent.{touches}
use Rattle.growth_state.specs.Rep.{lowest, Clusters, Seen, Calm, Used}
use Rattle.growth_state.proofs.Join.{lowest_cong, lowest_none}

module _ (g : Graph) (ok : Ends g) (lit sat : List Bool) (ls act : List ℕ) (k : Kept g lit sat ls act) (known : List Bool) (seen : List ℕ) (n : ℕ) (v : Seen g lit sat known seen n) where
  module _ (x : ℕ) (hx : x < g.detectors) (u : get_or known x false ≡ false) where
    -- no saturated edge ends at x
    apart : Constant g sat (λ z. eqb z x)
    apart e h se p =
        ne_eqb (inner g e) x (λ q. clash (v.inner_known e h se) (rw q u)) ∙ sym (ne_eqb (outer g e) x (λ q. clash (v.outer_known e h se p) (rw q u)))

    pub alone : name ls x ≡ x
    alone = eqb-true (name ls x) x (k.labels.linked x hx (λ z. eqb z x) apart ∙ same_eqb x)

    only_one : (y : ℕ) → y < g.detectors → name ls y ≡ x → y ≡ x
    only_one y hy q = eqb-true y x (sym (k.labels.linked y hy (λ z. eqb z x) apart) ∙ eq-eqb (name ls y) x q)

    pub even : is_odd g lit ls x ≡ false
    unfolding is_odd
    even = not_so (odd p (below g.detectors)) (λ t.
        let (y, m, w) = odd_some p (below g.detectors) t in
        let q = only_one y (member_below y g.detectors m) (eqb-true (name ls y) x (and_right (get_or lit y false) (eqb (name ls y) x) w)) in
        clash (v.lit_known x hx (rw (← q) (and_left (get_or lit y false) (eqb (name ls y) x) w))) u)
      where
        p : ℕ → Bool
        p z = get_or lit z false && eqb (name ls z) x

    pub inactive : member x act ≡ false
    inactive = not_so (member x act) (λ t. clash (of_live g ok lit sat ls x (sym (k.actives x) ∙ t)).0 even)

    pub unseen_cold : member (name ls x) act ≡ false
    unseen_cold = rw alone inactive

    pub no_exit : lowest (exits g lit sat ls x) (edges g) ≡ boundary
    unfolding below
    no_exit = lowest_cong (exits g lit sat ls x) (λ e. false) (edges g) (λ e m. not_so (exits g lit sat ls x e) (λ t.
        let h = member_below e (length g.edge_u) m in
        let s = and_left (get_or sat e false) (not (is_pair g e) && eqb (name ls (inner g e)) x) t in
        let q = only_one (inner g e) (ok.inside e h) (eqb-true (name ls (inner g e)) x (and_right (not (is_pair g e)) (eqb (name ls (inner g e)) x) (and_right (get_or sat e false) (not (is_pair g e) && eqb (name ls (inner g e)) x) t))) in
        clash (v.inner_known e h s) (rw q u))) ∙ lowest_none (length g.edge_u) 0

    -- it is its own parent
    pub own_parent : (parent : List ℕ) → Down g.detectors parent → labels g.detectors parent ≡ ls → get_or parent x 0 ≡ x
    own_parent parent t q =
        let y = get_or parent x 0 in
        let hy : y ≤ x = t.down x hx in
        let same : get_or ls y 0 ≡ get_or ls x 0 = rw q at ((labels_named t).same x hx) in
        let a : get_or ls x 0 ≡ x = get_d_any ls x 0 x (rw k.labels.sizes hx) ∙ alone in
        let b : get_or ls y 0 ≡ name ls y = get_d_any ls y 0 y (rw k.labels.sizes (omega arith)) in
        omega (arith, k.labels.low y (omega arith))

  -- ---- edges

  not_counted : (o p q : Bool) → p ≡ false → q ≡ false → not (eqb (cond o (one p + one q) 0) 0) ≡ false
  not_counted true p q f h = rw (f, h)
  not_counted false p q f h = refl

  and_not : (p q : Bool) → (p ≡ true → q ≡ false) → (p && q) ≡ false
  and_not true q h = h refl
  and_not false q h = refl

  module _ (s : State) (el : s.label ≡ ls) (ea : s.active ≡ act) where
    -- an edge of which no end is seen is not counted
    uncounted : (e : ℕ) → e < length g.edge_u → get_or known (inner g e) false ≡ false → (is_pair g e ≡ true → get_or known (outer g e) false ≡ false) → is_counted g lit s e ≡ false
    unfolding count
    uncounted e h ui uo = rw (el, ea) (not_counted (is_open g lit s e) (member (name ls (inner g e)) act) (is_pair g e && member (name ls (outer g e)) act)
        (unseen_cold (inner g e) (ok.inside e h) ui)
        (and_not (is_pair g e) (member (name ls (outer g e)) act) (λ p. unseen_cold (outer g e) (ok.paired e h p).1 (uo p))))

    -- so it does not grow
    pub calm_next : (step : Float) (known' : List Bool) → ((x : ℕ) → get_or known x false ≡ true → get_or known' x false ≡ true) → Calm g s.growth known → Calm g (map (grown g lit s step) (edges g)) known'
    unfolding grown
    calm_next step known' more c e h ui uo =
        let old : (x : ℕ) → get_or known' x false ≡ false → get_or known x false ≡ false = λ x f. not_so (get_or known x false) (λ t. clash (more x t) f) in
        let f = uncounted e h (old (inner g e) ui) (λ p. old (outer g e) (uo p)) in
        get_d_below (grown g lit s step) nan (length g.edge_u) e h ∙ rw f (c e h (old (inner g e) ui) (λ p. old (outer g e) (uo p)))

  -- ---- all tables

  unlisted : (x : ℕ) → x < g.detectors → member x (take n seen) ≡ false → get_or known x false ≡ false
  unlisted x h f = sym (v.listed x h) ∙ f

  abbrev by_seen : ℕ → Bool
  by_seen e = any (λ x. touches g.edge_u g.edge_v x e) (take n seen)

  inner_unseen : (e : ℕ) → e < length g.edge_u → by_seen e ≡ false → get_or known (inner g e) false ≡ false
  inner_unseen e h f = not_so (get_or known (inner g e) false) (λ t.
      clash (any_at (λ x. touches g.edge_u g.edge_v x e) (take n seen) (inner g e) (v.listed (inner g e) (ok.inside e h) ∙ t) (rw (same_eqb (inner g e)))) f)

  outer_unseen : (e : ℕ) → e < length g.edge_u → by_seen e ≡ false → is_pair g e ≡ true → get_or known (outer g e) false ≡ false
  outer_unseen e h f p = not_so (get_or known (outer g e) false) (λ t.
      clash (any_at (λ x. touches g.edge_u g.edge_v x e) (take n seen) (outer g e) (v.listed (outer g e) (ok.paired e h p).1 ∙ t)
      (or_intro (eqb (inner g e) (outer g e)) (is_pair g e && eqb (outer g e) (outer g e)) (rw (p, same_eqb (outer g e))))) f)

  -- whatever is not at rest belongs to a detector seen, or to an edge of one
  pub used_of : (growth : List Float) (parent : List ℕ) (odd : List Bool) (exit : List ℕ) (hot free : List Bool)
      → length lit ≡ g.detectors → length growth ≡ length g.edge_u → length parent ≡ g.detectors → labels g.detectors parent ≡ ls → Clusters g lit sat parent odd exit → Calm g growth known
      → length hot ≡ g.detectors → ((r : ℕ) → r < g.detectors → get_or hot r false ≡ member r act)
      → length free ≡ g.detectors → ((r : ℕ) → r < g.detectors → member r act ≡ false → get_or free r false ≡ false)
      → Used g.detectors g.edge_u g.edge_v (take n seen) lit growth sat known parent odd exit hot free
  used_of growth parent odd exit hot free ll lg lp q c calm lh hots lf frees = record {
    lits = ll;
    growths = lg;
    sats = k.sats;
    knowns = v.knowns;
    parents = lp;
    odds = c.odds;
    exits = c.exits;
    hots = lh;
    frees = lf;
    lit_rest = λ x h f. not_so (get_or lit x false) (λ t. clash (v.lit_known x h t) (unlisted x h f));
    known_rest = unlisted;
    parent_rest = λ x h f. own_parent x h (unlisted x h f) parent c.down q;
    odd_rest = λ x h f. c.odd_is x h (root x h f) ∙ rw q (even x h (unlisted x h f));
    exit_rest = λ x h f. c.exit_is x h (root x h f) ∙ rw q (no_exit x h (unlisted x h f));
    hot_rest = λ x h f. hots x h ∙ inactive x h (unlisted x h f);
    free_rest = λ x h f. frees x h (inactive x h (unlisted x h f));
    growth_rest = λ e h f. calm e h (inner_unseen e h f) (outer_unseen e h f);
    sat_rest = λ e h f. not_so (get_or sat e false) (λ t. clash (v.inner_known e h t) (inner_unseen e h f));
  }
    where
      root : (x : ℕ) → x < g.detectors → member x (take n seen) ≡ false → get_or (labels g.detectors parent) x 0 ≡ x
      root x h f = rw q (get_d_any ls x 0 x (rw k.labels.sizes h) ∙ alone x h (unlisted x h f))
