-- Peeling all clusters that hold a lit detector: the list is fit and explains the shot.
use Prim.Native.Nat.{ℕ, ◌<◌}
use native.Mathlib.Omega.{arith}
use mathlib.Core.Path.{◌≡◌, refl, sym, ◌∙◌}
use mathlib.Core.List.{List, [], ◌∷◌, map}
use mathlib.Core.Bool.{Bool, true, false}
use mathlib.Core.Logic.{⊎_elim}
use lib.Dec.{eqb}
use lib.ListN.{length, get_or}
use borrow.Author.Tests.{ne_eqb}
use Rattle.lists.specs.Lists.{below, filter, odd, member}
use Rattle.steps.specs.Graph.{Graph, Ends, flipped}
use Rattle.steps.specs.Peeling.{Peeled, peel, peel_all, clusters, peeled}
use Rattle.steps.specs.Marker.{fit}
use Rattle.steps.specs.Found.{Explains}
use Rattle.lists.proofs.Truth.{case-of, clash, and_right, or_cases, or_intro, same_eqb, not_so, xor_false, xor_is}
use Rattle.lists.proofs.Members.{member_filter, member_firsts, member_map, member_unmap, member_below, below_member}
use Rattle.lists.proofs.Singles.{Single, single_firsts}
use Rattle.found.proofs.Labels.{name}
use Rattle.found.proofs.Clusters.{Still, Peeling, peels}

module _ (g : Graph) (ok : Ends g) (lit sat : List Bool) (ls : List ℕ) (st : Still g lit sat ls) (z : length lit ≡ g.detectors) where
  -- ---- the clusters

  pub cluster_in : (a : ℕ) → member a (clusters g sat ls lit) ≡ true → (a < g.detectors) × (name ls a ≡ a)
  unfolding clusters
  cluster_in a m =
      let lits = filter (λ d. get_or lit d false) (below g.detectors) in
      let (d, n, e) = member_unmap (name ls) a lits (sym (member_firsts a (map (name ls) lits)) ∙ m) in
      let l = member_below d g.detectors (and_right (get_or lit d false) (member d (below g.detectors)) (sym (member_filter (λ d. get_or lit d false) d (below g.detectors)) ∙ n)) in
      rw (← e) (omega (arith, st.labels.low d l), st.labels.root d l)

  in_cluster : (d : ℕ) → d < g.detectors → get_or lit d false ≡ true → member (name ls d) (clusters g sat ls lit) ≡ true
  unfolding clusters
  in_cluster d l t =
      let lits = filter (λ d. get_or lit d false) (below g.detectors) in
      member_firsts (name ls d) (map (name ls) lits)
      ∙ member_map (name ls) d lits (member_filter (λ d. get_or lit d false) d (below g.detectors) ∙ rw (t, below_member d g.detectors l))

  pub single_clusters : Single (clusters g sat ls lit)
  unfolding clusters
  single_clusters = single_firsts (map (name ls) (filter (λ d. get_or lit d false) (below g.detectors)))

  -- ---- all of them

  record Peels (done : List ℕ) (l : List ℕ) (r : Peeled) : Type 0 where
    all : List ℕ
    peeling : Peeling g lit sat ls all r
    old : (a : ℕ) → member a done ≡ true → member a all ≡ true
    new : (a : ℕ) → member a l ≡ true → member a all ≡ true

  peel_all_lem : (l : List ℕ) (done : List ℕ) (p : Peeled) → Peeling g lit sat ls done p → Single l → ((a : ℕ) → member a l ≡ true → member a done ≡ false)
      → ((a : ℕ) → member a l ≡ true → (a < g.detectors) × (name ls a ≡ a)) → Peels done l (peel_all g sat ls p l)
  unfolding peel_all member
  peel_all_lem [] done p k t away h = record { all = done; peeling = k; old = λ a m. m; new = λ a m. clash m refl }
  peel_all_lem (a ∷ l) done p k t away h =
      let here : member a (a ∷ l) ≡ true = rw (same_eqb a) in
      let r = peel_all_lem l (a ∷ done) (peel g sat ls p a) (peels g ok lit sat ls st done p k a (away a here) (h a here).0 (h a here).1) t.1
      (λ c m. rw (ne_eqb c a (λ q. clash m (rw q t.0))) (away c (or_intro (eqb c a) (member c l) m)))
      (λ c m. h c (or_intro (eqb c a) (member c l) m)) in
      record {
        all = r.all;
        peeling = r.peeling;
        old = λ c m. r.old c (or_intro (eqb c a) (member c done) m);
        new = λ c m. ⊎_elim {C = member c r.all ≡ true} (λ u. r.old c (rw u)) (λ u. r.new c u) (or_cases (eqb c a) (member c l) m);
      }

  nothing : Peeling g lit sat ls [] (record { lit = lit; list = [] })
  unfolding member odd fit
  nothing = record {
    balanced = record { sizes = z; balance = λ d l. sym (xor_false (get_or lit d false)); fits = refl };
    from = λ e m. clash m refl;
    dark = λ d l m. clash m refl;
    calm = λ d l m. refl;
  }

  ended : Peels [] (clusters g sat ls lit) (peel_all g sat ls (record { lit = lit; list = [] }) (clusters g sat ls lit))
  unfolding member
  ended = peel_all_lem (clusters g sat ls lit) [] (record { lit = lit; list = [] }) nothing single_clusters (λ a m. refl) cluster_in

  pub correct : (fit g (peeled g sat ls lit) ≡ true) × Explains g lit (peeled g sat ls lit)
  unfolding peeled
  correct =
      let b = ended.peeling.balanced in (
        b.fits,
        λ d l. xor_is (get_or lit d false) (flipped g (peel_all g sat ls (record { lit = lit; list = [] }) (clusters g sat ls lit)).list d)
            (sym (b.balance d l) ∙ case-of (member (name ls d) ended.all)
            (λ t. ended.peeling.dark d l t)
            (λ f. ended.peeling.calm d l f ∙ not_so (get_or lit d false) (λ t. clash (ended.new (name ls d) (in_cluster d l t)) f))),
      )

  -- nothing is lit once all are peeled
  pub put_out : (length (peel_all g sat ls (record { lit = lit; list = [] }) (clusters g sat ls lit)).lit ≡ g.detectors)
      × ((d : ℕ) → d < g.detectors → get_or (peel_all g sat ls (record { lit = lit; list = [] }) (clusters g sat ls lit)).lit d false ≡ false)
  put_out = (
    ended.peeling.balanced.sizes,
    λ d l. case-of (member (name ls d) ended.all)
        (λ t. ended.peeling.dark d l t)
        (λ f. ended.peeling.calm d l f ∙ not_so (get_or lit d false) (λ t. clash (ended.new (name ls d) (in_cluster d l t)) f)),
  )
