-- A correction list has at most one edge for each detector: each edge peeled marks a detector of its own.
use Prim.Native.Nat.{ℕ, suc, ◌+◌, ◌≤◌, ◌<◌}
use native.Mathlib.Omega.{arith}
use mathlib.Core.Path.{◌≡◌, refl, sym, ◌∙◌, subst}
use mathlib.Core.List.{List, [], ◌∷◌, ◌++◌}
use mathlib.Core.Bool.{Bool, true, false}
use mathlib.Core.Logic.{◌⊎◌, inl, inr, ⊎_elim}
use lib.Dec.{eqb}
use lib.ListN.{length, get_or, set, replicate, length-set, length-append, length-replicate}
use borrow.Author.Tests.{eqb-true, eqb-false, eq-eqb, ne_eqb}
use lib.Seq.{get_or-set_other}
use Rattle.lists.specs.Lists.{member}
use Rattle.steps.specs.Graph.{Graph, Ends, inner}
use Rattle.steps.specs.Peeling.{Branch, Peeled, toggle, once, unwind, branches_from, exits_of, leave, peel_by, peel, peel_all, clusters, peeled}
use Rattle.lists.proofs.Truth.{case-of, cond_case, clash, or_intro, same_eqb, not_so}
use Rattle.lists.proofs.Singles.{Single}
use Rattle.lists.proofs.Counts.{falses, falses_set, falses_replicate, none_true}
use Rattle.found.proofs.Labels.{name}
use Rattle.found.proofs.Meets.{is}
use Rattle.found.proofs.Trees.{within, Tree, vertex_below, tree_names, within_more, within_head}
use Rattle.found.proofs.Walks.{spanning}
use Rattle.found.proofs.Clusters.{Still, exit_first}
use Rattle.found.proofs.Corrections.{cluster_in, single_clusters}

-- ---- the detectors of a walk from v, marked

marks : List Bool → ℕ → List Branch → List Bool
marks t v [] = set t v true
marks t v (b ∷ bs) = set (marks t v bs) b.vertex true

record Marks (t : List Bool) (v : ℕ) (bs : List Branch) (r : List Bool) : Type 0 where
  size : length r ≡ length t
  fewer : suc (length bs + falses r) ≡ falses t
  only : (d : ℕ) → is r d ≡ true → (is t d ≡ true) ⊎ (within v bs d ≡ true)

-- what is true after one entry is set
set_only : (l : List Bool) (i d : ℕ) → is (set l i true) d ≡ true → (is l d ≡ true) ⊎ (d ≡ i)
set_only l i d m = case-of (eqb d i)
    (λ t. inr (eqb-true d i t))
    (λ f. inl (sym (get_or-set_other l i d true false (eqb-false d i f)) ∙ m))

marked : (g : Graph) → Ends g → (sat t : List Bool) → length t ≡ g.detectors → (v : ℕ) → v < g.detectors → (bs : List Branch) → Tree g sat v bs
    → ((d : ℕ) → within v bs d ≡ true → is t d ≡ false) → Marks t v bs (marks t v bs)
unfolding marks member
marked g ok sat t z v vl [] k fresh = record {
  size = length-set t v true;
  fewer = omega (arith, falses_set t v (rw z vl) (fresh v (rw (same_eqb v))));
  only = λ d m. ⊎_elim (λ x. inl x) (λ (x : d ≡ v). inr (rw (eq-eqb d v x))) (set_only t v d m);
}
marked g ok sat t z v vl (b ∷ bs) k fresh =
    let r = marked g ok sat t z v vl bs k.1 (λ d w. fresh d (within_more g ok sat v bs b d w)) in
    let off : is (marks t v bs) b.vertex ≡ false = not_so (is (marks t v bs) b.vertex) (λ m. ⊎_elim
    (λ (x : is t b.vertex ≡ true). clash x (fresh b.vertex (within_head g ok sat v bs b)))
    (λ (x : within v bs b.vertex ≡ true). clash x k.0.new)
    (r.only b.vertex m)) in
    record {
      size = length-set (marks t v bs) b.vertex true ∙ r.size;
      fewer = omega (arith, falses_set (marks t v bs) b.vertex (rw (r.size, z) (vertex_below g ok sat v bs b k.0)) off);
      only = λ d m. ⊎_elim
          (λ x. ⊎_elim (λ y. inl y) (λ y. inr (within_more g ok sat v bs b d y)) (r.only d x))
          (λ (x : d ≡ b.vertex). inr (subst (λ (d : ℕ). within v (b ∷ bs) d ≡ true) (sym x) (within_head g ok sat v bs b)))
          (set_only (marks t v bs) b.vertex d m);
    }

-- ---- the edges that a walk gives

once_few : (p : Peeled) (b : Branch) → length (once p b).list ≤ suc (length p.list)
unfolding once
once_few p b = cond_case (λ (r : Peeled). length r.list ≤ suc (length p.list)) (get_or p.lit b.vertex false)
    (record { lit = toggle (toggle p.lit b.vertex) b.parent; list = p.list ++ (b.edge ∷ []) }) p
    (λ t. omega (arith, length-append p.list (b.edge ∷ []))) (λ f. omega arith)

module _ (g : Graph) (sat : List Bool) where
  unwind_few : (bs : List Branch) (p : Peeled) → length (unwind g sat p bs).list ≤ length p.list + length bs
  unfolding unwind
  unwind_few [] p = omega arith
  unwind_few (b ∷ bs) p = omega (arith, unwind_few bs (once p b), once_few p b)

  leave_few : (ls : List ℕ) (p : Peeled) (e : ℕ) → length (leave g sat ls p e).list ≤ suc (length p.list)
  unfolding leave
  leave_few ls p e = cond_case (λ (r : Peeled). length r.list ≤ suc (length p.list)) (get_or p.lit (inner g e) false)
      (record { lit = toggle p.lit (inner g e); list = p.list ++ (e ∷ []) }) p
      (λ t. omega (arith, length-append p.list (e ∷ []))) (λ f. omega arith)

-- ---- cluster by cluster

-- no more edges than marked detectors, and these are of the clusters `done`
record Room (g : Graph) (ls done : List ℕ) (p : Peeled) : Type 0 where
  table : List Bool
  size : length table ≡ g.detectors
  room : length p.list + falses table ≤ g.detectors
  only : (d : ℕ) → is table d ≡ true → member (name ls d) done ≡ true

module _ (g : Graph) (ok : Ends g) (lit sat : List Bool) (ls : List ℕ) (st : Still g lit sat ls) where
  module _ (done : List ℕ) (p : Peeled) (k : Room g ls done p) (a : ℕ) (out : member a done ≡ false) where
    -- a walk from v, of the cluster a, gives at most one edge for each of its detectors
    walk_room : (v : ℕ) → v < g.detectors → name ls v ≡ a → (r : Peeled) → length r.list ≤ suc (length p.list + length (branches_from g sat v)) → Room g ls (a ∷ done) r
    unfolding member
    walk_room v vl va r h =
        let bs = branches_from g sat v in
        let tree = (spanning g sat ok v vl).tree in
        let of_tree : (d : ℕ) → within v bs d ≡ true → name ls d ≡ a
        = λ d w. tree_names g ok sat v ls st.joins bs tree d w ∙ va in
        let m = marked g ok sat k.table k.size v vl bs tree (λ d w. not_so (is k.table d) (λ t. clash (k.only d t) (rw (of_tree d w) out))) in
        record {
          table = marks k.table v bs;
          size = m.size ∙ k.size;
          room = omega (arith, m.fewer, k.room);
          only = λ d t. ⊎_elim
              (λ x. or_intro (eqb (name ls d) a) (member (name ls d) done) (k.only d x))
              (λ x. rw (eq-eqb (name ls d) a (of_tree d x)))
              (m.only d t);
        }

    ways_room : a < g.detectors → name ls a ≡ a → (l : List ℕ) → exits_of g sat ls a ≡ l → Room g ls (a ∷ done) (peel_by g sat ls p a l)
    unfolding peel_by
    ways_room al aa [] z = walk_room a al aa (unwind g sat p (branches_from g sat a)) (omega (arith, unwind_few g sat (branches_from g sat a) p))
    ways_room al aa (e ∷ es) z =
        let (h, s, f, n) = exit_first g lit sat ls a e es z in
        let q = unwind g sat p (branches_from g sat (inner g e)) in
        walk_room (inner g e) (ok.inside e h) n (leave g sat ls q e) (omega (arith, unwind_few g sat (branches_from g sat (inner g e)) p, leave_few g sat ls q e))

    peel_room : a < g.detectors → name ls a ≡ a → Room g ls (a ∷ done) (peel g sat ls p a)
    unfolding peel
    peel_room al aa = ways_room al aa (exits_of g sat ls a) refl

  peels_few : (l done : List ℕ) (p : Peeled) → Room g ls done p → Single l → ((a : ℕ) → member a l ≡ true → member a done ≡ false)
      → ((a : ℕ) → member a l ≡ true → (a < g.detectors) × (name ls a ≡ a)) → length (peel_all g sat ls p l).list ≤ g.detectors
  unfolding peel_all member
  peels_few [] done p k t away h = omega (arith, k.room)
  peels_few (a ∷ l) done p k t away h =
      let here : member a (a ∷ l) ≡ true = rw (same_eqb a) in
      peels_few l (a ∷ done) (peel g sat ls p a) (peel_room done p k a (away a here) (h a here).0 (h a here).1) t.1
      (λ c m. rw (ne_eqb c a (λ q. clash m (rw q t.0))) (away c (or_intro (eqb c a) (member c l) m)))
      (λ c m. h c (or_intro (eqb c a) (member c l) m))

  pub few_edges : length lit ≡ g.detectors → length (peeled g sat ls lit) ≤ g.detectors
  unfolding peeled member
  few_edges z = peels_few (clusters g sat ls lit) [] (record { lit = lit; list = [] })
      (record { table = replicate g.detectors false; size = length-replicate g.detectors false; room = omega (arith, falses_replicate g.detectors); only = λ d t. clash t (none_true g.detectors d) })
      (single_clusters g ok lit sat ls st z) (λ a m. refl) (cluster_in g ok lit sat ls st z)
