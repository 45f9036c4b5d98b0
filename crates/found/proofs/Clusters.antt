-- Peeling one cluster: no detector of it is lit after that, and no other is touched.
use Prim.Native.Nat.{ℕ, ◌<◌}
use mathlib.Core.Path.{◌≡◌, refl, sym, ap, ap₂, ◌∙◌}
use mathlib.Core.List.{List, [], ◌∷◌, ◌++◌}
use mathlib.Core.Bool.{Bool, true, false, not, ◌&&◌, xor, and-true, and-false, or-false}
use mathlib.Core.Logic.{◌⊎◌, inl, inr, ⊎_elim}
use lib.Dec.{eqb}
use lib.ListN.{length, get_or, length-set}
use borrow.Author.Tests.{eqb-true, eqb-false, eq-eqb, ne_eqb, not-true}
use Rattle.lists.specs.Lists.{below, any, odd, member}
use Rattle.steps.specs.Graph.{Graph, Ends, inner, outer, edges, is_pair, ends, flipped}
use Rattle.steps.specs.Growth.{is_odd, exits, is_active}
use Rattle.steps.specs.Peeling.{Branch, Peeled, toggle, unwind, branches_from, exits_of, leave, peel_by, peel}
use Rattle.lists.proofs.Truth.{case-of, cond_case, clash, and_left, and_right, or_left, or_right, or_intro, same_eqb, not_so, eqb_comm, xor_false, xor_self, xor_assoc, xor_and}
use Rattle.lists.proofs.Sums.{odd_cong, odd_no, odd_xor, odd_hit}
use Rattle.lists.proofs.Members.{member_filter, member_below, any_some}
use Rattle.found.proofs.Flips.{weight, flips_sum}
use Rattle.found.proofs.Labels.{name, Labels}
use Rattle.found.proofs.Rounds.{live_of}
use Rattle.found.proofs.Fits.{fit_known, fit_more}
use Rattle.found.proofs.Trees.{tree_edges, within, TreeEdge, tree_names, tree_edge}
use Rattle.found.proofs.Walks.{Spanning, spanning}
use Rattle.found.proofs.Unwinding.{toggle_at, flipped_more, member_more, Balanced, Unwound, unwinds}

-- what growth leaves true once no cluster is active
pub record Still (g : Graph) (lit sat : List Bool) (ls : List ℕ) : Type 0 where
  pub labels : Labels g sat ls
  pub joins : (e : ℕ) → e < length g.edge_u → get_or sat e false ≡ true → is_pair g e ≡ true → name ls (inner g e) ≡ name ls (outer g e)
  pub quiet : (a : ℕ) → is_active g lit sat ls a ≡ false

-- the clusters `done` are peeled
pub record Peeling (g : Graph) (lit sat : List Bool) (ls : List ℕ) (done : List ℕ) (p : Peeled) : Type 0 where
  pub balanced : Balanced g lit p
  pub from : (e : ℕ) → member e p.list ≡ true → (get_or sat e false ≡ true) × (member (name ls (inner g e)) done ≡ true)
  pub dark : (d : ℕ) → d < g.detectors → member (name ls d) done ≡ true → get_or p.lit d false ≡ false
  pub calm : (d : ℕ) → d < g.detectors → member (name ls d) done ≡ false → get_or p.lit d false ≡ get_or lit d false

-- the saturated boundary edges of the cluster a
module _ (g : Graph) (lit sat : List Bool) (ls : List ℕ) (a : ℕ) where
  pub exit_is : (e : ℕ) → exits g lit sat ls a e ≡ true → (get_or sat e false ≡ true) × (is_pair g e ≡ false) × (name ls (inner g e) ≡ a)
  exit_is e t =
      let u = and_right (get_or sat e false) (not (is_pair g e) && eqb (name ls (inner g e)) a) t in (
        and_left (get_or sat e false) (not (is_pair g e) && eqb (name ls (inner g e)) a) t,
        not-true (is_pair g e) (and_left (not (is_pair g e)) (eqb (name ls (inner g e)) a) u),
        eqb-true (name ls (inner g e)) a (and_right (not (is_pair g e)) (eqb (name ls (inner g e)) a) u),
      )

  in_exits : (e : ℕ) → member e (exits_of g sat ls a) ≡ (exits g lit sat ls a e && member e (edges g))
  unfolding exits_of
  in_exits e = member_filter (exits g lit sat ls a) e (edges g)

  pub exit_first : (e : ℕ) (es : List ℕ) → exits_of g sat ls a ≡ e ∷ es → (e < length g.edge_u) × (get_or sat e false ≡ true) × (is_pair g e ≡ false) × (name ls (inner g e) ≡ a)
  unfolding member
  exit_first e es z =
      let u : (exits g lit sat ls a e && member e (edges g)) ≡ true = sym (in_exits e) ∙ rw (z, same_eqb e) in
      let (s, f, n) = exit_is e (and_left (exits g lit sat ls a e) (member e (edges g)) u) in
      (member_below e (length g.edge_u) (and_right (exits g lit sat ls a e) (member e (edges g)) u), s, f, n)

module _ (g : Graph) (ok : Ends g) (lit sat : List Bool) (ls : List ℕ) (st : Still g lit sat ls)
    (done : List ℕ) (p : Peeled) (k : Peeling g lit sat ls done p) (a : ℕ) (out : member a done ≡ false) where
  module _ (v : ℕ) (vl : v < g.detectors) (va : name ls v ≡ a) where
    abbrev bs : List Branch
    bs = branches_from g sat v

    abbrev q : Peeled
    q = unwind g sat p bs

    span : Spanning g sat v bs
    span = spanning g sat ok v vl

    in_tree : (d : ℕ) → d < g.detectors → name ls d ≡ a → within v bs d ≡ true
    in_tree d l n = span.reaches d l (λ c x. sym (st.labels.linked v vl c x) ∙ ap c (va ∙ sym n) ∙ st.labels.linked d l c x)

    of_tree : (d : ℕ) → within v bs d ≡ true → name ls d ≡ a
    of_tree d w = tree_names g ok sat v ls st.joins bs span.tree d w ∙ va

    of_edge : (e : ℕ) → member e (tree_edges bs) ≡ true → TreeEdge g ok sat v bs e
    of_edge e m = tree_edge g ok sat v bs span.tree e m

    not_done : (e : ℕ) → name ls (inner g e) ≡ a → member e p.list ≡ false
    not_done e n = not_so (member e p.list) (λ m. clash (k.from e m).1 (rw n out))

    unwound : Unwound g ok lit sat v p bs q
    unwound = unwinds g ok lit sat v bs p span.tree k.balanced (λ e m. not_done e (of_tree (inner g e) (of_edge e m).inside))

    rest_dark : (d : ℕ) → d < g.detectors → name ls d ≡ a → eqb d v ≡ false → get_or q.lit d false ≡ false
    rest_dark d l n f = unwound.off d (rw f at (in_tree d l n))

    others : (d : ℕ) → eqb (name ls d) a ≡ false → get_or q.lit d false ≡ get_or p.lit d false
    others d f = unwound.others d (not_so (within v bs d) (λ w. eqb-false (name ls d) a f (of_tree d w)))

    -- ---- the parity of the cluster

    abbrev Q : ℕ → Bool
    Q d = eqb (name ls d) a

    even : (e : ℕ) → member e q.list ≡ true → weight g Q e ≡ false
    unfolding weight xor
    even e m =
        let h = fit_known g q.list unwound.balanced.fits e m in
        ⊎_elim
        (λ (x : member e p.list ≡ true).
        let (s, n) = k.from e x in
        let i : Q (inner g e) ≡ false = ne_eqb (name ls (inner g e)) a (λ y. clash n (rw y out)) in
        case-of (is_pair g e) (λ t. rw (t, ← st.joins e h s t, i)) (λ f. rw (f, i)))
        (λ (x : member e (tree_edges bs) ≡ true).
        let r = of_edge e x in
        rw (r.pair, st.joins e h r.solid r.pair) (xor_self (Q (outer g e))))
        (unwound.from e m)

    start_parity : get_or q.lit v false ≡ is_odd g lit ls a
    unfolding is_odd
    start_parity =
        let ds = below g.detectors in
        sym (odd_hit v (λ d. get_or q.lit d false) g.detectors vl)
        ∙ odd_cong (λ d. eqb v d && get_or q.lit d false) (λ d. xor (get_or lit d false && Q d) (flipped g q.list d && Q d)) ds
        (λ d m. let l = member_below d g.detectors m in at_each d l ∙ ap (λ t. t && Q d) (unwound.balanced.balance d l) ∙ xor_and (get_or lit d false) (flipped g q.list d) (Q d))
        ∙ odd_xor (λ d. get_or lit d false && Q d) (λ d. flipped g q.list d && Q d) ds
        ∙ ap (xor (odd (λ d. get_or lit d false && Q d) ds)) (flips_sum g ok Q q.list (fit_known g q.list unwound.balanced.fits) ∙ odd_no (weight g Q) q.list even)
        ∙ xor_false (odd (λ d. get_or lit d false && Q d) ds)
      where
        at_each : (d : ℕ) → d < g.detectors → (eqb v d && get_or q.lit d false) ≡ (get_or q.lit d false && Q d)
        at_each d l = case-of (eqb v d)
            (λ t. let i : Q d ≡ true = eq-eqb (name ls d) a (ap (name ls) (sym (eqb-true v d t)) ∙ va) in rw (t, i) (sym (and-true (get_or q.lit d false))))
            (λ f. case-of (Q d) (λ t. rw (f, rest_dark d l (eqb-true (name ls d) a t) (eqb_comm d v ∙ f))) (λ u. rw (f, u) (sym (and-false (get_or q.lit d false)))))

    -- ---- the start put out

    away : (d : ℕ) → eqb (name ls d) a ≡ false → eqb d v ≡ false
    away d f = ne_eqb d v (λ i. eqb-false (name ls d) a f (ap (name ls) i ∙ va))

    closes : (r : Peeled) → Balanced g lit r → ((e : ℕ) → member e r.list ≡ true → (member e q.list ≡ true) ⊎ ((get_or sat e false ≡ true) × (name ls (inner g e) ≡ a)))
        → get_or r.lit v false ≡ false → ((d : ℕ) → eqb d v ≡ false → get_or r.lit d false ≡ get_or q.lit d false) → Peeling g lit sat ls (a ∷ done) r
    unfolding member
    closes r b from off same = record {
      balanced = b;
      from = λ e m. ⊎_elim
          (λ (x : member e q.list ≡ true). ⊎_elim
          (λ (y : member e p.list ≡ true). let (s, n) = k.from e y in (s, or_intro (eqb (name ls (inner g e)) a) (member (name ls (inner g e)) done) n))
          (λ (y : member e (tree_edges bs) ≡ true). ((of_edge e y).solid, rw (eq-eqb (name ls (inner g e)) a (of_tree (inner g e) (of_edge e y).inside))))
          (unwound.from e x))
          (λ (x : (get_or sat e false ≡ true) × (name ls (inner g e) ≡ a)). (x.0, rw (eq-eqb (name ls (inner g e)) a x.1)))
          (from e m);
      dark = λ d l m. case-of (eqb (name ls d) a)
          (λ t. case-of (eqb d v) (λ u. rw (eqb-true d v u) off) (λ u. same d u ∙ rest_dark d l (eqb-true (name ls d) a t) u))
          (λ f. same d (away d f) ∙ others d f ∙ k.dark d l (rw f at m));
      calm = λ d l m. let f = or_left (eqb (name ls d) a) (member (name ls d) done) m in
          same d (away d f) ∙ others d f ∙ k.calm d l (or_right (eqb (name ls d) a) (member (name ls d) done) m);
    }

    -- no boundary edge is wanted
    closed : get_or q.lit v false ≡ false → Peeling g lit sat ls (a ∷ done) q
    closed off = closes q unwound.balanced (λ e m. inl m) off (λ d f. refl)

    -- the boundary edge e puts the start out
    module _ (e : ℕ) (h : e < length g.edge_u) (s : get_or sat e false ≡ true) (f : is_pair g e ≡ false) (i : inner g e ≡ v) (on : get_or q.lit v false ≡ true) where
      abbrev r : Peeled
      r = record { lit = toggle q.lit v; list = q.list ++ (e ∷ []) }

      turned : (d : ℕ) → get_or r.lit d false ≡ xor (get_or q.lit d false) (eqb v d)
      turned d = toggle_at q.lit v d (rw unwound.balanced.sizes vl)

      one_end : (d : ℕ) → ends g e d ≡ eqb v d
      one_end d = rw (f, i) (or-false (eqb v d))

      new_exit : member e q.list ≡ false
      new_exit = not_so (member e q.list) (λ m. ⊎_elim
          (λ (x : member e p.list ≡ true). clash x (not_done e (rw i va)))
          (λ (x : member e (tree_edges bs) ≡ true). clash (of_edge e x).pair f)
          (unwound.from e m))

      exited : Peeling g lit sat ls (a ∷ done) r
      unfolding xor
      exited = closes r
          (record {
            sizes = length-set q.lit v (not (get_or q.lit v false)) ∙ unwound.balanced.sizes;
            balance = λ d l. turned d
                ∙ ap₂ xor (unwound.balanced.balance d l) (sym (one_end d))
                ∙ xor_assoc (get_or lit d false) (flipped g q.list d) (ends g e d)
                ∙ ap (xor (get_or lit d false)) (sym (flipped_more g q.list e d));
            fits = fit_more g q.list e unwound.balanced.fits h new_exit;
          })
          (λ c m. ⊎_elim (λ x. inl x) (λ (x : c ≡ e). inr (rw x s, rw (x, i) va)) (member_more q.list e c m))
          (turned v ∙ rw (on, same_eqb v))
          (λ d u. turned d ∙ rw (eqb_comm v d, u) (xor_false (get_or q.lit d false)))

  -- ---- the two ways

  -- without an exit the cluster is even
  no_exit : exits_of g sat ls a ≡ [] → is_odd g lit ls a ≡ false
  unfolding member
  no_exit z = not_so (is_odd g lit ls a) (λ o. clash (live_of g ok lit sat ls a o (not_so (any (exits g lit sat ls a) (edges g)) (λ t.
      let (e, m, x) = any_some (exits g lit sat ls a) (edges g) t in
      let y : member e (exits_of g sat ls a) ≡ true = in_exits g lit sat ls a e ∙ rw (x, m) in
      clash (rw z at y) refl))) (st.quiet a))

  ways : a < g.detectors → name ls a ≡ a → (l : List ℕ) → exits_of g sat ls a ≡ l → Peeling g lit sat ls (a ∷ done) (peel_by g sat ls p a l)
  unfolding peel_by leave
  ways al aa [] z = closed a al aa (start_parity a al aa ∙ no_exit z)
  ways al aa (e ∷ es) z =
      let (h, s, f, n) = exit_first g lit sat ls a e es z in
      let v = inner g e in
      let i = ok.inside e h in
      let q = unwind g sat p (branches_from g sat v) in
      cond_case (Peeling g lit sat ls (a ∷ done)) (get_or q.lit v false) (record { lit = toggle q.lit v; list = q.list ++ (e ∷ []) }) q
      (λ on. exited v i n e h s f refl on)
      (λ off. closed v i n off)

  pub peels : a < g.detectors → name ls a ≡ a → Peeling g lit sat ls (a ∷ done) (peel g sat ls p a)
  unfolding peel
  peels al aa = ways al aa (exits_of g sat ls a) refl
