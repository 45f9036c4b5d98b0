-- What the counting pass lists is what `steps` counts, each edge once. Assumes nothing.
use Prim.Native.Nat.{ℕ, ◌+◌, ◌<◌, ◌≤◌}
use native.Mathlib.Omega.{arith}
use mathlib.Core.Path.{◌≡◌, refl, sym, ap, ap₂, ◌∙◌}
use mathlib.Core.List.{List, [], ◌∷◌, ◌++◌, map, map-append}
use mathlib.Core.Bool.{Bool, true, false, cond, not, ◌&&◌, ◌||◌, or-false}
use mathlib.Core.Logic.{◌⊎◌, inl, inr, ⊎_elim}
use lib.Dec.{eqb, ltb}
use lib.ListN.{length, get_or}
use borrow.Author.Tests.{eqb-true, ne_eqb, lt-ltb, le-ltb, not-true}
use Rattle.lists.specs.Lists.{any, member}
use Rattle.lists.proofs.Truth.{case-of, clash, same_eqb, not_so, iff_eq, and_left, and_right, or_cases, or_intro}
use Rattle.lists.proofs.Members.{member_append, member_filter, member_below, below_member, any_some, any_at}
use Rattle.lists.proofs.Singles.{Single, single_filter, single_below}
use Rattle.steps.specs.Graph.{Graph, Ends, boundary, inner, outer, edges, is_pair}
use Rattle.steps.specs.Growth.{State, one, label_of, is_open, count, is_counted}
use Rattle.steps.specs.Laws.{counted}
use Rattle.adjacency.specs.Adjacent.{touches, star, beyond}
use Rattle.growth_state.proofs.Laws.{map_cong}
use Rattle.counting.specs.Counting.{is_free, far_live, takes, taken_at, taken_in, counts_in}
use Rattle.lists.proofs.Pigeonhole.{single_append, single_few}

counted_if : (o p q : Bool) → not (eqb (cond o (one p + one q) 0) 0) ≡ ((p || q) && o)
counted_if true true true = refl
counted_if true true false = refl
counted_if true false true = refl
counted_if true false false = refl
counted_if false true q = refl
counted_if false false true = refl
counted_if false false false = refl

-- ---- the edges at a detector

module _ (g : Graph) where
  abbrev us : List ℕ
  us = g.edge_u

  abbrev vs : List ℕ
  vs = g.edge_v

  pub star_of : (e x : ℕ) → member e (star us vs x) ≡ true → (touches us vs x e ≡ true) × (e < length us)
  star_of e x m =
      let u = sym (member_filter (touches us vs x) e (edges g)) ∙ m in
      (and_left (touches us vs x e) (member e (edges g)) u, member_below e (length us) (and_right (touches us vs x e) (member e (edges g)) u))

  pub star_to : (e x : ℕ) → touches us vs x e ≡ true → e < length us → member e (star us vs x) ≡ true
  star_to e x t h = member_filter (touches us vs x) e (edges g) ∙ rw (t, below_member e (length us) h)

  pub end_of : (e x : ℕ) → touches us vs x e ≡ true → (inner g e ≡ x) ⊎ ((is_pair g e ≡ true) × (outer g e ≡ x))
  end_of e x t = ⊎_elim
      (λ (i : eqb (inner g e) x ≡ true). inl (eqb-true (inner g e) x i))
      (λ (o : (is_pair g e && eqb (outer g e) x) ≡ true). inr (and_left (is_pair g e) (eqb (outer g e) x) o, eqb-true (outer g e) x (and_right (is_pair g e) (eqb (outer g e) x) o)))
      (or_cases (eqb (inner g e) x) (is_pair g e && eqb (outer g e) x) t)

  pub inner_touch : (e : ℕ) → touches us vs (inner g e) e ≡ true
  inner_touch e = rw (same_eqb (inner g e))

  pub outer_touch : (e : ℕ) → is_pair g e ≡ true → touches us vs (outer g e) e ≡ true
  outer_touch e p = or_intro (eqb (inner g e) (outer g e)) (is_pair g e && eqb (outer g e) (outer g e)) (rw (p, same_eqb (outer g e)))

  module _ (ok : Ends g) (lit : List Bool) (s : State) where
    -- the cluster of x is active
    abbrev is_live : ℕ → Bool
    is_live x = member (label_of g lit s x) s.active

    counted_is : (e : ℕ) → is_counted g lit s e ≡ ((is_live (inner g e) || (is_pair g e && is_live (outer g e))) && is_open g lit s e)
    unfolding count
    counted_is e = counted_if (is_open g lit s e) (is_live (inner g e)) (is_pair g e && is_live (outer g e))

    -- a detector is live exactly if it points at a hot root
    module _ (parent : List ℕ) (hot : List Bool) (root_live : (y : ℕ) → y < g.detectors → get_or hot (get_or parent y 0) false ≡ is_live y) where
      abbrev far : ℕ → ℕ → Bool
      far = far_live g.detectors us vs parent s.saturated hot

      abbrev lists : ℕ → ℕ → Bool
      lists = takes g.detectors us vs parent s.saturated hot

      abbrev at : ℕ → List ℕ
      at = taken_at g.detectors us vs parent s.saturated hot

      abbrev all : List ℕ → List ℕ
      all = taken_in g.detectors us vs parent s.saturated hot

      -- ---- an edge at either end

      module _ (e : ℕ) (h : e < length us) where
        far_inner : far (inner g e) e ≡ (is_pair g e && is_live (outer g e))
        far_inner = rw (same_eqb (inner g e)) (case-of (eqb (outer g e) boundary)
            (λ t. rw (t, same_eqb g.detectors))
            (λ f. let o : outer g e < g.detectors = (ok.paired e h (rw f)).1 in
            rw (f, ne_eqb (outer g e) g.detectors (λ q. omega arith)) (root_live (outer g e) o)))

        takes_inner : is_free s.saturated e ≡ true → lists (inner g e) e ≡ true
        takes_inner o = rw o (case-of (is_pair g e)
            (λ p. or_intro (not (far (inner g e) e)) (ltb (inner g e) (beyond us vs g.detectors (inner g e) e))
            (rw (same_eqb (inner g e), not-true (eqb (outer g e) boundary) p) (lt-ltb (inner g e) (outer g e) (ok.paired e h p).0)))
            (λ f. let z : far (inner g e) e ≡ false = far_inner ∙ rw f in rw z))

        module _ (p : is_pair g e ≡ true) where
          beyond_outer : beyond us vs g.detectors (outer g e) e ≡ inner g e
          beyond_outer = rw (ne_eqb (inner g e) (outer g e) (λ q. omega (arith, (ok.paired e h p).0)))

          far_outer : far (outer g e) e ≡ is_live (inner g e)
          far_outer = rw (beyond_outer, ne_eqb (inner g e) g.detectors (λ q. omega (arith, ok.inside e h))) (root_live (inner g e) (ok.inside e h))

          -- at its upper end an open edge is listed if the lower is not live
          takes_outer : lists (outer g e) e ≡ (is_free s.saturated e && not (is_live (inner g e)))
          takes_outer = ap (λ b. is_free s.saturated e && b)
              (ap₂ (λ b c. not b || c) far_outer (rw beyond_outer (le-ltb (outer g e) (inner g e) (omega (arith, (ok.paired e h p).0)))) ∙ or-false (not (is_live (inner g e))))

      -- ---- an edge listed at the live detector x

      -- x is its lower end, or its upper one where the lower is not live
      record Listed (x e : ℕ) : Type 0 where
        inside : e < length us
        free : is_free s.saturated e ≡ true
        end : (inner g e ≡ x) ⊎ ((is_pair g e ≡ true) × (outer g e ≡ x) × (is_live (inner g e) ≡ false))

      listed : (x e : ℕ) → member e (at x) ≡ true → Listed x e
      listed x e m =
          let u = sym (member_filter (lists x) e (star us vs x)) ∙ m in
          let t = and_left (lists x e) (member e (star us vs x)) u in
          let (z, h) = star_of e x (and_right (lists x e) (member e (star us vs x)) u) in
          record {
            inside = h;
            free = and_left (is_free s.saturated e) (not (far x e) || ltb x (beyond us vs g.detectors x e)) t;
            end = ⊎_elim
                (λ (q : inner g e ≡ x). inl q)
                (λ (q : (is_pair g e ≡ true) × (outer g e ≡ x)). inr (
                  q.0,
                  q.1,
                  not-true (is_live (inner g e))
                      (and_right (is_free s.saturated e) (not (is_live (inner g e))) (sym (takes_outer e h q.0) ∙ ap (λ z. lists z e) q.1 ∙ t)),
                ))
                (end_of e x z);
          }

      -- the end at which e is listed, if one is live
      home : ℕ → ℕ
      home e = cond (is_live (inner g e)) (inner g e) (outer g e)

      module _ (x e : ℕ) (l : is_live x ≡ true) (k : Listed x e) where
        at_home : x ≡ home e
        unfolding home
        at_home = ⊎_elim
            (λ (q : inner g e ≡ x). rw (q, l))
            (λ (q : (is_pair g e ≡ true) × (outer g e ≡ x) × (is_live (inner g e) ≡ false)). rw q.2 (sym q.1))
            k.end

        count_at : 1 + one (far x e) ≡ count g lit s e
        unfolding count
        count_at = rw k.free (⊎_elim
            (λ (q : inner g e ≡ x). let i : is_live (inner g e) ≡ true = rw q l in
            rw i (ap (λ b. 1 + one b) (ap (λ z. far z e) (sym q) ∙ far_inner e k.inside)))
            (λ (q : (is_pair g e ≡ true) × (outer g e ≡ x) × (is_live (inner g e) ≡ false)). let o : is_live (outer g e) ≡ true = rw q.1 l in
            rw (q.0, q.2, o) (ap (λ b. 1 + one b) (ap (λ z. far z e) (sym q.1) ∙ far_outer e k.inside q.0 ∙ q.2)))
            k.end)

        is_counted_lem : is_counted g lit s e ≡ true
        is_counted_lem = rw (← count_at, ne_eqb (1 + one (far x e)) 0 (λ q. omega arith))

      -- ---- a list of live detectors

      member_all : (e : ℕ) (l : List ℕ) → member e (all l) ≡ any (λ x. member e (at x)) l
      unfolding taken_in any member
      member_all e [] = refl
      member_all e (x ∷ l) = member_append e (at x) (all l) ∙ ap (λ b. member e (at x) || b) (member_all e l)

      abbrev Lives : List ℕ → Type 0
      Lives l = (x : ℕ) → member x l ≡ true → is_live x ≡ true

      first_lives : (x : ℕ) (l : List ℕ) → Lives (x ∷ l) → is_live x ≡ true
      unfolding member
      first_lives x l h = h x (rw (same_eqb x))

      rest_lives : (x : ℕ) (l : List ℕ) → Lives (x ∷ l) → Lives l
      unfolding member
      rest_lives x l h y m = h y (or_intro (eqb y x) (member y l) m)

      pub once : (l : List ℕ) → Single l → Lives l → Single (all l)
      unfolding taken_in
      once [] t h = tt
      once (x ∷ l) t h =
          single_append (at x) (all l) (single_filter (lists x) (star us vs x) (single_filter (touches us vs x) (edges g) (single_below (length us)))) (once l t.1 (rest_lives x l h))
          (λ e m. not_so (member e (all l)) (λ n.
          let (y, k, u) = any_some (λ y. member e (at y)) l (sym (member_all e l) ∙ n) in
          let q : y ≡ x = at_home y e (rest_lives x l h y k) (listed y e u) ∙ sym (at_home x e (first_lives x l h) (listed x e m)) in
          clash k (rw q t.0)))

      pub counts_are : (l : List ℕ) → Lives l → counts_in g.detectors us vs parent s.saturated hot l ≡ map (count g lit s) (all l)
      unfolding taken_in counts_in
      counts_are [] h = refl
      counts_are (x ∷ l) h = ap₂ (λ (a b : List ℕ). a ++ b)
          (map_cong (λ e. 1 + one (far x e)) (count g lit s) (at x) (λ e m. count_at x e (first_lives x l h) (listed x e m))) (counts_are l (rest_lives x l h))
          ∙ sym (map-append (count g lit s) (at x) (all l))

      -- each live detector is of the front, and no other
      module _ (front : List ℕ) (lives : Lives front) (each : (x : ℕ) → x < g.detectors → is_live x ≡ true → member x front ≡ true) where
        counted_of : (e : ℕ) → member e (all front) ≡ true → member e (counted g lit s) ≡ true
        counted_of e m =
            let (x, n, t) = any_some (λ x. member e (at x)) front (sym (member_all e front) ∙ m) in
            let k = listed x e t in
            member_filter (is_counted g lit s) e (edges g) ∙ rw (is_counted_lem x e (lives x n) k, below_member e (length us) k.inside)

        all_of : (e x : ℕ) → e < length us → x < g.detectors → is_live x ≡ true → touches us vs x e ≡ true → lists x e ≡ true → member e (all front) ≡ true
        all_of e x h hx l z t = member_all e front ∙ any_at (λ x. member e (at x)) front x (each x hx l) (member_filter (lists x) e (star us vs x) ∙ rw (t, star_to e x z h))

        of_counted : (e : ℕ) → member e (counted g lit s) ≡ true → member e (all front) ≡ true
        of_counted e m =
            let u = sym (member_filter (is_counted g lit s) e (edges g)) ∙ m in
            let h = member_below e (length us) (and_right (is_counted g lit s e) (member e (edges g)) u) in
            let c = sym (counted_is e) ∙ and_left (is_counted g lit s e) (member e (edges g)) u in
            let o : is_free s.saturated e ≡ true = and_right (is_live (inner g e) || (is_pair g e && is_live (outer g e))) (is_open g lit s e) c in
            case-of (is_live (inner g e))
            (λ l. all_of e (inner g e) h (ok.inside e h) l (inner_touch e) (takes_inner e h o))
            (λ f. let w : (is_pair g e && is_live (outer g e)) ≡ true = rw f at (and_left (is_live (inner g e) || (is_pair g e && is_live (outer g e))) (is_open g lit s e) c) in
            let p = and_left (is_pair g e) (is_live (outer g e)) w in
            all_of e (outer g e) h (ok.paired e h p).1 (and_right (is_pair g e) (is_live (outer g e)) w) (outer_touch e p) (takes_outer e h p ∙ rw (o, f)))

        pub edges_are : (e : ℕ) → member e (all front) ≡ member e (counted g lit s)
        edges_are e = iff_eq (member e (all front)) (member e (counted g lit s)) (counted_of e) (of_counted e)

        pub few : Single front → length (all front) ≤ length us
        few t = single_few (all front) (length us) (once front t lives) (λ e m.
            let u = sym (member_filter (is_counted g lit s) e (edges g)) ∙ counted_of e m in
            member_below e (length us) (and_right (is_counted g lit s e) (member e (edges g)) u))
