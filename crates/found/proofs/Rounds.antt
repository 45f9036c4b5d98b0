-- What a round keeps: labels, clusters that are linked, and the list of active clusters.
use Prim.Native.Nat.{ℕ, ◌<◌}
use native.Mathlib.Omega.{arith}
use mathlib.Core.Path.{◌≡◌, sym, ap, ◌∙◌}
use mathlib.Core.List.{List, map}
use mathlib.Core.Bool.{Bool, true, false, not, ◌&&◌, ◌||◌, and-false}
use mathlib.Core.Logic.{⊎_elim}
use lib.Dec.{eqb}
use lib.ListN.{length, get_or, length-map}
use borrow.Author.Tests.{eqb-true, eq-eqb, not-true}
use Rattle.lists.specs.Lists.{below, filter, any, odd, member, firsts}
use Rattle.steps.specs.Graph.{Graph, Ends, inner, outer, edges, is_pair}
use Rattle.steps.specs.Growth.{is_odd, exits, is_active, merge_all}
use Rattle.lists.proofs.Truth.{case-of, clash, and_left, and_right, or_cases, or_intro, not_so}
use Rattle.lists.proofs.Sums.{odd_cong, odd_swap, odd_hit, odd_some}
use Rattle.lists.proofs.Members.{member_filter, member_firsts, member_map, member_below, below_member, any_some, any_at, length_below, get_d_below}
use Rattle.found.proofs.Labels.{name, Labels, Keeps, Merged, merge_all_lem}

pub record Kept (g : Graph) (lit : List Bool) (sat : List Bool) (ls act : List ℕ) : Type 0 where
  pub sats : length sat ≡ length g.edge_u
  pub labels : Labels g sat ls
  pub joins : (e : ℕ) → e < length g.edge_u → get_or sat e false ≡ true → is_pair g e ≡ true → name ls (inner g e) ≡ name ls (outer g e)
  pub actives : (a : ℕ) → member a act ≡ is_active g lit sat ls a

module _ (g : Graph) (ok : Ends g) (lit : List Bool) where
  name_below : (sat : List Bool) (ls : List ℕ) → Labels g sat ls → (d : ℕ) → d < g.detectors → name ls d < g.detectors
  name_below sat ls k d l = omega (arith, k.low d l)

  -- an odd cluster has an odd part
  odd_part : (sat : List Bool) (ls ms : List ℕ) → Labels g sat ls → Keeps g ls ms → (a : ℕ) → is_odd g lit ms a ≡ true
      → (b : ℕ) × (b < g.detectors) × (name ms b ≡ a) × (is_odd g lit ls b ≡ true)
  unfolding is_odd
  odd_part sat ls ms k keeps a h =
      let ds = below g.detectors in
      let p : ℕ → Bool = λ d. get_or lit d false && eqb (name ms d) a in
      let split : odd (λ d. odd (λ b. eqb (name ls d) b && p d) ds) ds ≡ odd p ds
      = odd_cong (λ d. odd (λ b. eqb (name ls d) b && p d) ds) p ds (λ d m. odd_hit (name ls d) (λ b. p d) g.detectors (name_below sat ls k d (member_below d g.detectors m))) in
      let (b, m, t) = odd_some (λ b. odd (λ d. eqb (name ls d) b && p d) ds) ds (sym (odd_swap (λ d b. eqb (name ls d) b && p d) ds ds) ∙ split ∙ h) in
      let (d, n, u) = odd_some (λ d. eqb (name ls d) b && p d) ds t in
      let l = member_below d g.detectors n in
      let q : name ls d ≡ b = eqb-true (name ls d) b (and_left (eqb (name ls d) b) (p d) u) in
      let r : name ms d ≡ a = eqb-true (name ms d) a (and_right (get_or lit d false) (eqb (name ms d) a) (and_right (eqb (name ls d) b) (p d) u)) in
      let bl = member_below b g.detectors m in
      let same : (c : ℕ) → c < g.detectors → name ls c ≡ b → name ms c ≡ a
      = λ c cl e. keeps c d cl l (e ∙ sym q) ∙ r in (
        b,
        bl,
        same b bl (ap (name ls) (sym q) ∙ k.root d l ∙ q),
        odd_cong (λ c. get_or lit c false && eqb (name ls c) b) (λ c. eqb (name ls c) b && p c) ds
            (λ c cm. case-of {C = (get_or lit c false && eqb (name ls c) b) ≡ (eqb (name ls c) b && p c)} (eqb (name ls c) b)
            (λ v. rw (v, eq-eqb (name ms c) a (same c (member_below c g.detectors cm) (eqb-true (name ls c) b v))))
            (λ v. rw v (and-false (get_or lit c false)))) ∙ t,
      )

  pub live_of : (sat : List Bool) (ls : List ℕ) (a : ℕ) → is_odd g lit ls a ≡ true → any (exits g lit sat ls a) (edges g) ≡ false → is_active g lit sat ls a ≡ true
  unfolding is_active
  live_of sat ls a o f = rw (o, f)

  pub of_live : (sat : List Bool) (ls : List ℕ) (a : ℕ) → is_active g lit sat ls a ≡ true → (is_odd g lit ls a ≡ true) × (any (exits g lit sat ls a) (edges g) ≡ false)
  unfolding is_active
  of_live sat ls a t = (
    and_left (is_odd g lit ls a) (not (any (exits g lit sat ls a) (edges g))) t,
    not-true (any (exits g lit sat ls a) (edges g)) (and_right (is_odd g lit ls a) (not (any (exits g lit sat ls a) (edges g))) t),
  )

  -- the edges that pass f are saturated, and their ends merged
  module _ (sat : List Bool) (ls act : List ℕ) (k : Kept g lit sat ls act) (f : ℕ → Bool) where
    abbrev sat' : List Bool
    sat' = map (λ e. get_or sat e false || f e) (edges g)

    abbrev ls' : List ℕ
    ls' = merge_all g lit ls (filter f (edges g))

    abbrev act' : List ℕ
    act' = filter (is_active g lit sat' ls') (firsts (map (name ls') act))

    sat_at : (e : ℕ) → e < length g.edge_u → get_or sat' e false ≡ (get_or sat e false || f e)
    sat_at e h = get_d_below (λ e. get_or sat e false || f e) false (length g.edge_u) e h

    grows : (e : ℕ) → e < length g.edge_u → get_or sat e false ≡ true → get_or sat' e false ≡ true
    grows e h t = rw (sat_at e h, t)

    merged : Merged g sat' ls ls' (filter f (edges g))
    merged = merge_all_lem g ok lit sat' (filter f (edges g)) ls
        (record {
          sizes = k.labels.sizes;
          low = k.labels.low;
          root = k.labels.root;
          linked = λ d l c q. k.labels.linked d l c (λ e h s p. q e h (grows e h s) p);
        })
        (λ e m. let u = sym (member_filter f e (edges g)) ∙ m in
        let h = member_below e (length g.edge_u) (and_right (f e) (member e (edges g)) u) in
        (h, sat_at e h ∙ or_intro (get_or sat e false) (f e) (and_left (f e) (member e (edges g)) u)))

    exit_stays : (a b : ℕ) → b < g.detectors → name ls' b ≡ a → (e : ℕ) → e < length g.edge_u → exits g lit sat ls b e ≡ true → exits g lit sat' ls' a e ≡ true
    exit_stays a b l n e h t =
        let r = and_right (get_or sat e false) (not (is_pair g e) && eqb (name ls (inner g e)) b) t in
        let p : not (is_pair g e) ≡ true = and_left (not (is_pair g e)) (eqb (name ls (inner g e)) b) r in
        let q = eqb-true (name ls (inner g e)) b (and_right (not (is_pair g e)) (eqb (name ls (inner g e)) b) r) in
        let i = ok.inside e h in
        let u = merged.keeps (inner g e) b i l (sym (k.labels.root (inner g e) i) ∙ ap (name ls) q) ∙ n in
        rw (grows e h (and_left (get_or sat e false) (not (is_pair g e) && eqb (name ls (inner g e)) b) t), p, eq-eqb (name ls' (inner g e)) a u)

    part_of : (a b : ℕ) → b < g.detectors → name ls' b ≡ a → is_odd g lit ls b ≡ true → any (exits g lit sat' ls' a) (edges g) ≡ false → member a (map (name ls') act) ≡ true
    part_of a b l n o free =
        rw (← n) (member_map (name ls') b act (k.actives b ∙ live_of sat ls b o (not_so (any (exits g lit sat ls b) (edges g)) (λ u.
        let (e, m, t) = any_some (exits g lit sat ls b) (edges g) u in
        let h = member_below e (length g.edge_u) m in
        clash (any_at (exits g lit sat' ls' a) (edges g) e m (exit_stays a b l n e h t)) free))))

    part : (a : ℕ) → is_active g lit sat' ls' a ≡ true → member a (map (name ls') act) ≡ true
    part a t =
        let (o, free) = of_live sat' ls' a t in
        let (b, l, n, u) = odd_part sat ls ls' k.labels merged.keeps a o in
        part_of a b l n u free

    pub kept_step : Kept g lit sat' ls' act'
    kept_step = record {
      sats = length-map (edges g) (λ e. get_or sat e false || f e) ∙ length_below (length g.edge_u);
      labels = merged.labels;
      joins = λ e h s p. ⊎_elim
          (λ t. merged.keeps (inner g e) (outer g e) (ok.inside e h) (ok.paired e h p).1 (k.joins e h t p))
          (λ (t : f e ≡ true). merged.joins e (member_filter f e (edges g) ∙ rw (t, below_member e (length g.edge_u) h)) p)
          (or_cases (get_or sat e false) (f e) (sym (sat_at e h) ∙ s));
      actives = λ a. member_filter (is_active g lit sat' ls') a (firsts (map (name ls') act))
          ∙ case-of (is_active g lit sat' ls' a) (λ t. rw (t, member_firsts a (map (name ls') act)) (part a t)) (λ u. rw u);
    }
