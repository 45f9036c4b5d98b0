-- Labels: each detector's is the lowest of its cluster, and clusters are linked by saturated pair edges. Merging keeps that.
use Prim.Native.Nat.{ℕ, ◌≤◌, ◌<◌, min, max}
use native.Mathlib.Omega.{arith}
use mathlib.Core.Path.{◌≡◌, refl, sym, ap, ◌∙◌}
use mathlib.Core.List.{List, [], ◌∷◌, map}
use mathlib.Core.Bool.{Bool, true, false, cond}
use mathlib.Core.Logic.{⊎_elim}
use lib.Dec.{eqb, leb}
use lib.ListN.{length, get_or, length-map, get_or-map}
use borrow.Author.Tests.{eqb-true, eqb-false, leb-true, leb-false}
use Rattle.lists.specs.Lists.{member}
use Rattle.steps.specs.Graph.{Graph, Ends, inner, outer, is_pair}
use Rattle.steps.specs.Growth.{merge, merge_all}
pub use Rattle.found.specs.Labels.{name, Labels}
use Rattle.lists.proofs.Truth.{case-of, clash, or_cases, or_intro, same_eqb}
use Rattle.lists.proofs.Members.{get_d_any}

-- ---- the name that x has once a and b are one

ren : ℕ → ℕ → ℕ → ℕ
ren a b x = cond (eqb x (max a b)) (min a b) x

ren_low : (a b x : ℕ) → ren a b x ≤ x
unfolding ren
ren_low a b x = case-of (eqb x (max a b)) (λ t. rw t (omega (arith, eqb-true x (max a b) t))) (λ f. rw f (omega arith))

ren_min : (a b : ℕ) → ren a b (min a b) ≡ min a b
unfolding ren
ren_min a b = case-of (eqb (min a b) (max a b)) (λ t. rw t) (λ f. rw f)

ren_left : (a b : ℕ) → ren a b a ≡ min a b
unfolding ren
ren_left a b = case-of (eqb a (max a b)) (λ t. rw t) (λ f. rw f (omega (arith, eqb-false a (max a b) f)))

ren_right : (a b : ℕ) → ren a b b ≡ min a b
unfolding ren
ren_right a b = case-of (eqb b (max a b)) (λ t. rw t) (λ f. rw f (omega (arith, eqb-false b (max a b) f)))

ren_hit : (a b x : ℕ) → eqb x (max a b) ≡ true → ren a b x ≡ min a b
unfolding ren
ren_hit a b x t = rw t

ren_miss : (a b x : ℕ) → eqb x (max a b) ≡ false → ren a b x ≡ x
unfolding ren
ren_miss a b x f = rw f

ren_ren : (a b x : ℕ) → ren a b (ren a b x) ≡ ren a b x
ren_ren a b x = case-of (eqb x (max a b))
    (λ t. let k = ren_hit a b x t in rw k (ren_min a b))
    (λ f. let k = ren_miss a b x f in ap (ren a b) k)

-- what holds of a, of b and of x holds of x's new name
ren_holds : (P : ℕ → Type 0) (a b x : ℕ) → P a → P b → P x → P (ren a b x)
unfolding ren
ren_holds P a b x p q r = case-of (eqb x (max a b))
    (λ t. rw t (case-of (leb a b)
    (λ l. let k : min a b ≡ a = omega (arith, leb-true a b l) in rw k p)
    (λ l. let k : min a b ≡ b = omega (arith, leb-false a b l) in rw k q)))
    (λ f. rw f r)

ren_const : (c : ℕ → Bool) (a b x : ℕ) → c a ≡ c b → c (ren a b x) ≡ c x
ren_const c a b x p = case-of (eqb x (max a b))
    (λ t. case-of (leb a b)
    (λ l. let u : min a b ≡ a = omega (arith, leb-true a b l) in
    let v : x ≡ b = omega (arith, leb-true a b l, eqb-true x (max a b) t) in
    ap c (ren_hit a b x t ∙ u) ∙ p ∙ ap c (sym v))
    (λ l. let u : min a b ≡ b = omega (arith, leb-false a b l) in
    let v : x ≡ a = omega (arith, leb-false a b l, eqb-true x (max a b) t) in
    ap c (ren_hit a b x t ∙ u) ∙ sym p ∙ ap c (sym v)))
    (λ f. ap c (ren_miss a b x f))

-- ---- labels

module _ (g : Graph) where
  abbrev pub Keeps : List ℕ → List ℕ → Type 0
  Keeps ls ms = (d c : ℕ) → d < g.detectors → c < g.detectors → name ls d ≡ name ls c → name ms d ≡ name ms c

  pub record Merged (sat : List Bool) (ls ms : List ℕ) (es : List ℕ) : Type 0 where
    pub labels : Labels g sat ms
    pub keeps : Keeps ls ms
    pub joins : (e : ℕ) → member e es ≡ true → is_pair g e ≡ true → name ms (inner g e) ≡ name ms (outer g e)

  module _ (ok : Ends g) (lit : List Bool) (sat : List Bool) where
    -- one edge
    module _ (ls : List ℕ) (k : Labels g sat ls) (e : ℕ) (h : e < length g.edge_u) (s : get_or sat e false ≡ true) where
      pair_name : is_pair g e ≡ true → (d : ℕ) → d < g.detectors → name (merge g lit ls e) d ≡ ren (name ls (inner g e)) (name ls (outer g e)) (name ls d)
      unfolding merge ren
      pair_name t d l =
          let f : ℕ → ℕ = λ x. cond (eqb x (max (name ls (inner g e)) (name ls (outer g e)))) (min (name ls (inner g e)) (name ls (outer g e))) x in
          rw t (get_d_any (map f ls) d d (f d) (rw (length-map ls f, k.sizes) l) ∙ get_or-map f ls d d)

      single_name : is_pair g e ≡ false → merge g lit ls e ≡ ls
      unfolding merge
      single_name f = rw f

      pair_size : is_pair g e ≡ true → length (merge g lit ls e) ≡ g.detectors
      unfolding merge
      pair_size t = rw t (length-map ls (λ x. cond (eqb x (max (name ls (inner g e)) (name ls (outer g e)))) (min (name ls (inner g e)) (name ls (outer g e))) x) ∙ k.sizes)

      pair_labels : is_pair g e ≡ true → Labels g sat (merge g lit ls e)
      pair_labels t =
          let i = ok.inside e h in
          let o = (ok.paired e h t).1 in
          let a = name ls (inner g e) in
          let b = name ls (outer g e) in
          let fixed : (d : ℕ) → d < g.detectors → name ls (ren a b (name ls d)) ≡ ren a b (name ls d)
          = λ d l. ren_holds (λ x. name ls x ≡ x) a b (name ls d) (k.root (inner g e) i) (k.root (outer g e) o) (k.root d l) in
          record {
            sizes = pair_size t;
            low = λ d l. rw (pair_name t d l) (omega (arith, ren_low a b (name ls d), k.low d l));
            root = λ d l. rw (pair_name t d l) (pair_name t (ren a b (name ls d)) (omega (arith, ren_low a b (name ls d), k.low d l)) ∙ ap (ren a b) (fixed d l) ∙ ren_ren a b (name ls d));
            linked = λ d l c q. rw (pair_name t d l) (ren_const c a b (name ls d) (k.linked (inner g e) i c q ∙ q e h s t ∙ sym (k.linked (outer g e) o c q)) ∙ k.linked d l c q);
          }

      merge_labels : Labels g sat (merge g lit ls e)
      merge_labels = case-of (is_pair g e) pair_labels (λ f. rw (single_name f) k)

      merge_keeps : Keeps ls (merge g lit ls e)
      merge_keeps d c l m p = case-of (is_pair g e)
          (λ t. pair_name t d l ∙ ap (ren (name ls (inner g e)) (name ls (outer g e))) p ∙ sym (pair_name t c m))
          (λ f. rw (single_name f) p)

      merge_joins : is_pair g e ≡ true → name (merge g lit ls e) (inner g e) ≡ name (merge g lit ls e) (outer g e)
      merge_joins t =
          let a = name ls (inner g e) in
          let b = name ls (outer g e) in
          pair_name t (inner g e) (ok.inside e h) ∙ ren_left a b ∙ sym (pair_name t (outer g e) (ok.paired e h t).1 ∙ ren_right a b)

    -- all of a list
    pub merge_all_lem : (es : List ℕ) (ls : List ℕ) → Labels g sat ls → ((e : ℕ) → member e es ≡ true → (e < length g.edge_u) × (get_or sat e false ≡ true))
        → Merged sat ls (merge_all g lit ls es) es
    unfolding merge_all member
    merge_all_lem [] ls k h = record { labels = k; keeps = λ d c l m p. p; joins = λ e m. clash m refl }
    merge_all_lem (e ∷ es) ls k h =
        let here = h e (rw (same_eqb e)) in
        let r = merge_all_lem es (merge g lit ls e) (merge_labels ls k e here.0 here.1) (λ a m. h a (or_intro (eqb a e) (member a es) m)) in
        record {
          labels = r.labels;
          keeps = λ d c l m p. r.keeps d c l m (merge_keeps ls k e here.0 here.1 d c l m p);
          joins = λ a m t. ⊎_elim
              (λ u. let q = eqb-true a e u in
              rw q (r.keeps (inner g e) (outer g e) (ok.inside e here.0) (ok.paired e here.0 (rw q at t)).1 (merge_joins ls k e here.0 here.1 (rw q at t))))
              (λ u. r.joins a u t)
              (or_cases (eqb a e) (member a es) m);
        }
