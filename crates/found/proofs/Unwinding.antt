-- Unwinding a tree: what is lit stays the shot less what the list flips, and no branch's vertex is lit after it.
use Prim.Native.Nat.{ℕ, ◌<◌}
use mathlib.Core.Path.{◌≡◌, refl, sym, ap, ap₂, ◌∙◌}
use mathlib.Core.List.{List, [], ◌∷◌, ◌++◌}
use mathlib.Core.Bool.{Bool, true, false, not, ◌||◌, xor}
use mathlib.Core.Logic.{◌⊎◌, inl, inr, ⊎_elim}
use lib.Dec.{eqb}
use lib.ListN.{length, get_or, length-set}
use lib.Seq.{get_or-set_same, get_or-set_other}
use borrow.Author.Tests.{eqb-true, eqb-false, eq-eqb, ne_eqb}
use Rattle.lists.specs.Lists.{member, odd}
use Rattle.steps.specs.Graph.{Graph, Ends, ends, flipped}
use Rattle.steps.specs.Peeling.{Branch, Peeled, toggle, once, unwind}
use Rattle.steps.specs.Marker.{fit}
use Rattle.lists.proofs.Truth.{case-of, clash, or_cases, or_left, or_right, or_intro, same_eqb, not_so, cond_case, xor_false, xor_assoc}
use Rattle.lists.proofs.Sums.{odd_append}
use Rattle.lists.proofs.Members.{member_append}
use Rattle.found.proofs.Fits.{fit_more}
use Rattle.found.proofs.Trees.{vertices, tree_edges, within, Leads, Tree, vertex_below, parent_below, leads_apart, leads_ends, edge_once}

-- ---- toggling, and one more edge

pub toggle_at : (l : List Bool) (i d : ℕ) → i < length l → get_or (toggle l i) d false ≡ xor (get_or l d false) (eqb i d)
unfolding xor
toggle_at l i d h = case-of (eqb i d)
    (λ t. let q = eqb-true i d t in rw (t, ← q) (get_or-set_same l i (not (get_or l i false)) false h ∙ flip (get_or l i false)))
    (λ f. rw f (get_or-set_other l i d (not (get_or l i false)) false (λ q. eqb-false i d f (sym q)) ∙ sym (xor_false (get_or l d false))))
  where
    flip : (a : Bool) → not a ≡ xor a true
    flip true = refl
    flip false = refl

pub flipped_more : (g : Graph) (l : List ℕ) (e d : ℕ) → flipped g (l ++ (e ∷ [])) d ≡ xor (flipped g l d) (ends g e d)
unfolding odd
flipped_more g l e d = odd_append (λ a. ends g a d) l (e ∷ []) ∙ ap (xor (flipped g l d)) (xor_false (ends g e d))

pub member_more : (l : List ℕ) (e a : ℕ) → member a (l ++ (e ∷ [])) ≡ true → (member a l ≡ true) ⊎ (a ≡ e)
unfolding member
member_more l e a m = ⊎_elim (λ t. inl t) (λ t. inr (⊎_elim (λ u. eqb-true a e u) (λ u. clash u refl) (or_cases (eqb a e) false t))) (or_cases (member a l) (eqb a e || false) (sym (member_append a l (e ∷ [])) ∙ m))

-- ---- one branch

module _ (g : Graph) (lit : List Bool) where
  pub record Balanced (p : Peeled) : Type 0 where
    pub sizes : length p.lit ≡ g.detectors
    pub balance : (d : ℕ) → d < g.detectors → get_or p.lit d false ≡ xor (get_or lit d false) (flipped g p.list d)
    pub fits : fit g p.list ≡ true

record Once (g : Graph) (lit : List Bool) (p : Peeled) (b : Branch) (r : Peeled) : Type 0 where
  balanced : Balanced g lit r
  off : get_or r.lit b.vertex false ≡ false
  others : (d : ℕ) → (b.vertex ≡ d → ⊥) → (b.parent ≡ d → ⊥) → get_or r.lit d false ≡ get_or p.lit d false
  from : (e : ℕ) → member e r.list ≡ true → (member e p.list ≡ true) ⊎ (e ≡ b.edge)

module _ (g : Graph) (ok : Ends g) (lit sat : List Bool) (v : ℕ) where
  module _ (p : Peeled) (k : Balanced g lit p) (bs : List Branch) (b : Branch) (h : Leads g sat v bs b) (fresh : member b.edge p.list ≡ false) where
    twice : (d : ℕ) → get_or (toggle (toggle p.lit b.vertex) b.parent) d false ≡ xor (xor (get_or p.lit d false) (eqb b.vertex d)) (eqb b.parent d)
    twice d =
        toggle_at (toggle p.lit b.vertex) b.parent d (rw (length-set p.lit b.vertex (not (get_or p.lit b.vertex false)), k.sizes) (parent_below g ok sat v bs b h))
        ∙ ap (λ t. xor t (eqb b.parent d)) (toggle_at p.lit b.vertex d (rw k.sizes (vertex_below g ok sat v bs b h)))

    once_lit : get_or p.lit b.vertex false ≡ true → Once g lit p b (record { lit = toggle (toggle p.lit b.vertex) b.parent; list = p.list ++ (b.edge ∷ []) })
    unfolding xor
    once_lit t = record {
      balanced = record {
        sizes = length-set (toggle p.lit b.vertex) b.parent (not (get_or (toggle p.lit b.vertex) b.parent false)) ∙ length-set p.lit b.vertex (not (get_or p.lit b.vertex false)) ∙ k.sizes;
        balance = λ d l. twice d
            ∙ xor_assoc (get_or p.lit d false) (eqb b.vertex d) (eqb b.parent d)
            ∙ ap₂ xor (k.balance d l) (sym (leads_ends g ok sat v bs b h d))
            ∙ xor_assoc (get_or lit d false) (flipped g p.list d) (ends g b.edge d)
            ∙ ap (xor (get_or lit d false)) (sym (flipped_more g p.list b.edge d));
        fits = fit_more g p.list b.edge k.fits h.known fresh;
      };
      off = twice b.vertex ∙ rw (t, same_eqb b.vertex, ne_eqb b.parent b.vertex (λ q. leads_apart g ok sat v bs b h (sym q)));
      others = λ d x y. twice d ∙ rw (ne_eqb b.vertex d x, ne_eqb b.parent d y, xor_false (get_or p.lit d false)) (xor_false (get_or p.lit d false));
      from = member_more p.list b.edge;
    }

    once_dark : get_or p.lit b.vertex false ≡ false → Once g lit p b p
    once_dark f = record { balanced = k; off = f; others = λ d x y. refl; from = λ e m. inl m }

    once_is : Once g lit p b (once p b)
    unfolding once
    once_is = cond_case (Once g lit p b) (get_or p.lit b.vertex false)
        (record { lit = toggle (toggle p.lit b.vertex) b.parent; list = p.list ++ (b.edge ∷ []) }) p
        once_lit once_dark

  -- ---- all branches

  pub record Unwound (p : Peeled) (bs : List Branch) (r : Peeled) : Type 0 where
    pub balanced : Balanced g lit r
    pub off : (d : ℕ) → member d (vertices bs) ≡ true → get_or r.lit d false ≡ false
    pub others : (d : ℕ) → within v bs d ≡ false → get_or r.lit d false ≡ get_or p.lit d false
    pub from : (e : ℕ) → member e r.list ≡ true → (member e p.list ≡ true) ⊎ (member e (tree_edges bs) ≡ true)

  pub unwinds : (bs : List Branch) (p : Peeled) → Tree g sat v bs → Balanced g lit p → ((e : ℕ) → member e (tree_edges bs) ≡ true → member e p.list ≡ false)
      → Unwound p bs (unwind g sat p bs)
  unfolding unwind member
  unwinds [] p t k fresh = record { balanced = k; off = λ d m. clash m refl; others = λ d w. refl; from = λ e m. inl m }
  unwinds (b ∷ bs) p t k fresh =
      let o = once_is p k bs b t.0 (fresh b.edge (rw (same_eqb b.edge))) in
      let r = unwinds bs (once p b) t.1 o.balanced (λ e m. not_so (member e (once p b).list) (λ i. ⊎_elim
      (λ (x : member e p.list ≡ true). clash x (fresh e (or_intro (eqb e b.edge) (member e (tree_edges bs)) m)))
      (λ (x : e ≡ b.edge). clash m (rw x (edge_once g ok sat v bs b t)))
      (o.from e i))) in
      record {
        balanced = r.balanced;
        off = λ d m. ⊎_elim
            (λ x. rw (eqb-true d b.vertex x) (r.others b.vertex t.0.new ∙ o.off))
            (λ x. r.off d x)
            (or_cases (eqb d b.vertex) (member d (vertices bs)) m);
        others = λ d w.
            let u = or_right (eqb d v) (eqb d b.vertex || member d (vertices bs)) w in
            let i : within v bs d ≡ false = rw (or_left (eqb d v) (eqb d b.vertex || member d (vertices bs)) w) (or_right (eqb d b.vertex) (member d (vertices bs)) u) in
            r.others d i
            ∙ o.others d
            (λ q. eqb-false d b.vertex (or_left (eqb d b.vertex) (member d (vertices bs)) u) (sym q))
            (λ q. clash t.0.old (rw q i));
        from = λ e m. ⊎_elim
            (λ x. ⊎_elim (λ y. inl y) (λ y. inr (rw (eq-eqb e b.edge y))) (o.from e x))
            (λ x. inr (or_intro (eqb e b.edge) (member e (tree_edges bs)) x))
            (r.from e m);
      }
