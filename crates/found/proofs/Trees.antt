-- The branches of a walk as a tree: what each branch says of those before it.
use Prim.Native.Nat.{ℕ, ◌<◌}
use mathlib.Core.Path.{◌≡◌, refl, sym, ap, ◌∙◌, subst}
use mathlib.Core.List.{List, [], ◌∷◌, map}
use mathlib.Core.Bool.{Bool, true, false, ◌||◌, xor}
use mathlib.Core.Logic.{◌⊎◌, ⊎_elim}
use lib.Dec.{eqb}
use lib.ListN.{length, get_or}
use borrow.Author.Tests.{eqb-true, ne_eqb}
use Rattle.lists.specs.Lists.{member}
use Rattle.steps.specs.Graph.{Graph, Ends, inner, outer, is_pair, ends}
use Rattle.steps.specs.Peeling.{Branch}
use Rattle.lists.proofs.Truth.{clash, or_cases, or_intro, same_eqb, xor_comm}
use Rattle.found.proofs.Flips.{ends_xor}
use Rattle.found.proofs.Labels.{name}

abbrev pub vertices : List Branch → List ℕ
vertices bs = map (λ b. b.vertex) bs

abbrev pub tree_edges : List Branch → List ℕ
tree_edges bs = map (λ b. b.edge) bs

-- v, or a vertex of the branches
abbrev pub within : ℕ → List Branch → ℕ → Bool
within v bs d = eqb d v || member d (vertices bs)

module _ (g : Graph) (sat : List Bool) where
  -- b leads from a vertex of the tree to a new one, by a saturated pair edge
  pub record Leads (v : ℕ) (bs : List Branch) (b : Branch) : Type 0 where
    pub new : within v bs b.vertex ≡ false
    pub old : within v bs b.parent ≡ true
    pub known : b.edge < length g.edge_u
    pub solid : get_or sat b.edge false ≡ true
    pub pair : is_pair g b.edge ≡ true
    pub spans : ((inner g b.edge ≡ b.parent) × (outer g b.edge ≡ b.vertex)) ⊎ ((inner g b.edge ≡ b.vertex) × (outer g b.edge ≡ b.parent))

  abbrev pub Tree : ℕ → List Branch → Type 0
  Tree v [] = Unit {0}
  Tree v (b ∷ bs) = Leads v bs b × Tree v bs

module _ (g : Graph) (ok : Ends g) (sat : List Bool) (v : ℕ) where
  module _ (bs : List Branch) (b : Branch) (k : Leads g sat v bs b) where
    pub vertex_below : b.vertex < g.detectors
    vertex_below = ⊎_elim (λ s. rw (← s.1) (ok.paired b.edge k.known k.pair).1) (λ s. rw (← s.0) (ok.inside b.edge k.known)) k.spans

    pub parent_below : b.parent < g.detectors
    parent_below = ⊎_elim (λ s. rw (← s.0) (ok.inside b.edge k.known)) (λ s. rw (← s.1) (ok.paired b.edge k.known k.pair).1) k.spans

    pub leads_apart : b.vertex ≡ b.parent → ⊥
    leads_apart e = clash k.old (rw (← e) k.new)

    pub leads_ends : (d : ℕ) → ends g b.edge d ≡ xor (eqb b.vertex d) (eqb b.parent d)
    leads_ends d = ends_xor g ok b.edge k.known d ∙ ⊎_elim
        (λ (s : (inner g b.edge ≡ b.parent) × (outer g b.edge ≡ b.vertex)). rw (k.pair, s.0, s.1) (xor_comm (eqb b.parent d) (eqb b.vertex d)))
        (λ (s : (inner g b.edge ≡ b.vertex) × (outer g b.edge ≡ b.parent)). rw (k.pair, s.0, s.1))
        k.spans

    leads_name : (ls : List ℕ) → ((e : ℕ) → e < length g.edge_u → get_or sat e false ≡ true → is_pair g e ≡ true → name ls (inner g e) ≡ name ls (outer g e))
        → name ls b.vertex ≡ name ls b.parent
    leads_name ls j =
        let h = j b.edge k.known k.solid k.pair in
        ⊎_elim
        (λ (s : (inner g b.edge ≡ b.parent) × (outer g b.edge ≡ b.vertex)). ap (name ls) (sym s.1) ∙ sym h ∙ ap (name ls) s.0)
        (λ (s : (inner g b.edge ≡ b.vertex) × (outer g b.edge ≡ b.parent)). ap (name ls) (sym s.0) ∙ h ∙ ap (name ls) s.1)
        k.spans

    -- the edge is none of the tree's
    edge_new : (c : Branch) → within v bs c.vertex ≡ true → within v bs c.parent ≡ true → ((d : ℕ) → ends g c.edge d ≡ xor (eqb c.vertex d) (eqb c.parent d))
        → b.edge ≡ c.edge → ⊥
    unfolding xor
    edge_new c x y h e =
        let p : eqb c.vertex b.vertex ≡ false = ne_eqb c.vertex b.vertex (λ q. clash x (rw q k.new)) in
        let r : eqb c.parent b.vertex ≡ false = ne_eqb c.parent b.vertex (λ q. clash y (rw q k.new)) in
        let z : eqb b.parent b.vertex ≡ false = ne_eqb b.parent b.vertex (λ q. leads_apart (sym q)) in
        let far : ends g c.edge b.vertex ≡ false = h b.vertex ∙ rw (p, r) in
        clash (leads_ends b.vertex ∙ rw (same_eqb b.vertex, z)) (rw e far)

  pub within_more : (bs : List Branch) (c : Branch) (d : ℕ) → within v bs d ≡ true → within v (c ∷ bs) d ≡ true
  unfolding member
  within_more bs c d w = ⊎_elim (λ t. rw t) (λ t. or_intro (eqb d v) (member d (vertices (c ∷ bs))) (or_intro (eqb d c.vertex) (member d (vertices bs)) t)) (or_cases (eqb d v) (member d (vertices bs)) w)

  pub within_head : (bs : List Branch) (c : Branch) → within v (c ∷ bs) c.vertex ≡ true
  unfolding member
  within_head bs c = or_intro (eqb c.vertex v) (member c.vertex (vertices (c ∷ bs))) (rw (same_eqb c.vertex))

  edge_fresh : (bs : List Branch) (b : Branch) → Leads g sat v bs b → (cs : List Branch) → Tree g sat v cs → ((d : ℕ) → within v cs d ≡ true → within v bs d ≡ true)
      → member b.edge (tree_edges cs) ≡ false
  unfolding member
  edge_fresh bs b k [] t sub = refl
  edge_fresh bs b k (c ∷ cs) t sub = rw
      (ne_eqb b.edge c.edge (edge_new bs b k c (sub c.vertex (within_head cs c)) (sub c.parent (within_more cs c c.parent t.0.old)) (leads_ends cs c t.0)))
      (edge_fresh bs b k cs t.1 (λ d w. sub d (within_more cs c d w)))

  pub edge_once : (bs : List Branch) (b : Branch) → Tree g sat v (b ∷ bs) → member b.edge (tree_edges bs) ≡ false
  edge_once bs b t = edge_fresh bs b t.0 bs t.1 (λ d w. w)

  pub tree_names : (ls : List ℕ) → ((e : ℕ) → e < length g.edge_u → get_or sat e false ≡ true → is_pair g e ≡ true → name ls (inner g e) ≡ name ls (outer g e))
      → (bs : List Branch) → Tree g sat v bs → (d : ℕ) → within v bs d ≡ true → name ls d ≡ name ls v
  unfolding member
  tree_names ls j [] t d w = ⊎_elim (λ u. ap (name ls) (eqb-true d v u)) (λ u. clash u refl) (or_cases (eqb d v) false w)
  tree_names ls j (b ∷ bs) t d w = ⊎_elim
      (λ u. ap (name ls) (eqb-true d v u))
      (λ u. ⊎_elim
      (λ x. ap (name ls) (eqb-true d b.vertex x) ∙ leads_name bs b t.0 ls j ∙ tree_names ls j bs t.1 b.parent t.0.old)
      (λ x. tree_names ls j bs t.1 d (or_intro (eqb d v) (member d (vertices bs)) x))
      (or_cases (eqb d b.vertex) (member d (vertices bs)) u))
      (or_cases (eqb d v) (eqb d b.vertex || member d (vertices bs)) w)

  pub record TreeEdge (bs : List Branch) (e : ℕ) : Type 0 where
    pub known : e < length g.edge_u
    pub solid : get_or sat e false ≡ true
    pub pair : is_pair g e ≡ true
    pub inside : within v bs (inner g e) ≡ true

  pub tree_edge : (bs : List Branch) → Tree g sat v bs → (e : ℕ) → member e (tree_edges bs) ≡ true → TreeEdge bs e
  unfolding member
  tree_edge [] t e m = clash m refl
  tree_edge (b ∷ bs) t e m = ⊎_elim
      (λ u. let q = eqb-true e b.edge u in rw q (record {
        known = t.0.known;
        solid = t.0.solid;
        pair = t.0.pair;
        inside = ⊎_elim
            (λ (s : (inner g b.edge ≡ b.parent) × (outer g b.edge ≡ b.vertex)). subst (λ (d : ℕ). within v (b ∷ bs) d ≡ true) (sym s.0) (within_more bs b b.parent t.0.old))
            (λ (s : (inner g b.edge ≡ b.vertex) × (outer g b.edge ≡ b.parent)). subst (λ (d : ℕ). within v (b ∷ bs) d ≡ true) (sym s.0) (within_head bs b))
            t.0.spans;
      }))
      (λ u. let r = tree_edge bs t.1 e u in record { known = r.known; solid = r.solid; pair = r.pair; inside = within_more bs b (inner g e) r.inside })
      (or_cases (eqb e b.edge) (member e (tree_edges bs)) m)
