-- Trying the edges of a vertex: the branches stay a tree, and what is met is the tree.
use Prim.Native.Nat.{ℕ, ◌+◌, ◌<◌}
use native.Mathlib.Omega.{arith}
use mathlib.Core.Path.{◌≡◌, refl, sym, ◌∙◌}
use mathlib.Core.List.{List, [], ◌∷◌}
use mathlib.Core.Bool.{Bool, true, false, ◌&&◌, ◌||◌}
use mathlib.Core.Logic.{◌⊎◌, inl, inr, ⊎_elim}
use lib.Dec.{eqb}
use lib.ListN.{length, get_or, set, length-set}
use lib.Seq.{get_or-set_same, get_or-set_other}
use borrow.Author.Tests.{eqb-true, eqb-false}
use Rattle.lists.specs.Lists.{member}
use Rattle.steps.specs.Graph.{Graph, Ends, inner, outer, edges, is_pair, ends}
use Rattle.steps.specs.Peeling.{Walk, across, joined, try, meet}
use Rattle.lists.proofs.Truth.{case-of, clash, and_left, and_right, or_cases, or_intro, same_eqb}
use Rattle.lists.proofs.Members.{member_filter, member_below, below_member}
use Rattle.lists.proofs.Counts.{falses, falses_set, in_range}
use Rattle.found.proofs.Trees.{vertices, within, Tree}

abbrev pub is : List Bool → ℕ → Bool
is l d = get_or l d false

is_set : (l : List Bool) (i d : ℕ) → is l d ≡ true → is (set l i true) d ≡ true
is_set l i d t = case-of (eqb d i)
    (λ u. let q = eqb-true d i u in rw q (get_or-set_same l i true false (in_range l i (rw q at t))))
    (λ u. get_or-set_other l i d true false (eqb-false d i u) ∙ t)

module _ (g : Graph) (sat : List Bool) where
  -- e is a saturated pair edge of v
  pub record Joint (v e : ℕ) : Type 0 where
    pub known : e < length g.edge_u
    pub solid : get_or sat e false ≡ true
    pub pair : is_pair g e ≡ true
    pub at : ends g e v ≡ true

  pub joined_in : (v e : ℕ) → member e (joined g sat v) ≡ true → Joint v e
  unfolding joined
  joined_in v e m =
      let u = sym (member_filter (λ e. get_or sat e false && (is_pair g e && ends g e v)) e (edges g)) ∙ m in
      let t = and_left (get_or sat e false && (is_pair g e && ends g e v)) (member e (edges g)) u in
      let r = and_right (get_or sat e false) (is_pair g e && ends g e v) t in
      record {
        known = member_below e (length g.edge_u) (and_right (get_or sat e false && (is_pair g e && ends g e v)) (member e (edges g)) u);
        solid = and_left (get_or sat e false) (is_pair g e && ends g e v) t;
        pair = and_left (is_pair g e) (ends g e v) r;
        at = and_right (is_pair g e) (ends g e v) r;
      }

  pub in_joined : (v e : ℕ) → Joint v e → member e (joined g sat v) ≡ true
  unfolding joined
  in_joined v e j = member_filter (λ e. get_or sat e false && (is_pair g e && ends g e v)) e (edges g) ∙ rw (j.solid, j.at, j.pair, below_member e (length g.edge_u) j.known)

  -- every neighbour of d is met
  unfoldable pub Closed : List Bool → ℕ → Type 0
  Closed met d = (e : ℕ) → Joint d e → is met (across g sat d e) ≡ true

  -- v is the start
  pub record Walked (v : ℕ) (w : Walk) : Type 0 where
    pub sizes : length w.met ≡ g.detectors
    pub seen : (d : ℕ) → d < g.detectors → is w.met d ≡ within v w.branches d
    pub tree : Tree g sat v w.branches
    pub stacked : (d : ℕ) → member d w.stack ≡ true → (d < g.detectors) × (is w.met d ≡ true)

  -- a met vertex is u, waits on the stack, or has only met neighbours
  unfoldable pub Pending : ℕ → Walk → Type 0
  Pending u w = (d : ℕ) → d < g.detectors → is w.met d ≡ true → (d ≡ u) ⊎ ((member d w.stack ≡ true) ⊎ Closed w.met d)

  unfoldable pub measure : Walk → ℕ
  measure w = falses w.met + length w.stack

  record Tried (v u : ℕ) (w r : Walk) (e : ℕ) : Type 0 where
    walked : Walked v r
    more : (d : ℕ) → is w.met d ≡ true → is r.met d ≡ true
    pending : Pending u r
    same : measure r ≡ measure w
    got : is r.met (across g sat u e) ≡ true

  module _ (ok : Ends g) (v u : ℕ) (w : Walk) (k : Walked v w) (p : Pending u w) (here : is w.met u ≡ true) (ul : u < g.detectors) (e : ℕ) (j : Joint u e) where
    abbrev far : ℕ
    far = across g sat u e

    spans : ((inner g e ≡ u) × (outer g e ≡ far)) ⊎ ((inner g e ≡ far) × (outer g e ≡ u))
    spans = case-of (eqb (inner g e) u)
        (λ t. inl (eqb-true (inner g e) u t, rw t))
        (λ f. inr (rw f, eqb-true (outer g e) u (and_right (is_pair g e) (eqb (outer g e) u) (rw f at j.at))))

    far_below : far < g.detectors
    far_below = ⊎_elim
        (λ (s : (inner g e ≡ u) × (outer g e ≡ far)). rw (← s.1) (ok.paired e j.known j.pair).1)
        (λ (s : (inner g e ≡ far) × (outer g e ≡ u)). rw (← s.0) (ok.inside e j.known))
        spans

    marked : is (set w.met far true) far ≡ true
    marked = get_or-set_same w.met far true false (rw k.sizes far_below)

    tried_old : is w.met far ≡ true → Tried v u w w e
    tried_old t = record { walked = k; more = λ d m. m; pending = p; same = refl; got = t }

    tried_new : is w.met far ≡ false → Tried v u w (record {
      met = set w.met far true;
      stack = far ∷ w.stack;
      branches = record { vertex = far; edge = e; parent = u } ∷ w.branches;
    }) e
    unfolding member Pending measure Closed
    tried_new f = record {
      walked = record {
        sizes = length-set w.met far true ∙ k.sizes;
        seen = λ d l. case-of {C = is (set w.met far true) d ≡ (eqb d v || (eqb d far || member d (vertices w.branches)))} (eqb d far)
            (λ t. let q = eqb-true d far t in
            let z : is (set w.met far true) d ≡ true = rw q marked in
            z ∙ sym (or_intro (eqb d v) (eqb d far || member d (vertices w.branches)) (rw t)))
            (λ x. get_or-set_other w.met far d true false (eqb-false d far x) ∙ k.seen d l ∙ rw x);
        tree = (
          record {
            new = sym (k.seen far far_below) ∙ f;
            old = sym (k.seen u ul) ∙ here;
            known = j.known;
            solid = j.solid;
            pair = j.pair;
            spans = spans;
          },
          k.tree,
        );
        stacked = λ d m. ⊎_elim
            (λ t. let q = eqb-true d far t in (rw q far_below, rw q marked))
            (λ t. let r = k.stacked d t in (r.0, is_set w.met far d r.1))
            (or_cases (eqb d far) (member d w.stack) m);
      };
      more = is_set w.met far;
      pending = λ d l m. case-of (eqb d far)
          (λ t. inr (inl (rw t)))
          (λ x. ⊎_elim
          (λ q. inl q)
          (λ q. inr (⊎_elim
          (λ m. inl (or_intro (eqb d far) (member d w.stack) m))
          (λ c. inr (λ a i. is_set w.met far (across g sat d a) (c a i)))
          q))
          (p d l (sym (get_or-set_other w.met far d true false (eqb-false d far x)) ∙ m)));
      same = omega (arith, falses_set w.met far (rw k.sizes far_below) f);
      got = marked;
    }

    tried : Tried v u w (try g sat u w e) e
    unfolding try
    tried = case-of (is w.met far) (λ t. rw t (tried_old t)) (λ f. rw f (tried_new f))

  pub record Met (v u : ℕ) (w : Walk) (es : List ℕ) (r : Walk) : Type 0 where
    pub walked : Walked v r
    pub more : (d : ℕ) → is w.met d ≡ true → is r.met d ≡ true
    pub pending : Pending u r
    pub same : measure r ≡ measure w
    pub all : (e : ℕ) → member e es ≡ true → is r.met (across g sat u e) ≡ true

  pub meets : Ends g → (v u : ℕ) → u < g.detectors → (es : List ℕ) (w : Walk) → Walked v w → Pending u w → is w.met u ≡ true → ((e : ℕ) → member e es ≡ true → Joint u e)
      → Met v u w es (meet g sat u w es)
  unfolding meet member
  meets ok v u ul [] w k p here h = record { walked = k; more = λ d m. m; pending = p; same = refl; all = λ e m. clash m refl }
  meets ok v u ul (e ∷ es) w k p here h =
      let t = tried ok v u w k p here ul e (h e (rw (same_eqb e))) in
      let r = meets ok v u ul es (try g sat u w e) t.walked t.pending (t.more u here) (λ a m. h a (or_intro (eqb a e) (member a es) m)) in
      record {
        walked = r.walked;
        more = λ d m. r.more d (t.more d m);
        pending = r.pending;
        same = r.same ∙ t.same;
        all = λ a m. ⊎_elim
            (λ x. rw (eqb-true a e x) (r.more (across g sat u e) t.got))
            (λ x. r.all a x)
            (or_cases (eqb a e) (member a es) m);
      }
