-- One edge of a lent graph, and the edges from one on.
use Rattle.std.specs.Prelude.{Ok, Err}
use Prim.Native.Nat.{ℕ, zero, suc, ◌+◌, ◌-◌, ◌*◌, ◌≤◌, ◌<◌}
use native.Mathlib.Omega.{arith}
use native.Mathlib.Nat.{mul-le-mul, mul-le-mul_right, suc-mul}
use mathlib.Core.Path.{◌≡◌, refl, ap, ◌∙◌}
use mathlib.Core.List.{List, [], ◌∷◌, map}
use mathlib.Core.Bool.{Bool, true, false, not}
use lib.Ieee.{Float, nan}
use lib.ListN.{length, get_or, take, drop, length-take, length-drop, get_or-map}
use lib.Seq.{get_or-take}
use borrow.Author.Tests.{eq-eqb}
use Rattle.lists.specs.Lists.{from, below}
use Rattle.lists.proofs.Members.{length_below, below_at}
use Rattle.bits.specs.Rows.{words}
use Rattle.codes.specs.declared.Refusal.{Refusal}
use Rattle.codes.specs.Order.{Checked, and_then}
use Rattle.codes.specs.Limits.{max_observables, max_mechanisms}
use Rattle.steps.specs.Graph.{boundary}
use Rattle.steps.specs.Call.{graph_of, ends_fit, observables_fit, check_edge, check_edges}
use Rattle.lent_graph.specs.Lent.{ends_of, check_row}

module _ {A : Type 0} where
  -- below the length the default does not matter
  pub any_default : (l : List A) (i : ℕ) (d e : A) → i < length l → get_or l i d ≡ get_or l i e
  any_default [] i d e h = let z : ⊥ = omega arith in absurd z
  any_default (x ∷ l) zero d e h = refl
  any_default (x ∷ l) (suc i) d e h = any_default l i d e (omega arith)

  pub length_map : {B : Type 0} (f : B → A) (l : List B) → length (map f l) ≡ length l
  length_map f [] = refl
  length_map f (x ∷ l) = ap suc (length_map f l)

  pub map_below : (f : ℕ → A) (n e : ℕ) (z : A) → e < n → get_or (map f (below n)) e z ≡ f e
  map_below f n e z h =
      any_default (map f (below n)) e z (f 0) (omega (arith, length_map f (below n), length_below n)) ∙ get_or-map f (below n) e 0 ∙ ap f (below_at n e 0 h)

pub not_not : (b : Bool) → not (not b) ≡ b
not_not true = refl
not_not false = refl

-- a row of the last table lies inside it
row_inside : (e n w l : ℕ) → e < n → n * w ≤ l → e * w + w ≤ l
row_inside e n w l h k = omega (arith, mul-le-mul_right w h, suc-mul e w)

-- and begins low enough to be counted in bytes
pub record Inside (e w l : ℕ) : Type 0 where
  pub low : e * w ≤ 32768
  pub high : e * w + w ≤ l
  pub few : w ≤ 2

pub inside : (e n w o l : ℕ) → e < n → n ≤ max_mechanisms → o ≤ max_observables → n * words o ≤ l → w ≡ words o → Inside e w l
unfolding words
inside e n w o l h k m b t =
    let few : w ≤ 2 = omega arith in
    let low : e ≤ 16384 = omega arith in
    record { low = mul-le-mul low few; high = row_inside e n w l h (rw t b); few = few }

module _ (d o n : ℕ) (u v : List ℕ) (weight : List Float) (obs : List ℕ) where
  pub edge_is : (e : ℕ) → e < n → n ≤ length u → n ≤ length v → n ≤ length weight → n * words o ≤ length obs
      → check_edge (graph_of d o n u v weight obs) e ≡ check_row d o e (get_or u e 0) (get_or v e 0) (get_or weight e nan) (take (words o) (drop (e * words o) obs))
  unfolding check_edge graph_of ends_fit observables_fit check_row ends_of
  edge_is e h hu hv hw ho =
      let k = row_inside e n (words o) (length obs) h ho in
      let eu : get_or (take n u) e boundary ≡ get_or u e 0 = get_or-take n u e boundary h ∙ any_default u e boundary 0 (omega arith) in
      let ev : get_or (take n v) e boundary ≡ get_or v e 0 = get_or-take n v e boundary h ∙ any_default v e boundary 0 (omega arith) in
      let row : List ℕ = take (words o) (drop (e * words o) obs) in
      let er : get_or (map (λ j. take (words o) (drop (j * words o) obs)) (below n)) e [] ≡ row = map_below (λ j. take (words o) (drop (j * words o) obs)) n e [] h in
      let el : length row ≡ words o = simp (length-take, length-drop) (omega arith) in
      rw (eu, ev, er, get_or-take n weight e nan h, not_not, eq-eqb _ _ el)

  -- the check of edge e, its row as the code lends it
  abbrev Row : ℕ → Checked
  Row e = check_row d o e (get_or u e 0) (get_or v e 0) (get_or weight e nan) (take (e * words o + words o - e * words o) (drop (e * words o) obs))

  -- the check from edge e on: edge e, then the rest
  edges_turn : (e : ℕ) → e < n → n ≤ length u → n ≤ length v → n ≤ length weight → n * words o ≤ length obs
      → check_edges (graph_of d o n u v weight obs) (from (n - e) e) ≡ and_then (Row e) (check_edges (graph_of d o n u v weight obs) (from (n - (e + 1)) (e + 1)))
  unfolding check_edges from
  edges_turn e h hu hv hw ho =
      let k : n - e ≡ suc (n - (e + 1)) = omega arith in
      let one : e + 1 ≡ suc e = omega arith in
      let m : e * words o + words o - e * words o ≡ words o = omega arith in
      rw (k, m, ← edge_is e h hu hv hw ho, one)

  pub edges_refused : (e : ℕ) (r : Refusal) → e < n → n ≤ length u → n ≤ length v → n ≤ length weight → n * words o ≤ length obs → Row e ≡ Err r
      → check_edges (graph_of d o n u v weight obs) (from (n - e) e) ≡ Err r
  edges_refused e r h hu hv hw ho t = rw (edges_turn e h hu hv hw ho, t)

  pub edges_on : (e : ℕ) → e < n → n ≤ length u → n ≤ length v → n ≤ length weight → n * words o ≤ length obs → Row e ≡ Ok tt
      → check_edges (graph_of d o n u v weight obs) (from (n - (e + 1)) (e + 1)) ≡ check_edges (graph_of d o n u v weight obs) (from (n - e) e)
  edges_on e h hu hv hw ho t = rw (edges_turn e h hu hv hw ho, t)

  pub edges_end : (e : ℕ) → n ≤ e → check_edges (graph_of d o n u v weight obs) (from (n - e) e) ≡ Ok tt
  unfolding check_edges from
  edges_end e h = let k : n - e ≡ 0 = omega arith in rw k
