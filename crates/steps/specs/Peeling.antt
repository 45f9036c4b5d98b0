-- Peeling of a grown cluster: docs/RULES.md, "Peeling".
use Prim.Native.Nat.{ℕ, zero, suc}
use mathlib.Core.List.{List, [], ◌∷◌, ◌++◌, map}
use Rattle.std.specs.Prelude.{Bool, true, cond, not, ◌&&◌, replicate}
use Rattle.std.proofs.Math.Bool.{false}
use Rattle.std.proofs.Math.ListN.{get_or, set}
use Rattle.std.proofs.Math.Dec.{eqb}
use Rattle.lists.specs.Lists.{below, filter, firsts}
use Rattle.steps.specs.Graph.{Graph, inner, outer, edges, is_pair, ends}

-- the tree edge by which a vertex was first met, and the vertex it was met from
pub record Branch : Type 0 where
  pub vertex : ℕ
  pub edge : ℕ
  pub parent : ℕ

-- the walk so far; the last pushed vertex and the last branch come first
pub record Walk : Type 0 where
  pub met : List Bool
  pub stack : List ℕ
  pub branches : List Branch

-- what is still lit, and the edges given so far
pub record Peeled : Type 0 where
  pub lit : List Bool
  pub list : List ℕ

abbrev pub toggle : List Bool → ℕ → List Bool
toggle l d = set l d (not (get_or l d false))

-- a lit vertex gives its tree edge and flips its parent
unfoldable pub once : Peeled → Branch → Peeled
once p b = cond (get_or p.lit b.vertex false) (record { lit = toggle (toggle p.lit b.vertex) b.parent; list = p.list ++ (b.edge ∷ []) }) p

module _ (g : Graph) (sat : List Bool) where
  -- the end of the pair edge e that is not v
  abbrev pub across : ℕ → ℕ → ℕ
  across v e = cond (eqb (inner g e) v) (outer g e) (inner g e)

  -- the saturated pair edges of v, by number
  unfoldable pub joined : ℕ → List ℕ
  unfolding filter below
  joined v = filter (λ e. get_or sat e false && (is_pair g e && ends g e v)) (edges g)

  -- the edge e of v is tried: a vertex that is new is marked and pushed
  unfoldable pub try : ℕ → Walk → ℕ → Walk
  try v w e = cond (get_or w.met (across v e) false) w (record {
    met = set w.met (across v e) true;
    stack = across v e ∷ w.stack;
    branches = record { vertex = across v e; edge = e; parent = v } ∷ w.branches;
  })

  unfoldable pub meet : ℕ → Walk → List ℕ → Walk
  unfolding try
  meet v w [] = w
  meet v w (e ∷ es) = meet v (try v w e) es

  -- fuel bounds the vertices still to be taken from the stack
  unfoldable pub walk : ℕ → Walk → Walk
  unfolding meet joined
  walk zero w = w
  walk (suc fuel) w =
      elim w.stack [
        | [] ↦ w
        | v ∷ rest ↦ walk fuel (meet v (record { met = w.met; stack = rest; branches = w.branches }) (joined v))
      ]

  unfoldable pub branches_from : ℕ → List Branch
  unfolding walk
  branches_from v =
      (walk (suc g.detectors)
      (record { met = set (replicate g.detectors false) v true; stack = v ∷ []; branches = [] })).branches

  unfoldable pub unwind : Peeled → List Branch → Peeled
  unfolding once
  unwind p [] = p
  unwind p (b ∷ bs) = unwind (once p b) bs

  module _ (ls : List ℕ) where
    -- the saturated boundary edges of the cluster a, by number
    unfoldable pub exits_of : ℕ → List ℕ
    unfolding filter below
    exits_of a = filter (λ e. get_or sat e false && (not (is_pair g e) && eqb (get_or ls (inner g e) (inner g e)) a)) (edges g)

    -- a start that is still lit gives its boundary edge e
    unfoldable pub leave : Peeled → ℕ → Peeled
    leave p e = cond (get_or p.lit (inner g e) false) (record { lit = toggle p.lit (inner g e); list = p.list ++ (e ∷ []) }) p

    -- from the inner end of the first of the boundary edges, else from the lowest detector a
    unfoldable pub peel_by : Peeled → ℕ → List ℕ → Peeled
    unfolding unwind branches_from leave
    peel_by p a [] = unwind p (branches_from a)
    peel_by p a (e ∷ es) = leave (unwind p (branches_from (inner g e))) e

    unfoldable pub peel : Peeled → ℕ → Peeled
    unfolding exits_of peel_by
    peel p a = peel_by p a (exits_of a)

    unfoldable pub peel_all : Peeled → List ℕ → Peeled
    unfolding peel
    peel_all p [] = p
    peel_all p (a ∷ l) = peel_all (peel p a) l

    -- the clusters that hold a lit detector, in the order of their first
    unfoldable pub clusters : List Bool → List ℕ
    unfolding firsts filter below
    clusters lit = firsts (map (λ d. get_or ls d d) (filter (λ d. get_or lit d false) (below g.detectors)))

    -- the correction list
    unfoldable pub peeled : List Bool → List ℕ
    unfolding peel_all clusters
    peeled lit = (peel_all (record { lit = lit; list = [] }) (clusters lit)).list
