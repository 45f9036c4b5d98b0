-- What the tables of growth hold between two rounds: a `State` of `steps`, and what is kept beside it.
use Rattle.std.specs.Prelude.{ℕ, ◌+◌, ◌<◌, ◌≤◌, ◌≡◌, List, [], ◌∷◌, Bool, true, false, cond, length, get_or, take, pos, Float}
use Rattle.std.specs.Float.{nan, fin}
use Rattle.lists.specs.Lists.{any, member, falses}
use Rattle.steps.specs.Graph.{Graph, boundary, inner, outer, edges, is_pair}
use Rattle.steps.specs.Growth.{State, is_odd, exits}
use Rattle.found.proofs.Rounds.{Kept}
use Rattle.forest.specs.Forest.{Down, labels}
use Rattle.adjacency.specs.Adjacent.{touches}

-- the growth of an edge before the first round
abbrev pub zero64 : Float
zero64 = fin false 0 (pos 0)

-- the state that the tables hold: n clusters are active
abbrev pub state_of : ℕ → List Float → List Bool → List ℕ → List ℕ → ℕ → State
state_of d growth sat parent active n = record { growth = growth; saturated = sat; label = labels d parent; active = take n active }

-- the lowest of an ascending list that passes; the boundary's number where none does
unfoldable pub lowest : (ℕ → Bool) → List ℕ → ℕ
lowest p [] = boundary
lowest p (e ∷ l) = cond (p e) e (lowest p l)

-- of each cluster, at its root: whether an odd number of its detectors is lit, and its lowest saturated boundary edge
pub record Clusters (g : Graph) (lit sat : List Bool) (parent : List ℕ) (odd : List Bool) (exit : List ℕ) : Type 0 where
  pub down : Down g.detectors parent
  pub odds : length odd ≡ g.detectors
  pub exits : length exit ≡ g.detectors
  pub odd_is : (r : ℕ) → r < g.detectors → get_or (labels g.detectors parent) r 0 ≡ r
      → get_or odd r false ≡ is_odd g lit (labels g.detectors parent) r
  pub exit_is : (r : ℕ) → r < g.detectors → get_or (labels g.detectors parent) r 0 ≡ r
      → get_or exit r 0 ≡ lowest (Rattle.steps.specs.Growth.exits g lit sat (labels g.detectors parent) r) (edges g)

-- the n detectors seen: each lit one, and each end of a saturated edge
pub record Seen (g : Graph) (lit sat known : List Bool) (seen : List ℕ) (n : ℕ) : Type 0 where
  pub knowns : length known ≡ g.detectors
  pub room : g.detectors ≤ length seen
  pub many : n + falses known ≡ g.detectors
  pub inside : (i : ℕ) → i < n → get_or seen i 0 < g.detectors
  pub listed : (x : ℕ) → x < g.detectors → member x (take n seen) ≡ get_or known x false
  pub lit_known : (x : ℕ) → x < g.detectors → get_or lit x false ≡ true → get_or known x false ≡ true
  pub inner_known : (e : ℕ) → e < length g.edge_u → get_or sat e false ≡ true → get_or known (inner g e) false ≡ true
  pub outer_known : (e : ℕ) → e < length g.edge_u → get_or sat e false ≡ true → is_pair g e ≡ true → get_or known (outer g e) false ≡ true

-- an edge of which no end is seen has not grown
abbrev pub Calm : Graph → List Float → List Bool → Type 0
Calm g growth known =
    (e : ℕ) → e < length g.edge_u → get_or known (inner g e) false ≡ false → (is_pair g e ≡ true → get_or known (outer g e) false ≡ false) → get_or growth e nan ≡ zero64

-- between two rounds: the roots of the active clusters are hot, and none is free yet
pub record Rest (g : Graph) (active : List ℕ) (n : ℕ) (hot free : List Bool) : Type 0 where
  pub hots : length hot ≡ g.detectors
  pub hot_is : (r : ℕ) → r < g.detectors → get_or hot r false ≡ member r (take n active)
  pub frees : length free ≡ g.detectors
  pub none_free : (r : ℕ) → get_or free r false ≡ false

-- all of it
pub record Rep (g : Graph) (lit : List Bool) (s : State) (growth : List Float) (sat : List Bool) (parent active : List ℕ) (a : ℕ)
    (odd : List Bool) (exit : List ℕ) (known : List Bool) (seen : List ℕ) (n : ℕ) (hot free : List Bool) : Type 0 where
  pub state : s ≡ state_of g.detectors growth sat parent active a
  pub lits : length lit ≡ g.detectors
  pub growths : length growth ≡ length g.edge_u
  pub parents : length parent ≡ g.detectors
  pub kept : Kept g lit s.saturated s.label s.active
  pub actives : a ≤ length active
  pub inside : (i : ℕ) → i < a → get_or active i 0 < g.detectors
  pub clusters : Clusters g lit sat parent odd exit
  pub seens : Seen g lit sat known seen n
  pub calm : Calm g growth known
  pub rest : Rest g active a hot free

-- after a shot: whatever is not at rest belongs to one of the detectors xs, or to an edge of one
pub record Used (d : ℕ) (us vs xs : List ℕ) (lit : List Bool) (growth : List Float) (sat known : List Bool) (parent : List ℕ) (odd : List Bool) (exit : List ℕ) (hot free : List Bool) : Type 0 where
  pub lits : length lit ≡ d
  pub growths : length growth ≡ length us
  pub sats : length sat ≡ length us
  pub knowns : length known ≡ d
  pub parents : length parent ≡ d
  pub odds : length odd ≡ d
  pub exits : length exit ≡ d
  pub hots : length hot ≡ d
  pub frees : length free ≡ d
  pub lit_rest : (x : ℕ) → x < d → member x xs ≡ false → get_or lit x false ≡ false
  pub known_rest : (x : ℕ) → x < d → member x xs ≡ false → get_or known x false ≡ false
  pub parent_rest : (x : ℕ) → x < d → member x xs ≡ false → get_or parent x 0 ≡ x
  pub odd_rest : (x : ℕ) → x < d → member x xs ≡ false → get_or odd x false ≡ false
  pub exit_rest : (x : ℕ) → x < d → member x xs ≡ false → get_or exit x 0 ≡ boundary
  pub hot_rest : (x : ℕ) → x < d → member x xs ≡ false → get_or hot x false ≡ false
  pub free_rest : (x : ℕ) → x < d → member x xs ≡ false → get_or free x false ≡ false
  pub growth_rest : (e : ℕ) → e < length us → any (λ x. touches us vs x e) xs ≡ false → get_or growth e nan ≡ zero64
  pub sat_rest : (e : ℕ) → e < length us → any (λ x. touches us vs x e) xs ≡ false → get_or sat e false ≡ false
