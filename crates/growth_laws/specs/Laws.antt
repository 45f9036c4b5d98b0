-- The laws of growth on accepted weights, in words of sets: docs/RULES.md, "Growth". Statements only: proofs/Proved.antt proves them.
use Rattle.std.specs.Prelude.{ℕ, suc, ◌<◌, ◌≡◌, List, [], ◌∷◌, Bool, true, false, cond, ◌&&◌, ◌||◌, ◌↔◌, eqb, length, get_or, pos}
use Rattle.std.specs.Float.{nan, inf, fin, binary64}
use Rattle.std.specs.Float.Ieee.{add, lt, le, is_nan}
use Rattle.lists.specs.Lists.{member}
use Rattle.weight.specs.Weight.{weight_fits}
use Rattle.steps.specs.Graph.{Graph}
use Rattle.steps.specs.Growth as Growth
use Rattle.steps.specs.Growth.{State, tolerance, label_of, is_counted, step_of, least_of, next, after}
use Rattle.steps.specs.Call.{AcceptedGraph}
use Rattle.steps.specs.Laws.{Clustered, Ordered, counted}

-- ---- the edges between two rounds

-- each edge's weight is one that the check of a graph lets pass
abbrev pub Fit : Graph → Type 0
Fit g = (e : ℕ) → e < length g.edge_u → weight_fits (get_or g.edge_weight e nan) ≡ true

-- an edge that is not saturated has grown to a finite value, from 0 to its weight
pub record Unsaturated (g : Graph) (s : State) (e : ℕ) : Type 0 where
  pub from : le (fin false 0 (pos 0)) (get_or s.growth e nan) ≡ true
  pub most : le (get_or s.growth e nan) (get_or g.edge_weight e nan) ≡ true
  pub ends : lt (get_or s.growth e nan) (inf false) ≡ true

-- "growth + 1e-9 is at least its weight"
abbrev pub reached : Graph → State → ℕ → Bool
reached g s e = le (get_or g.edge_weight e nan) (add binary64 (get_or s.growth e nan) tolerance)

-- ---- the least of a round

-- no counted edge gives NaN
abbrev pub NoNan : Graph → List Bool → State → Type 0
NoNan g lit s = (e : ℕ) → member e (counted g lit s) ≡ true → is_nan (step_of g lit s e) ≡ false

-- "the lowest-numbered edge giving the least (infinity included)"
pub record Least (g : Graph) (lit : List Bool) (s : State) (b : Growth.Least) : Type 0 where
  pub among : member b.edge (counted g lit s) ≡ true
  -- the increment is what the edge gives, 0 at least;
  pub gives : b.step ≡ step_of g lit s b.edge
  pub from : le (fin false 0 (pos 0)) b.step ≡ true
  -- no counted edge gives less,
  pub least : (e : ℕ) → member e (counted g lit s) ≡ true → lt (step_of g lit s e) b.step ≡ false
  -- and a counted edge with a lower number gives more
  pub lowest : (e : ℕ) → member e (counted g lit s) ≡ true → e < b.edge → lt b.step (step_of g lit s e) ≡ true
  -- "The Rust's comparison already takes it"
  pub taken : reached g (next g lit s) b.edge ≡ true

-- ---- the order of the active clusters

-- the place of the first that passes
unfoldable pub place : (ℕ → Bool) → List ℕ → ℕ
place p [] = 0
place p (a ∷ l) = cond (p a) 0 (suc (place p l))

-- the place of the cluster a
abbrev pub place_of : State → ℕ → ℕ
place_of s a = place (λ c. eqb c a) s.active

-- the earliest place, in the order of s, of the active clusters that are part of the cluster a of t
abbrev pub earliest : Graph → List Bool → State → State → ℕ → ℕ
earliest g lit s t a = place (λ c. eqb (label_of g lit t c) a) s.active

-- "a merged cluster takes the earliest of its active parts'": s before a round, t after it
pub record Merged (g : Graph) (lit : List Bool) (s t : State) : Type 0 where
  -- an active cluster has an active part,
  pub part : (a : ℕ) → member a t.active ≡ true → (c : ℕ) × (member c s.active ≡ true) × (label_of g lit t c ≡ a)
  -- and stands before another exactly if its earliest part stood before the other's
  pub before : (a b : ℕ) → member a t.active ≡ true → member b t.active ≡ true → (place_of t a < place_of t b) ↔ (earliest g lit s t a < earliest g lit s t b)

-- ---- all rounds of a shot

pub record GrowthLaws (g : Graph) (lit : List Bool) : Type 0 where
  pub unsaturated : (k e : ℕ) → e < length g.edge_u → get_or (after g lit k).saturated e false ≡ false → Unsaturated g (after g lit k) e
  pub no_nan : (k : ℕ) → NoNan g lit (after g lit k)
  -- where an edge is counted, the least is chosen among the counted
  pub least : (k e : ℕ) → member e (counted g lit (after g lit k)) ≡ true → Least g lit (after g lit k) (least_of g lit (after g lit k) (counted g lit (after g lit k)))
  -- so a round saturates the counted edges that reach their weight, and no others
  pub saturates : (k e : ℕ) → e < length g.edge_u
      → get_or (after g lit (suc k)).saturated e false ≡ (get_or (after g lit k).saturated e false || (is_counted g lit (after g lit k) e && reached g (after g lit (suc k)) e))
  -- a saturated edge stays saturated
  pub stays : (k e : ℕ) → get_or (after g lit k).saturated e false ≡ true → get_or (after g lit (suc k)).saturated e false ≡ true
  -- a label is the lowest detector that saturated pair edges join to it
  pub clustered : (k : ℕ) → Clustered g lit (after g lit k)
  -- a cluster has a place exactly if it is active, and one place only
  pub ordered : (k : ℕ) → Ordered g lit (after g lit k)
  pub merged : (k : ℕ) → Merged g lit (after g lit k) (after g lit (suc k))

-- of every accepted graph and every shot
abbrev pub Statement : Type 0
Statement = (g : Graph) → AcceptedGraph g → (lit : List Bool) → GrowthLaws g lit
