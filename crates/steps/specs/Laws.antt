-- Laws of growth in words of sets: docs/RULES.md, "Growth".
use Rattle.std.specs.Prelude.{ℕ, suc, ◌≤◌, ◌<◌, ◌≡◌, List, [], ◌∷◌, Bool, true, false, ◌↔◌, length, get_or, set, replicate}
use Rattle.std.specs.Float.Ieee as Ieee
use Rattle.std.specs.Float.{inf}
use Rattle.lists.specs.Lists.{filter, member}
use Rattle.steps.specs.Graph.{Graph, inner, outer, edges, is_pair}
use Rattle.steps.specs.Growth.{State, Least, is_odd, is_active, label_of, is_counted, step_of, least_of, after, short, growth}
use Rattle.steps.specs.Peeling.{Walk, walk, branches_from}
use Rattle.steps.specs.Found.{Distinct}

-- ---- joined detectors

module _ (g : Graph) where
  -- c does not tell the ends of a saturated pair edge apart
  abbrev pub Constant : List Bool → (ℕ → Bool) → Type 0
  Constant sat c = (e : ℕ) → e < length g.edge_u → get_or sat e false ≡ true → is_pair g e ≡ true → c (inner g e) ≡ c (outer g e)

  -- a path of saturated pair edges leads from x to y: no such c tells them apart
  abbrev pub Linked : List Bool → ℕ → ℕ → Type 0
  Linked sat x y = (c : ℕ → Bool) → Constant sat c → c x ≡ c y

-- ---- clusters between two rounds

-- "naming its lowest detector": a label is the lowest detector that saturated pair edges join to it
pub record Clustered (g : Graph) (lit : List Bool) (s : State) : Type 0 where
  pub low : (d : ℕ) → d < g.detectors → label_of g lit s d ≤ d
  pub own : (d : ℕ) → d < g.detectors → label_of g lit s (label_of g lit s d) ≡ label_of g lit s d
  -- a detector is joined to its label,
  pub linked : (d : ℕ) → d < g.detectors → Linked g s.saturated (label_of g lit s d) d
  -- two detectors are joined exactly if they have the same label,
  pub exactly : (c d : ℕ) → c < g.detectors → d < g.detectors → (label_of g lit s c ≡ label_of g lit s d) ↔ Linked g s.saturated c d
  -- and none that is joined to d is lower than d's label
  pub lowest : (c d : ℕ) → c < g.detectors → d < g.detectors → Linked g s.saturated c d → label_of g lit s d ≤ c

-- a saturated boundary edge of the cluster a
pub record Exit (g : Graph) (lit : List Bool) (s : State) (a e : ℕ) : Type 0 where
  pub known : e < length g.edge_u
  pub solid : get_or s.saturated e false ≡ true
  pub single : is_pair g e ≡ false
  pub at : label_of g lit s (inner g e) ≡ a

-- "A cluster is active if odd and without a saturated boundary edge; others have no place"
pub record Ordered (g : Graph) (lit : List Bool) (s : State) : Type 0 where
  pub told : (a : ℕ) → member a s.active ≡ is_active g lit s.saturated s.label a
  pub exactly : (a : ℕ) → (member a s.active ≡ true) ↔ ((is_odd g lit s.label a ≡ true) × ((e : ℕ) → Exit g lit s a e → ⊥))
  -- no cluster stands twice in the order
  pub once : Distinct s.active

-- ---- the least of a round

-- the counted edges, by number
abbrev pub counted : Graph → List Bool → State → List ℕ
counted g lit s = filter (is_counted g lit s) (edges g)

-- "the lowest-numbered edge giving the least (infinity included)"
pub record Chosen (g : Graph) (lit : List Bool) (s : State) (b : Least) : Type 0 where
  pub among : member b.edge (counted g lit s) ≡ true
  -- no counted edge gives less,
  pub least : (e : ℕ) → member e (counted g lit s) ≡ true → Ieee.lt (step_of g lit s e) b.step ≡ false
  -- below infinity the increment is what the edge gives,
  pub gives : Ieee.lt b.step (inf false) ≡ true → b.step ≡ step_of g lit s b.edge
  -- and so it is at infinity, unless the edge gives NaN
  pub gives_too : Ieee.is_nan (step_of g lit s b.edge) ≡ false → b.step ≡ step_of g lit s b.edge
  -- a counted edge with a lower number gives more, or NaN
  pub lowest : (e : ℕ) → member e (counted g lit s) ≡ true → e < b.edge → Ieee.is_nan (step_of g lit s e) ≡ false → Ieee.lt b.step (step_of g lit s e) ≡ true

-- ---- all rounds of a shot

pub record Grows (g : Graph) (lit : List Bool) : Type 0 where
  -- the rounds allowed are enough
  pub enough : growth g lit ≡ short → ⊥
  -- a saturated edge stays saturated, in the next round and in every later one
  pub stays : (k e : ℕ) → get_or (after g lit k).saturated e false ≡ true → get_or (after g lit (suc k)).saturated e false ≡ true
  pub lasts : (k n e : ℕ) → k ≤ n → get_or (after g lit k).saturated e false ≡ true → get_or (after g lit n).saturated e false ≡ true
  pub clustered : (k : ℕ) → Clustered g lit (after g lit k)
  pub ordered : (k : ℕ) → Ordered g lit (after g lit k)
  -- where an edge is counted, the least is chosen among the counted
  pub chosen : (k e : ℕ) → member e (counted g lit (after g lit k)) ≡ true → Chosen g lit (after g lit k) (least_of g lit (after g lit k) (counted g lit (after g lit k)))

-- ---- the walk of a cluster

-- the start alone is met, and it waits
abbrev pub begun : Graph → ℕ → Walk
begun g v = record { met = set (replicate g.detectors false) v true; stack = v ∷ []; branches = [] }

-- the walk from v, with as many vertices as it may take from the stack
abbrev pub walk_from : Graph → List Bool → ℕ → Walk
walk_from g sat v = walk g sat (suc g.detectors) (begun g v)

-- they are enough: at the end of the walk whose branches are peeled, nothing waits
pub record Walks (g : Graph) (sat : List Bool) (v : ℕ) : Type 0 where
  pub branches : branches_from g sat v ≡ (walk_from g sat v).branches
  pub empty : (walk_from g sat v).stack ≡ []

-- of every graph whose ends are in order
pub record Laws (g : Graph) : Type 0 where
  pub grows : (lit : List Bool) → Grows g lit
  pub walks : (sat : List Bool) (v : ℕ) → v < g.detectors → Walks g sat v
