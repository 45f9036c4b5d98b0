-- A shot over lent tables: what is read, what has to be there, and the answer.
use Rattle.std.specs.Prelude.{ℕ, ◌*◌, ◌<◌, ◌≤◌, ◌≡◌, List, Bool, true, false, length, get_or, take, Float}
use Rattle.lists.specs.Lists.{below, filter}
use Rattle.bits.specs.Rows.{words, is_clear}
use Rattle.steps.specs.Graph.{Graph, Ends}
use Rattle.steps.specs.Shot.{Decoded, impossible, corrected, decode}
use Rattle.steps.specs.Call.{graph_of, lit_of}
use Rattle.growth_laws.specs.Laws.{Fit}
use Rattle.adjacency.specs.Adjacent.{weighted, Adjacent}
use Rattle.shot.specs.declared.Shot.{Shot}
use Rattle.shot.specs.declared.Shot.TheVariants as shot

-- the graph in tables that have an entry for each edge and no more
abbrev pub graph_in : ℕ → ℕ → List ℕ → List ℕ → List Float → List ℕ → Graph
graph_in d o u v weight obs = graph_of d o (length u) u v weight obs

-- the steps on it, and on the shot in a row
abbrev pub decode_in : ℕ → ℕ → List ℕ → List ℕ → List Float → List ℕ → List ℕ → Decoded
decode_in d o u v weight obs row = decode (graph_in d o u v weight obs) (lit_of d row)

-- what a shot's answer carries: the rounds finished, and the list's length or the detector named
abbrev pub shot_of : Decoded → Shot
shot_of (impossible n d) = shot.Stuck n d
shot_of (corrected n list) = shot.Decoded n (length list)

-- a graph whose ends are in order and whose weights fit, with the edges at each detector
pub record Tables (d o : ℕ) (u v : List ℕ) (weight : List Float) (obs off adj far : List ℕ) : Type 0 where
  pub ends : Ends (graph_in d o u v weight obs)
  pub others : length v ≡ length u
  pub weights : length weight ≡ length u
  pub rows : length u * words o ≤ length obs
  pub few : 2 * length u < 4294967296
  pub adjacent : Adjacent d u v off adj far
  pub fits : Fit (weighted d u v weight)

-- a shot of its width with clear padding, a row for its observables, and an entry of the list for each detector
pub record Given (d o : ℕ) (shot row list : List ℕ) : Type 0 where
  pub shots : length shot ≡ words d
  pub clear : is_clear d shot ≡ true
  pub rows : words o ≤ length row
  pub lists : d ≤ length list

-- a place for each detector, or for each of E edges, in tables whose contents are free
pub record Places (d E : ℕ) (defects seen active front touched cnt fresh order-edge order-parent : List ℕ) : Type 0 where
  pub lit_ones : d ≤ length defects
  pub seens : d ≤ length seen
  pub actives : d ≤ length active
  pub fronts : d ≤ length front
  -- one more than the edges, as a round asks
  pub touches : E < length touched
  pub counts : E < length cnt
  pub freshes : E ≤ length fresh
  pub trees : d ≤ length order-edge
  pub parents : d ≤ length order-parent

-- what growth leaves to the shot's end beside its own tables: the lit detectors listed, and places
pub record Left (d o : ℕ) (lit : List Bool) (row list defects : List ℕ) (l : ℕ) (active front order-edge order-parent : List ℕ) : Type 0 where
  pub few : l ≤ length defects
  pub listed : take l defects ≡ filter (λ x. get_or lit x false) (below d)
  pub rows : words o ≤ length row
  pub lists : d ≤ length list
  pub actives : d ≤ length active
  pub fronts : d ≤ length front
  pub trees : d ≤ length order-edge
  pub parents : d ≤ length order-parent
