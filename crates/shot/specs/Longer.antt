-- A graph in tables that may be longer than its counts need, with the edges at each detector.
use Rattle.std.specs.Prelude.{ℕ, ◌+◌, ◌*◌, ◌<◌, ◌≤◌, List, length, Float}
use Rattle.bits.specs.Rows.{words}
use Rattle.steps.specs.Graph.{Ends}
use Rattle.steps.specs.Call.{graph_of}
use Rattle.growth_laws.specs.Laws.{Fit}
use Rattle.adjacency.specs.declared.Neighbor.{Neighbor}
use Rattle.adjacency.specs.Pairs.{AdjacentParts}

-- n edges whose ends are in order and whose weights fit
pub record Longer (d o n : ℕ) (u v : List ℕ) (weight : List Float) (obs off : List ℕ) (adj : List Neighbor) : Type 0 where
  pub ends : Ends (graph_of d o n u v weight obs)
  pub fits : Fit (graph_of d o n u v weight obs)
  pub firsts : n ≤ length u
  pub others : n ≤ length v
  pub weights : n ≤ length weight
  pub rows : n * words o ≤ length obs
  pub few : 2 * n < 4294967296
  pub offs : d + 1 ≤ length off
  pub adjacent : AdjacentParts d n u v off adj
