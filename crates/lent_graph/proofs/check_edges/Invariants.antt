-- `lent_graph::check_edges`: the check from edge e on is the whole check.
use Prim.Native.Nat.{◌-◌}
use mathlib.Core.Path.{◌≡◌}
use Rattle.lists.specs.Lists.{from, below}
use Rattle.steps.specs.Call.{check_edges}
use Rattle.lent_graph.specs.Graph.{edge_graph}
use Rattle.lent_graph.proofs.check_edges.Given as goal

abbrev pub invariant-loop-e : goal.invariant-loop-e
invariant-loop-e l = check_edges (edge_graph l.g) (from (l.g.edges - l.e) l.e) ≡ check_edges (edge_graph l.g) (below l.g.edges)
