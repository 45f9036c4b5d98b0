-- A lent graph as a struct of slices, by what the statement has of it.
use Rattle.std.specs.Prelude.{length}
use Rattle.steps.specs.Graph.{Graph as EdgeGraph}
use Rattle.steps.specs.Call.{graph_of}
use Rattle.lent_graph.specs.Call.{Lent, lent_of}
use Rattle.lent_graph.specs.declared.Graph.{Graph}

-- its counts and tables
abbrev pub lent : Graph → Lent
lent g = lent_of g.detectors g.observables g.edges g.edge_u.now g.edge_v.now g.edge_weight.now g.edge_obs.now

-- the graph of its first edges, as many as it counts
abbrev pub edge_graph : Graph → EdgeGraph
edge_graph g = graph_of g.detectors g.observables g.edges g.edge_u.now g.edge_v.now g.edge_weight.now g.edge_obs.now

-- the graph of all edges in tables that have an entry for each and no more
abbrev pub whole_graph : Graph → EdgeGraph
whole_graph g = graph_of g.detectors g.observables (length g.edge_u.now) g.edge_u.now g.edge_v.now g.edge_weight.now g.edge_obs.now
