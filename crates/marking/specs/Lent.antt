-- What the passes ask, of a graph that is lent.
use Rattle.std.specs.Prelude.{List, ℕ}
use Rattle.steps.specs.Graph.{Graph as EdgeGraph}
use Rattle.lent_graph.specs.declared.Graph.{Graph}
use Rattle.marking.specs.Passes.{ends_graph, Unmet, Ready}

-- the graph of its ends alone
abbrev pub ends_in : Graph → EdgeGraph
ends_in g = ends_graph g.detectors g.edges g.edge_u.now g.edge_v.now

-- none of its edges is met yet
abbrev pub UnmetIn : Graph → List ℕ → List ℕ → Type 0
UnmetIn g marks wrong = Unmet g.edges g.edge_u.now g.edge_v.now marks wrong

-- it is accepted, with a shot of its width and scratch rows
abbrev pub ReadyIn : Graph → List ℕ → List ℕ → List ℕ → Type 0
ReadyIn g shot marks wrong = Ready g.detectors g.edges g.edge_u.now g.edge_v.now shot marks wrong
