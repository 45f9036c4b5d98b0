-- The edges at each detector as a struct of slices, beside the graph that they are of.
use Rattle.std.specs.Prelude.{ℕ, List}
use Rattle.steps.specs.Graph.{Graph as EdgeGraph}
use Rattle.lent_graph.specs.declared.Graph.{Graph}
use Rattle.adjacency.specs.declared.Neighbor.{Neighbor}
use Rattle.adjacency.specs.Adjacent.{weighted, Sized, Counted, Summed, Adjacent}
use Rattle.adjacency.specs.Pairs.{near, away, Tabled, AdjacentParts}

-- what growth reads of a graph
abbrev pub weighted_of : Graph → EdgeGraph
weighted_of g = weighted g.detectors g.edge_u.now g.edge_v.now g.edge_weight.now

-- ---- of all edges in the tables

abbrev pub SizedIn : Graph → List ℕ → Type 0
SizedIn g off = Sized g.detectors g.edge_u.now g.edge_v.now off

abbrev pub CountedIn : Graph → List ℕ → Type 0
CountedIn g off = Counted g.detectors g.edge_u.now g.edge_v.now off

abbrev pub SummedIn : Graph → List ℕ → Type 0
SummedIn g off = Summed g.detectors g.edge_u.now g.edge_v.now off

abbrev pub AdjacentIn : Graph → List ℕ → List Neighbor → Type 0
AdjacentIn g off adj = Adjacent g.detectors g.edge_u.now g.edge_v.now off (near adj) (away adj)

-- ---- of as many as the graph counts

abbrev pub TabledIn : Graph → List ℕ → List Neighbor → Type 0
TabledIn g off adj = Tabled g.detectors g.edges g.edge_u.now g.edge_v.now off adj

abbrev pub AdjacentPartsIn : Graph → List ℕ → List Neighbor → Type 0
AdjacentPartsIn g off adj = AdjacentParts g.detectors g.edges g.edge_u.now g.edge_v.now off adj
