-- `adjacency::fill` meets its contract. The invariant: the edges from e on are put. Assumes nothing.
use Rattle.adjacency.specs.Pairs.{near, away}
use Rattle.adjacency.proofs.Tables.{Filling}
use Rattle.adjacency.proofs.fill.Given as goal

abbrev pub invariant-loop-e : goal.invariant-loop-e
invariant-loop-e l = Filling l.g.detectors l.g.edge_u.now l.g.edge_v.now (near l.initial.adj) (away l.initial.adj) l.e l.adj_offsets (near l.adj) (away l.adj)
