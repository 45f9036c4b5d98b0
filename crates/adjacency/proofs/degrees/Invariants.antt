-- `adjacency::degrees` meets its contract. The invariant: the edges from e on are counted. Assumes nothing.
use Rattle.adjacency.proofs.Tables.{Counting}
use Rattle.adjacency.proofs.degrees.Given as goal

abbrev pub invariant-loop-e : goal.invariant-loop-e
invariant-loop-e l = Counting l.g.detectors l.g.edge_u.now l.g.edge_v.now l.e l.adj_offsets
