-- `graph::join_all`: the tables hold the edges of the mechanisms so far.
use Rattle.dem.specs.Lent.{tables_of}
use Rattle.edges.specs.Lent.{slices_of, SameEdges, SameScratch}
use Rattle.graph.proofs.Going.{Going}
use Rattle.graph.proofs.join_all.Given as goal

abbrev pub invariant-loop-i : goal.invariant-loop-i
invariant-loop-i l = record {
  going : Going l.model.detectors l.model.observables (tables_of l.model) (slices_of l.initial.edges l.initial.s.edge_p.now) l.i l.place l.count (slices_of l.edges l.s.edge_p.now) l.s.first.now l.s.next.now;
  edges : SameEdges l.initial.edges l.edges;
  scratch : SameScratch l.initial.s l.s;
}
