-- `marking::meet` meets its contract: the edges behind those that are left are fit, met and flipped.
use Rattle.marking.proofs.Meeting.{Meeting}
use Rattle.marking.proofs.meet.Given as goal

abbrev pub invariant-loop-e : goal.invariant-loop-e
invariant-loop-e l = Meeting l.g.detectors l.g.edges l.g.edge_u.now l.g.edge_v.now l.list l.initial.marks l.initial.wrong l.marks l.wrong l.e-iterator.iter.rest.now
