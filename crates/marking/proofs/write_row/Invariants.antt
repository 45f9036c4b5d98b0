-- `marking::write_row` meets its contract: the row is the XOR of the edges behind those that are left.
use Rattle.marking.proofs.Xors.{Summing}
use Rattle.marking.proofs.write_row.Given as goal

abbrev pub invariant-loop-e : goal.invariant-loop-e
invariant-loop-e l = Summing l.w l.edge_obs l.list l.row l.e-iterator.iter.rest.now
