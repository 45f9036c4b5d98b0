-- `finish::xor_edge_observables` meets its contract. The invariant: the edges before this one are done.
use Rattle.finish.proofs.Observables.{Flipping}
use Rattle.finish.proofs.xor_edge_observables.Given as goal

abbrev pub invariant-loop-e : goal.invariant-loop-e
invariant-loop-e l = Flipping l.edges l.obs_words l.edge_obs l.initial.out_row l.list l.listed l.e-index l.out_row
