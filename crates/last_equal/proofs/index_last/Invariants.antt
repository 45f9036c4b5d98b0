-- `last_equal::index_last`: the first mechanisms are in their chains.
use Rattle.cover.specs.Lent.{detectors_of}
use Rattle.last_equal.specs.Last.{Chained}
use Rattle.last_equal.proofs.index_last.Given as goal

abbrev pub invariant-loop-k : goal.invariant-loop-k
invariant-loop-k l = Chained (detectors_of l.lists) l.k l.last_of l.before
