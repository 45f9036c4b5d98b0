-- `cover::index_kept` meets its contract. The invariant is `Linked`: the chains of the mechanisms from k on.
use Rattle.cover.specs.Lent.{detectors_of}
use Rattle.cover.proofs.Chain.{Linked}
use Rattle.cover.proofs.index_kept.Given as goal

abbrev pub invariant-loop-k : goal.invariant-loop-k
invariant-loop-k l = Linked (detectors_of l.lists) l.kept l.k l.first_of l.next_of
