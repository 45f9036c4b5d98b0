-- `decompose::append_lists`: the lists of the mechanisms before k are written.
use Rattle.decompose.proofs.Appending.{Appending}
use Rattle.decompose.proofs.append_lists.Given as goal

abbrev pub invariant-loop-k : goal.invariant-loop-k
invariant-loop-k l = Appending l.ms.starts.now l.ms.detector_counts.now l.ms.observable_counts.now l.entries l.fn.first l.at l.initial.out l.k l.to l.out
