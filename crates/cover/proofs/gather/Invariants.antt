-- `cover::gather` meets its contract. The invariant is `Merging`: the candidates so far, before those from the next mechanism on, are all of them.
use Rattle.std.proofs.Common.{◌≡◌, ◌-◌, length}
use Rattle.cover.specs.Lent.{detectors_of}
use Rattle.cover.proofs.Merge.{Merging}
use Rattle.cover.proofs.gather.Given as goal

abbrev pub invariant-loop-next : goal.invariant-loop-next
invariant-loop-next l = (length l.heads ≡ 16) × Merging (detectors_of l.lists) l.index.kept l.ds l.next l.count l.numbers l.masks l.heads

abbrev pub decreases-loop-next : goal.decreases-loop-next
decreases-loop-next l = l.index.kept - l.next
