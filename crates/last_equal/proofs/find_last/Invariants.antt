-- `last_equal::find_last`: what is left of the chain has the answer.
use Rattle.last_equal.proofs.Chain.{WalkBy}
use Rattle.last_equal.proofs.find_last.Given as goal

abbrev pub invariant-loop-next : goal.invariant-loop-next
invariant-loop-next l = WalkBy l.s l.mechanisms l.lists l.next

abbrev pub decreases-loop-next : goal.decreases-loop-next
decreases-loop-next l = l.next
