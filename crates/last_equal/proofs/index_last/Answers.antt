use Rattle.std.proofs.Common.{length}
use Rattle.cover.specs.Lent.{detectors_of}
use Rattle.last_equal.proofs.Chain.{chain_none}
use Rattle.last_equal.proofs.index_last.Goals as goal

pub loop-k-init : goal.loop-k-init
loop-k-init c = rw (c.fill.ensures.after (λ y e. e)) (chain_none (detectors_of c.args.lists.now) (length c.args.last_of.now) c.args.before.now)
