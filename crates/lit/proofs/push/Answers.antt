-- `lit::push` meets its contract. Assumes nothing.
use Rattle.lit.proofs.Lights.{pushed}
use Rattle.lit.proofs.push.Goals as goal

pub returns : goal.returns
returns c = pushed c.args.stacks.now c.args.i c.args.x
