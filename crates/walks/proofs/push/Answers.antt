-- `walks::push` meets its contract: each store is of another column. Assumes nothing.
use Rattle.walks.proofs.Rows.{pushed}
use Rattle.walks.proofs.push.Goals as goal

pub returns : goal.returns
returns c = pushed c.args.stacks.now c.args.t c.args.n c.args.o c.args.e c.args.x
