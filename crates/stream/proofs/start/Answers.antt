-- `stream::start`: before the first byte.
use Rattle.stream.proofs.Wholes.{start_is}
use Rattle.stream.proofs.start.Goals as goal

pub returns : goal.returns
returns c = start_is c.begin.result c.begin.ensures
