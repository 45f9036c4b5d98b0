-- `session::begin`: the numbers before the first line.
use Rattle.session.proofs.Fronts.{begin_numbers}
use Rattle.session.proofs.begin.Goals as goal

pub returns : goal.returns
returns c = begin_numbers c.start.result c.start.ensures
