use Rattle.edges.proofs.Rows.{row_is}
use Rattle.edges.proofs.write_row.Goals as goal

pub returns : goal.returns
returns c = row_is c.args.observables c.args.list.now _ c.loop-j.j-index c.requires.1 c.loop-j.invariant.1 c.loop-j-test.false
