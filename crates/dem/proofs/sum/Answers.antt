use Rattle.std.proofs.Common.{rules}
use Rattle.dem.proofs.Sums.{summed_bytes}
use Rattle.dem.proofs.sum.Goals as goal

pub returns : goal.returns
returns c = summed_bytes c.args.counts.now c.sum.result (search rules) c.type_inv.counts
