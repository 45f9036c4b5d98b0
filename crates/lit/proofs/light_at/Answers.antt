-- `lit::light_at` meets its contract. Assumes nothing.
use Rattle.lit.proofs.Lights.{lighted}
use Rattle.lit.proofs.light_at.Goals as goal

pub returns : goal.returns
returns c = lighted c.args.flags.now c.args.k
