use mathlib.Core.Path.{refl}
use native.Mathlib.Omega.{arith}
use Rattle.lists.specs.Lists.{below, from}
use Rattle.rest.specs.Rows.{alone}
use Rattle.rest.proofs.Rows.{rows_next}
use Rattle.rest.proofs.rest_tree.Goals as goal

pub loop-i-init : goal.loop-i-init
unfolding below from
loop-i-init c = refl

pub loop-i-preserved : goal.loop-i-preserved
loop-i-preserved c = rw (c.alone.ensures, c.loop-i.invariant) (rows_next alone c.args.t.now c.loop-i.i (omega arith))
