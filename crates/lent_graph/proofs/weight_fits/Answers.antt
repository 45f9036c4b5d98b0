-- `lent_graph::weight_fits` meets its contract: the literals are the bounds of `weight_fits`.
use lib.Ieee.{of_bits}
use Rattle.weight.specs.Weight.{weight_fits}
use Rattle.lent_graph.proofs.weight_fits.Goals as goal

pub returns-then-w-2 : goal.returns-then-w-2
unfolding weight_fits of_bits
returns-then-w-2 c = simp (c.if-w.true, c.if-w-2.true)

pub returns-else-w-2 : goal.returns-else-w-2
unfolding weight_fits of_bits
returns-else-w-2 c = simp (c.if-w.true, c.if-w-2.false)
