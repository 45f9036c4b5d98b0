-- `growing::least` meets its contract. The invariant: the least of the steps from i on and of that so far is the answer.
use mathlib.Core.Path.{◌≡◌}
use mathlib.Core.Bool.{false}
use lib.ListN.{take}
use lib.Seq.{slice}
use lib.Ieee.{inf}
use Rattle.cells.specs.Tables.{touched, cnt}
use Rattle.growing.specs.Growing.{least_in}
use Rattle.growing.proofs.least.Given as goal

abbrev pub invariant-loop-link : goal.invariant-loop-link
invariant-loop-link l = least_in l.edge_weight l.growth l.b (slice l.link-index l.m (touched l.links)) (slice l.link-index l.m (cnt l.links)) ≡ least_in l.edge_weight l.growth (inf false) (take l.m (touched l.links)) (take l.m (cnt l.links))
