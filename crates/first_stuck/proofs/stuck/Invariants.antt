-- `first_stuck::stuck` meets its contract. Assumes nothing.
use mathlib.Core.Path.{◌≡◌}
use lib.ListN.{take}
use lib.Seq.{slice}
use Rattle.cells.specs.Tables.{frees, active}
use Rattle.first_stuck.specs.FirstStuck.{first_shut}
use Rattle.first_stuck.proofs.stuck.Given as goal

abbrev pub invariant-loop-stack : goal.invariant-loop-stack
invariant-loop-stack l = first_shut (frees l.flags) (slice l.stack-index l.a (active l.stacks)) ≡ first_shut (frees l.flags) (take l.a (active l.stacks))
