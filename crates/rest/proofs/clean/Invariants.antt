-- `rest::clean` meets its contract. Assumes nothing.
use lib.Seq.{slice}
use Rattle.cells.specs.Tables.{seen}
use Rattle.rest.proofs.CleanRows.{UsedRows}
use Rattle.rest.proofs.clean.Given as goal

abbrev pub invariant-loop-stack : goal.invariant-loop-stack
invariant-loop-stack l = UsedRows l.g.detectors l.g.edge_u.now l.g.edge_v.now (slice l.stack-index l.n (seen l.stacks)) l.tree l.flags l.growth l.sat
