-- The laws of a decomposed model.
use Rattle.decompose.specs.Laws.{Laws}
use Rattle.decompose.proofs.Keeps as keeps

pub laws : Laws
laws = record { graphlike = keeps.graphlike; placed = keeps.placed }
