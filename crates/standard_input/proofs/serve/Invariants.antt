-- `standard_input::serve`: between two turns the loop is ready for the next.
use Rattle.std.proofs.Common.{[]}
use Rattle.edges.specs.Lent.{slices_of}
use Rattle.reader.specs.Lent.{columns_in}
use Rattle.standard_input.specs.Ready.{Ready}
use Rattle.standard_input.proofs.serve.Given as goal

abbrev pub invariant-loop : goal.invariant-loop
invariant-loop g l = Ready l.place l.size (columns_in l.read) (slices_of l.edges []) l.block l.line l.out
