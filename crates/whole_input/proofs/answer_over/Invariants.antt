-- `whole_input::answer_over`: between two calls of `feed` the output is filled with the answers to what is taken; then what is left at the end.
use Prim.Native.Nat.{◌-◌}
use mathlib.Core.Path.{◌≡◌}
use mathlib.Core.List.{[]}
use lib.ListN.{length}
use Rattle.edges.specs.Lent.{slices_of}
use Rattle.reader.specs.Lent.{columns_in}
use Rattle.whole_input.specs.Whole.{Filled}
use Rattle.whole_input.proofs.answer_over.Given as goal

abbrev pub invariant-loop-p : goal.invariant-loop-p
invariant-loop-p l = Filled l.input l.p l.at (columns_in l.read) (slices_of l.edges []) l.line l.reply l.initial.out l.out × (l.p.filled ≡ 0)

abbrev pub decreases-loop-p : goal.decreases-loop-p
decreases-loop-p l = length l.input - l.p.taken
