-- `peeling::unwind` meets its contract. The invariant: to unwind the branches left from here is to unwind them all from the entry. Assumes nothing.
use mathlib.Core.List.{[], ◌∷◌}
use lib.ListN.{length}
use Rattle.cells.specs.Tables.{lits, active, order_edge, order_parent, SameFlags}
use Rattle.peeling.proofs.Unwinding.{Unwinding}
use Rattle.peeling.proofs.Backward.{Front}
use Rattle.peeling.proofs.unwind.Given as goal

abbrev pub invariant-loop-stack : goal.invariant-loop-stack
invariant-loop-stack l = Unwinding l.n (active l.stacks) (order_edge l.stacks) (order_parent l.stacks) (lits l.initial.flags) l.initial.list l.listed (length l.stack-iterator.iter.rest.now) l.at (lits l.flags) l.list
    × SameFlags (0 ∷ []) l.initial.flags l.flags × Front l.stacks l.stack-iterator.iter.rest.now
