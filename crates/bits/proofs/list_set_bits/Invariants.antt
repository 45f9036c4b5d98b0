-- `bits::list_set_bits` meets its contract. The invariant: writing the bits of the words from i on gives the answer. Assumes nothing.
use mathlib.Core.List.{[], ◌∷◌, map}
use Rattle.cells.specs.Tables.{stack_number, stack_column, SameStacks}
use Rattle.bits.proofs.Listed.{Listing}
use Rattle.bits.proofs.list_set_bits.Given as goal

abbrev pub invariant-loop-i : goal.invariant-loop-i
invariant-loop-i l = Listing l.n l.row (map (stack_column (stack_number l.fn.k)) l.initial.stacks) (map (stack_column (stack_number l.fn.k)) l.stacks) l.i l.at × SameStacks (stack_number l.fn.k ∷ []) l.initial.stacks l.stacks
