-- `bits::list_word` meets its contract. The invariant: writing the bits of the word that is left gives the answer. Assumes nothing.
use mathlib.Core.List.{[], ◌∷◌, map}
use Rattle.cells.specs.Tables.{stack_number, stack_column, SameStacks}
use Rattle.bits.proofs.Lowest.{WordListing}
use Rattle.bits.proofs.list_word.Given as goal

abbrev pub invariant-loop-left : goal.invariant-loop-left
invariant-loop-left l = WordListing l.base l.word (map (stack_column (stack_number l.fn.k)) l.initial.stacks) l.from (map (stack_column (stack_number l.fn.k)) l.stacks) l.left l.at × SameStacks (stack_number l.fn.k ∷ []) l.initial.stacks l.stacks

abbrev pub decreases-loop-left : goal.decreases-loop-left
decreases-loop-left l = l.left
