-- `tables::paint` meets its contract. The invariant: the places before i are written. Assumes nothing.
use mathlib.Core.List.{[], ◌∷◌, map}
use Rattle.cells.specs.Tables.{stack_number, stack_column, flag_number, flag_column, SameFlags}
use Rattle.tables.proofs.Marks.{Painting}
use Rattle.tables.proofs.paint.Given as goal

abbrev pub invariant-loop-stack : goal.invariant-loop-stack
invariant-loop-stack l = Painting (map (stack_column (stack_number l.fn.k)) l.stacks) l.n l.b (map (flag_column (flag_number l.fn.j)) l.initial.flags) l.stack-index (map (flag_column (flag_number l.fn.j)) l.flags) × SameFlags (flag_number l.fn.j ∷ []) l.initial.flags l.flags
