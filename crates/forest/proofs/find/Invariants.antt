-- `forest::find` meets its contract. The invariant: x is on the way up from v, and up is its parent. Assumes nothing.
use mathlib.Core.Path.{◌≡◌}
use mathlib.Core.List.{[], ◌∷◌}
use lib.ListN.{get_or}
use Rattle.cells.specs.Tables.{parents, SameTree}
use Rattle.forest.proofs.Forest.{Along}
use Rattle.forest.proofs.find.Given as goal

abbrev pub invariant-loop-up : goal.invariant-loop-up
invariant-loop-up l = Along l.d (parents l.initial.tree) (parents l.tree) l.v l.x × (l.up ≡ get_or (parents l.tree) l.x 0) × SameTree (0 ∷ []) l.initial.tree l.tree

abbrev pub decreases-loop-up : goal.decreases-loop-up
decreases-loop-up l = l.x
