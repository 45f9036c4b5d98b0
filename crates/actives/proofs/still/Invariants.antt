-- `actives::still` meets its contract. Assumes nothing.
use Prim.Native.Nat.{ℕ, ◌≤◌, ◌<◌}
use mathlib.Core.Path.{◌≡◌}
use mathlib.Core.List.{[], ◌∷◌}
use mathlib.Core.Bool.{false}
use lib.ListN.{get_or, take}
use Rattle.lists.specs.Lists.{member}
use Rattle.forest.specs.Forest.{Down, labels}
use Rattle.cells.specs.Tables.{parents, exits, odds, hots, active, SameTree, SameFlags, SameStacks}
use Rattle.actives.specs.Actives.{onward}
use Rattle.actives.proofs.still.Given as goal

abbrev pub invariant-loop-i : goal.invariant-loop-i
invariant-loop-i l = (l.k ≤ l.i) × Down l.d (parents l.tree) × (labels l.d (parents l.tree) ≡ labels l.d (parents l.initial.tree)) × SameTree (0 ∷ []) l.initial.tree l.tree × SameFlags (3 ∷ []) l.initial.flags l.flags × SameStacks (2 ∷ []) l.initial.stacks l.stacks
    × ((j : ℕ) → l.i ≤ j → get_or (active l.stacks) j 0 ≡ get_or (active l.initial.stacks) j 0) × (take l.k (active l.stacks) ≡ onward l.d (parents l.initial.tree) (odds l.initial.flags) (exits l.initial.tree) (take l.i (active l.initial.stacks))) × ((r : ℕ) → r < l.d → get_or (hots l.flags) r false ≡ member r (take l.k (active l.stacks)))
    × ((j : ℕ) → j < l.k → get_or (active l.stacks) j 0 < l.d)
