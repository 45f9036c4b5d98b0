-- `actives::cool` meets its contract. Assumes nothing.
use Prim.Native.Nat.{ℕ}
use mathlib.Core.Path.{◌≡◌}
use mathlib.Core.List.{[], ◌∷◌}
use mathlib.Core.Bool.{false, not, ◌&&◌}
use lib.ListN.{get_or, take}
use Rattle.lists.specs.Lists.{member}
use Rattle.cells.specs.Tables.{hots, frees, active, SameFlags}
use Rattle.actives.proofs.cool.Given as goal

abbrev pub invariant-loop-stack : goal.invariant-loop-stack
invariant-loop-stack l = SameFlags (3 ∷ 4 ∷ []) l.initial.flags l.flags × ((r : ℕ) → get_or (hots l.flags) r false ≡ (get_or (hots l.initial.flags) r false && not (member r (take l.stack-index (active l.stacks))))) × ((r : ℕ) → get_or (frees l.flags) r false ≡ (get_or (frees l.initial.flags) r false && not (member r (take l.stack-index (active l.stacks)))))
