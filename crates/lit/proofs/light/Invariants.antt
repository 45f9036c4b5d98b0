-- `lit::light` meets its contract. Assumes nothing.
use Prim.Native.Nat.{ℕ}
use mathlib.Core.Path.{◌≡◌}
use mathlib.Core.List.{[], ◌∷◌}
use mathlib.Core.Bool.{false, ◌||◌}
use lib.ListN.{get_or, take}
use Rattle.cells.specs.Tables.{lits, odds, knowns, hots, defects, active, seen, SameFlags, SameStacks}
use Rattle.lists.specs.Lists.{member}
use Rattle.lit.proofs.light.Given as goal

abbrev pub invariant-loop-i : goal.invariant-loop-i
invariant-loop-i v = SameFlags (0 ∷ 1 ∷ 2 ∷ 3 ∷ []) v.initial.flags v.flags × SameStacks (1 ∷ 2 ∷ []) v.initial.stacks v.stacks
    × ((x : ℕ) → get_or (lits v.flags) x false ≡ (get_or (lits v.initial.flags) x false || member x (take v.i (defects v.initial.stacks))))
    × ((x : ℕ) → get_or (odds v.flags) x false ≡ (get_or (odds v.initial.flags) x false || member x (take v.i (defects v.initial.stacks))))
    × ((x : ℕ) → get_or (knowns v.flags) x false ≡ (get_or (knowns v.initial.flags) x false || member x (take v.i (defects v.initial.stacks))))
    × ((x : ℕ) → get_or (hots v.flags) x false ≡ (get_or (hots v.initial.flags) x false || member x (take v.i (defects v.initial.stacks))))
    × (take v.i (active v.stacks) ≡ take v.i (defects v.initial.stacks)) × (take v.i (seen v.stacks) ≡ take v.i (defects v.initial.stacks))
