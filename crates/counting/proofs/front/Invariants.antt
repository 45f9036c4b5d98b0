-- `counting::front` meets its contract. The invariant: it holds of the detectors seen before i.
use Prim.Native.Nat.{ℕ, ◌≤◌, ◌<◌}
use mathlib.Core.Path.{◌≡◌}
use mathlib.Core.List.{[], ◌∷◌}
use lib.ListN.{get_or, take}
use Rattle.lists.specs.Lists.{filter}
use Rattle.forest.specs.Forest.{Down, Flat, labels}
use Rattle.cells.specs.Tables.{parents, hots, seen, front, SameTree, SameStacks}
use Rattle.counting.specs.Counting.{warm}
use Rattle.counting.proofs.front.Given as goal

abbrev pub invariant-loop-i : goal.invariant-loop-i
invariant-loop-i l = record {
  few : l.m ≤ l.i;
  down : Down l.d (parents l.tree);
  kept : labels l.d (parents l.tree) ≡ labels l.d (parents l.initial.tree);
  trees : SameTree (0 ∷ []) l.initial.tree l.tree;
  rest : SameStacks (3 ∷ []) l.initial.stacks l.stacks;
  still : (x : ℕ) → x < l.d → Flat l.d (parents l.initial.tree) x → Flat l.d (parents l.tree) x;
  flat : (j : ℕ) → j < l.i → Flat l.d (parents l.tree) (get_or (seen l.initial.stacks) j 0);
  lists : take l.m (front l.stacks) ≡ filter (warm l.d (parents l.initial.tree) (hots l.flags)) (take l.i (seen l.initial.stacks));
}
