use mathlib.Core.Path.{refl, sym, ◌∙◌}
use mathlib.Core.List.{[], ◌∷◌}
use native.Mathlib.Omega.{arith}
use lib.ListN.{length-set}
use Rattle.std.proofs.Common.{rules}
use Rattle.columns.proofs.Columns.{map_set, keep_none, keep_more, keep_then}
use Rattle.cells.proofs.Stores.{kept_parent, read_parent}
use Rattle.forest.proofs.Forest.{along_start, found, parent_le, grand_le, grand_in, halve}
use Rattle.forest.proofs.Rows.{in_rows}
use Rattle.forest.proofs.find.Goals as goal

pub bounds-tree-x : goal.bounds-tree-x
bounds-tree-x c = in_rows c.args.tree.now c.requires.grown.down c.requires.v_lt_d

pub loop-up-init : goal.loop-up-init
loop-up-init c = (along_start c.requires.grown.down c.requires.v_lt_d, sym (read_parent c.args.tree.now c.args.v), keep_more (0 ∷ []) refl (keep_none c.args.tree.now))

pub bounds-tree-x-in-loop-up-2 : goal.bounds-tree-x-in-loop-up-2
bounds-tree-x-in-loop-up-2 c =
    simp length-set (omega (arith, read_parent c.loop-up.tree c.loop-up.up, grand_in c.loop-up.invariant.0 c.loop-up.up c.loop-up.invariant.1, in_rows c.loop-up.tree c.loop-up.invariant.0.tree (grand_in c.loop-up.invariant.0 c.loop-up.up c.loop-up.invariant.1)))

pub loop-up-smaller : goal.loop-up-smaller
loop-up-smaller c =
    omega (arith, read_parent c.loop-up.tree c.loop-up.up, parent_le c.loop-up.invariant.0 c.loop-up.up c.loop-up.invariant.1, grand_le c.loop-up.invariant.0 c.loop-up.up c.loop-up.invariant.1)

pub loop-up-preserved : goal.loop-up-preserved
loop-up-preserved c = (
  rw map_set (rw read_parent at (halve c.loop-up.invariant.0 c.loop-up.up c.loop-up.invariant.1 c.loop-up-test.true)),
  search (rules, read_parent),
  keep_then c.loop-up.invariant.2 (kept_parent c.loop-up.tree c.loop-up.x _ _),
)

pub returns : goal.returns
returns c = (found c.requires.grown.down c.loop-up.invariant.0 (sym c.loop-up.invariant.1 ∙ c.loop-up-test.false), c.loop-up.invariant.2)
