use mathlib.Core.Path.{refl}
use mathlib.Core.List.{[], ◌∷◌, map}
use native.Mathlib.Omega.{arith}
use Rattle.columns.proofs.Columns.{column_length, map_set, keep_none, keep_row, keep_more, keep_then, in_first}
use Rattle.cells.specs.Tables.{stack_number, stack_column, flag_number, flag_column}
use Rattle.cells.proofs.Stores.{no_stack}
use Rattle.tables.proofs.Marks.{entry_read, start_paint, place_in, turn_paint}
use Rattle.tables.proofs.paint.Goals as goal

pub loop-stack-init : goal.loop-stack-init
loop-stack-init c = (
  start_paint (map (stack_column (stack_number c.args.k)) c.args.stacks.now) c.args.n c.args.b (map (flag_column (flag_number c.args.j)) c.args.flags.now),
  keep_more (flag_number c.args.j ∷ []) refl (keep_none c.args.flags.now),
)

pub bounds-flags-at : goal.bounds-flags-at
bounds-flags-at c =
    let h = in_first c.args.stacks.now c.args.n _ c.loop-stack-test.true in
    omega (arith, place_in c.requires c.loop-stack.invariant.0 h, entry_read (stack_column (stack_number c.args.k)) c.args.stacks.now c.args.n c.loop-stack.stack-index no_stack c.loop-stack-test.true, column_length flag_column (flag_number c.args.j) c.loop-stack.flags)

pub loop-stack-preserved : goal.loop-stack-preserved
loop-stack-preserved c =
    let h = in_first c.args.stacks.now c.args.n _ c.loop-stack-test.true in
    let e = entry_read (stack_column (stack_number c.args.k)) c.args.stacks.now c.args.n c.loop-stack.stack-index no_stack c.loop-stack-test.true in (
      rw (map_set, c.set.ensures.written, c.get-at.ensures, e) (turn_paint c.requires c.loop-stack.invariant.0 h),
      keep_then c.loop-stack.invariant.1 (keep_row c.loop-stack.flags _ _ _ c.set.ensures.kept),
    )
