use mathlib.Core.Path.{refl}
use mathlib.Core.List.{[], ◌∷◌, map}
use Prim.Native.Nat.{◌+◌, ◌-◌, ◌≤◌}
use native.Mathlib.Nat.{pos_of_ne-zero}
use native.Mathlib.Omega.{arith}
use lib.Bits.{and_le_r}
use lib.ListN.{length}
use Rattle.columns.proofs.Columns.{column_length, map_set, keep_none, keep_row, keep_more, keep_then}
use Rattle.cells.specs.Tables.{stack_number, stack_column}
use Rattle.bits.specs.Rows.{word_bits}
use Rattle.bits.proofs.Lowest.{word_room, word_turn, word_end, trailing_lt}
use Rattle.bits.proofs.list_word.Goals as goal

pub loop-left-init : goal.loop-left-init
loop-left-init c = (record { fits = omega arith; count = refl; long = refl; writes = refl }, keep_more (stack_number c.args.k ∷ []) refl (keep_none c.args.stacks.now))

pub overflow_add-base : goal.overflow_add-base
overflow_add-base c = omega (arith, trailing_lt c.loop-left.left c.loop-left.invariant.0.fits c.loop-left-test.true)

pub bounds-stacks-at : goal.bounds-stacks-at
bounds-stacks-at c =
    let room : c.args.from + length (word_bits c.args.base c.args.word) ≤ length (map (stack_column (stack_number c.args.k)) c.args.stacks.now) = omega (arith, column_length stack_column (stack_number c.args.k) c.args.stacks.now) in
    omega (arith, word_room c.args.base c.args.word (map (stack_column (stack_number c.args.k)) c.args.stacks.now) c.args.from (map (stack_column (stack_number c.args.k)) c.loop-left.stacks) c.loop-left.left c.loop-left.at c.loop-left.invariant.0 c.loop-left-test.true room, column_length stack_column (stack_number c.args.k) c.loop-left.stacks)

pub loop-left-smaller : goal.loop-left-smaller
loop-left-smaller c = omega (arith, and_le_r c.loop-left.left (c.loop-left.left - 1), pos_of_ne-zero c.loop-left-test.true)

pub loop-left-preserved : goal.loop-left-preserved
loop-left-preserved c = (
  rw (map_set, c.set.ensures.written) (word_turn c.args.base c.args.word (map (stack_column (stack_number c.args.k)) c.args.stacks.now) c.args.from (map (stack_column (stack_number c.args.k)) c.loop-left.stacks) c.loop-left.left c.loop-left.at c.loop-left.invariant.0 c.loop-left-test.true),
  keep_then c.loop-left.invariant.1 (keep_row c.loop-left.stacks c.loop-left.at _ _ c.set.ensures.kept),
)

pub returns : goal.returns
returns c =
    let w = word_end c.args.base c.args.word (map (stack_column (stack_number c.args.k)) c.args.stacks.now) c.args.from (map (stack_column (stack_number c.args.k)) c.loop-left.stacks) c.loop-left.left c.loop-left.at c.loop-left.invariant.0 c.loop-left-test.false in (w.0, w.1, c.loop-left.invariant.1)
