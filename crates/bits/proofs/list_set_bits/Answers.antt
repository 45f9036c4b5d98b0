use Prim.Native.Nat.{◌≤◌}
use mathlib.Core.Path.{refl}
use mathlib.Core.List.{[], ◌∷◌, map}
use native.Mathlib.Omega.{arith}
use lib.ListN.{length}
use Rattle.columns.proofs.Columns.{column_length, keep_length, keep_none, keep_more, keep_then}
use Rattle.cells.specs.Tables.{stack_number, stack_column}
use Rattle.bits.proofs.Word.{words_tight}
use Rattle.bits.proofs.Listed.{listing_start, listing_room, listing_turn, listing_end}
use Rattle.bits.proofs.list_set_bits.Goals as goal

pub loop-i-init : goal.loop-i-init
loop-i-init c = (listing_start c.args.n c.args.row.now (map (stack_column (stack_number c.args.k)) c.args.stacks.now) c.requires.row_len.0 c.requires.row_len.1, keep_more (stack_number c.args.k ∷ []) refl (keep_none c.args.stacks.now))

pub overflow_mul-base : goal.overflow_mul-base
overflow_mul-base c = omega (arith, words_tight c.args.n)

pub overflow_cast-base : goal.overflow_cast-base
overflow_cast-base c = omega (arith, words_tight c.args.n)

pub list_word-at-requires : goal.list_word-at-requires
list_word-at-requires c =
    let room : c.args.n ≤ length (map (stack_column (stack_number c.args.k)) c.args.stacks.now) = omega (arith, column_length stack_column (stack_number c.args.k) c.args.stacks.now) in record {
      base_bound = (
        omega (arith, words_tight c.args.n),
        omega (arith, listing_room c.args.n c.args.row.now (map (stack_column (stack_number c.args.k)) c.args.stacks.now) (map (stack_column (stack_number c.args.k)) c.loop-i.stacks) c.loop-i.i c.loop-i.at c.loop-i.invariant.0 c.loop-i-test.true room, column_length stack_column (stack_number c.args.k) c.loop-i.stacks),
      );
    }

pub loop-i-preserved : goal.loop-i-preserved
loop-i-preserved c = (
  listing_turn c.args.n c.args.row.now (map (stack_column (stack_number c.args.k)) c.args.stacks.now) (map (stack_column (stack_number c.args.k)) c.loop-i.stacks) c.loop-i.i c.loop-i.at c.loop-i.invariant.0 (map (stack_column (stack_number c.args.k)) c.list_word-at.new.stacks) c.list_word-at.result c.loop-i-test.true (keep_length c.list_word-at.ensures.2 (stack_number c.args.k)) c.list_word-at.ensures.0 c.list_word-at.ensures.1,
  keep_then c.loop-i.invariant.1 c.list_word-at.ensures.2,
)

pub returns : goal.returns
returns c =
    let room : c.args.n ≤ length (map (stack_column (stack_number c.args.k)) c.args.stacks.now) = omega (arith, column_length stack_column (stack_number c.args.k) c.args.stacks.now) in
    let w = listing_end c.args.n c.args.row.now (map (stack_column (stack_number c.args.k)) c.args.stacks.now) (map (stack_column (stack_number c.args.k)) c.loop-i.stacks) c.loop-i.i c.loop-i.at c.loop-i.invariant.0 c.loop-i-test.false room in (w.0, w.1, c.loop-i.invariant.1)
