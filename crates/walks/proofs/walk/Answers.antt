use Prim.Native.Nat.{◌-◌}
use mathlib.Core.Path.{refl}
use mathlib.Core.List.{[], ◌∷◌}
use mathlib.Core.Bool.{true}
use native.Mathlib.Omega.{arith}
use Rattle.columns.proofs.Columns.{column_length, keep_length, keep_none, keep_more, keep_then}
use Rattle.cells.specs.Tables.{stack_column}
use Rattle.cells.proofs.Stores.{no_flags, no_stack, read_front, kept_free, kept_front}
use Rattle.walks.proofs.Walking.{start_walk, end_walk, below_stack, x_in, tryable, turn_walk}
use Rattle.walks.proofs.Rows.{head, from_head, to_head, start_head}
use Rattle.walks.proofs.walk.Goals as goal

pub loop-top-init : goal.loop-top-init
loop-top-init c =
    (start_head (head c.args.flags.now c.args.stacks.now c.args.start) (start_walk c.requires.tabled c.requires.start_lt_d.0 c.requires.start_lt_d.1), keep_more (4 ∷ []) refl (keep_none _), keep_more (2 ∷ 3 ∷ 4 ∷ 5 ∷ []) refl (keep_none _))

pub offset_bounds-stacks-top : goal.offset_bounds-stacks-top
offset_bounds-stacks-top c =
    omega (arith, below_stack c.requires.tabled c.requires.start_lt_d.0 c.requires.start_lt_d.1 (from_head (head c.args.flags.now c.args.stacks.now c.args.start) c.loop-top.invariant.0) c.loop-top-test.true, column_length stack_column 3 c.loop-top.stacks, c.loop-top.invariant.2.long, (kept_front c.args.stacks.now 0 c.args.start no_stack).long, c.well_formed)

pub bounds-stacks-top : goal.bounds-stacks-top
bounds-stacks-top c =
    omega (arith, below_stack c.requires.tabled c.requires.start_lt_d.0 c.requires.start_lt_d.1 (from_head (head c.args.flags.now c.args.stacks.now c.args.start) c.loop-top.invariant.0) c.loop-top-test.true, column_length stack_column 3 c.loop-top.stacks)

pub bounds-adj-at : goal.bounds-adj-at
bounds-adj-at c =
    omega (arith, x_in c.requires.tabled c.requires.start_lt_d.0 c.requires.start_lt_d.1 (from_head (head c.args.flags.now c.args.stacks.now c.args.start) c.loop-top.invariant.0) c.loop-top-test.true, read_front c.loop-top.stacks (c.loop-top.top - 1), c.requires.tabled.adjacent.offs)

pub bounds-adj-at-in-loop-top : goal.bounds-adj-at-in-loop-top
bounds-adj-at-in-loop-top c =
    omega (arith, x_in c.requires.tabled c.requires.start_lt_d.0 c.requires.start_lt_d.1 (from_head (head c.args.flags.now c.args.stacks.now c.args.start) c.loop-top.invariant.0) c.loop-top-test.true, read_front c.loop-top.stacks (c.loop-top.top - 1), c.requires.tabled.adjacent.offs)

pub meet_all-new-requires : goal.meet_all-new-requires
meet_all-new-requires c =
    record { tryable = rw (← read_front) (tryable c.requires.tabled c.requires.start_lt_d.0 c.requires.start_lt_d.1 (from_head (head c.args.flags.now c.args.stacks.now c.args.start) c.loop-top.invariant.0) c.loop-top-test.true) }

pub overflow_add-top : goal.overflow_add-top
overflow_add-top c =
    omega (arith, c.meet_all-new.ensures.tried.few, tryable c.requires.tabled c.requires.start_lt_d.0 c.requires.start_lt_d.1 (from_head (head c.args.flags.now c.args.stacks.now c.args.start) c.loop-top.invariant.0) c.loop-top-test.true, c.ranges)

pub overflow_add-n : goal.overflow_add-n
overflow_add-n c =
    omega (arith, c.meet_all-new.ensures.tried.few, tryable c.requires.tabled c.requires.start_lt_d.0 c.requires.start_lt_d.1 (from_head (head c.args.flags.now c.args.stacks.now c.args.start) c.loop-top.invariant.0) c.loop-top-test.true, c.ranges)

pub loop-top-preserved : goal.loop-top-preserved
loop-top-preserved c = (
  to_head (head c.args.flags.now c.args.stacks.now c.args.start) (turn_walk c.requires.tabled c.requires.start_lt_d.0 c.requires.start_lt_d.1 (from_head (head c.args.flags.now c.args.stacks.now c.args.start) c.loop-top.invariant.0) c.loop-top-test.true (rw (← read_front) at c.meet_all-new.ensures.tried) (keep_length c.meet_all-new.ensures.same_flags.0 4) (keep_length c.meet_all-new.ensures.same_flags.1 3) (keep_length c.meet_all-new.ensures.same_flags.1 2) (keep_length c.meet_all-new.ensures.same_flags.1 4) (keep_length c.meet_all-new.ensures.same_flags.1 5)),
  keep_then c.loop-top.invariant.1 c.meet_all-new.ensures.same_flags.0,
  keep_then c.loop-top.invariant.2 c.meet_all-new.ensures.same_flags.1,
)

pub returns-clause-gone : goal.returns-clause-gone
returns-clause-gone c = end_walk c.requires.tabled c.requires.start_lt_d.0 c.requires.start_lt_d.1 (from_head (head c.args.flags.now c.args.stacks.now c.args.start) c.loop-top.invariant.0) (omega (arith, c.loop-top-test.false))

pub returns-clause-same_flags : goal.returns-clause-same_flags
returns-clause-same_flags c = (
  keep_then (kept_free c.args.flags.now c.args.start true no_flags) c.loop-top.invariant.1,
  keep_then (keep_more (2 ∷ 3 ∷ 4 ∷ 5 ∷ []) refl (kept_front c.args.stacks.now 0 c.args.start no_stack)) c.loop-top.invariant.2,
)
