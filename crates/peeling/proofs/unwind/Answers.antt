use mathlib.Core.Path.{◌∙◌}
use native.Mathlib.Omega.{arith}
use lib.ListN.{length-set}
use Rattle.columns.proofs.Columns.{column_length, keep_then}
use Rattle.cells.specs.Tables.{flag_column, lits}
use Rattle.cells.proofs.Stores.{kept_lit, read_lit}
use Rattle.walks.proofs.Rows.{moved}
use Rattle.peeling.proofs.Fields.{flipped}
use Rattle.peeling.proofs.Unwinding.{end_unwind, vertex_in, parent_in, turn_dark, turn_lit}
use Rattle.peeling.proofs.Backward.{some_left, one_less, front_then, vertex_is, edge_is, parent_is}
use Rattle.peeling.proofs.unwind.Goals as goal

pub bounds-flags-x : goal.bounds-flags-x
bounds-flags-x c =
    let f = c.loop-stack.invariant.2 in
    let e = c.in-Some.ensures.steps in
    omega (arith, vertex_is c.args.stacks.now _ _ _ f e, vertex_in c.requires.unwindable c.loop-stack.invariant.0 (some_left c.args.stacks.now _ _ _ f e), column_length flag_column 0 c.loop-stack.flags)

pub bounds-flags-y : goal.bounds-flags-y
bounds-flags-y c =
    let f = c.loop-stack.invariant.2 in
    let e = c.in-Some.ensures.steps in
    rw length-set (omega (arith, parent_is c.args.stacks.now _ _ _ f e, parent_in c.requires.unwindable c.loop-stack.invariant.0 (some_left c.args.stacks.now _ _ _ f e), column_length flag_column 0 c.loop-stack.flags))

pub bounds-flags-y-then-flags-x : goal.bounds-flags-y-then-flags-x
bounds-flags-y-then-flags-x c =
    let f = c.loop-stack.invariant.2 in
    let e = c.in-Some.ensures.steps in
    rw length-set (omega (arith, parent_is c.args.stacks.now _ _ _ f e, parent_in c.requires.unwindable c.loop-stack.invariant.0 (some_left c.args.stacks.now _ _ _ f e), column_length flag_column 0 c.loop-stack.flags))

pub loop-stack-preserved-then-flags-x : goal.loop-stack-preserved-then-flags-x
loop-stack-preserved-then-flags-x c =
    let s = c.args.stacks.now in
    let f = c.loop-stack.invariant.2 in
    let e = c.in-Some.ensures.steps in (
      rw (one_less s _ _ _ f e, flipped c.loop-stack.flags, vertex_is s _ _ _ f e, parent_is s _ _ _ f e, edge_is s _ _ _ f e) (turn_lit c.requires.unwindable c.loop-stack.invariant.0 (some_left s _ _ _ f e) (moved (lits c.loop-stack.flags) (vertex_is s _ _ _ f e) (read_lit c.loop-stack.flags _ ∙ c.if-flags-x.true))),
      keep_then c.loop-stack.invariant.1 (keep_then (kept_lit _ _ _ _) (kept_lit _ _ _ _)),
      front_then s _ _ _ f e,
    )

pub loop-stack-preserved : goal.loop-stack-preserved
loop-stack-preserved c =
    let s = c.args.stacks.now in
    let f = c.loop-stack.invariant.2 in
    let e = c.in-Some.ensures.steps in (
      rw (one_less s _ _ _ f e) (turn_dark c.requires.unwindable c.loop-stack.invariant.0 (some_left s _ _ _ f e) (moved (lits c.loop-stack.flags) (vertex_is s _ _ _ f e) (read_lit c.loop-stack.flags _ ∙ c.if-flags-x.false))),
      c.loop-stack.invariant.1,
      front_then s _ _ _ f e,
    )

pub returns-clause-unwound : goal.returns-clause-unwound
returns-clause-unwound c = end_unwind c.requires.unwindable c.loop-stack.invariant.0 c.in-None.ensures.steps.0
