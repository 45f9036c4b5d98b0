use mathlib.Core.Path.{◌≡◌, sym, ap, ◌∙◌}
use mathlib.Core.Bool.{false}
use native.Mathlib.Omega.{arith}
use Rattle.std.specs.Prelude.{Some}
use lib.ListN.{get_or, take, length-take}
use Rattle.columns.proofs.Columns.{column_at, column_length, in_first, first_at}
use Rattle.cells.specs.declared.Stack.{Stack}
use Rattle.cells.specs.Tables.{flag_column, stack_column, frees, active}
use Rattle.cells.proofs.Stores.{no_stack}
use Rattle.first_stuck.proofs.Shut.{shut_next, shut_here, shut_end}
use Rattle.first_stuck.proofs.stuck.Goals as goal

pub bounds-flags-r : goal.bounds-flags-r
bounds-flags-r c =
    let h = in_first c.args.stacks.now c.args.a _ c.loop-stack-test.true in
    rw (first_at c.args.stacks.now c.args.a c.loop-stack.stack-index c.loop-stack-test.true (λ (r : Stack). r.active) no_stack) (omega (arith, c.requires.inside c.loop-stack.stack-index h, column_length flag_column 4 c.args.flags.now))

pub returns-then-not-free : goal.returns-then-not-free
returns-then-not-free c =
    let h = in_first c.args.stacks.now c.args.a _ c.loop-stack-test.true in
    let e = sym (first_at c.args.stacks.now c.args.a c.loop-stack.stack-index c.loop-stack-test.true (λ (r : Stack). r.active) no_stack) in
    let f = ap (λ v. get_or (frees c.args.flags.now) v false) e ∙ column_at flag_column 4 c.args.flags.now (get_or (take c.args.a c.args.stacks.now) c.loop-stack.stack-index no_stack).active _ ∙ c.if-not-free.true in
    ap (λ v. Some v) (sym e) ∙ sym (shut_here (frees c.args.flags.now) (active c.args.stacks.now) c.loop-stack.stack-index c.args.a h c.requires.actives f) ∙ c.loop-stack.invariant

pub loop-stack-preserved : goal.loop-stack-preserved
loop-stack-preserved c =
    let h = in_first c.args.stacks.now c.args.a _ c.loop-stack-test.true in
    let e = sym (first_at c.args.stacks.now c.args.a c.loop-stack.stack-index c.loop-stack-test.true (λ (r : Stack). r.active) no_stack) in
    let f = ap (λ v. get_or (frees c.args.flags.now) v false) e ∙ column_at flag_column 4 c.args.flags.now (get_or (take c.args.a c.args.stacks.now) c.loop-stack.stack-index no_stack).active _ ∙ c.if-not-free.false in
    sym (shut_next (frees c.args.flags.now) (active c.args.stacks.now) c.loop-stack.stack-index c.args.a h c.requires.actives f) ∙ c.loop-stack.invariant

pub returns : goal.returns
returns c =
    let q : c.loop-stack.stack-index ≡ c.args.a = omega (arith, length-take c.args.a c.args.stacks.now, column_length stack_column 2 c.args.stacks.now) in
    sym (shut_end (frees c.args.flags.now) (active c.args.stacks.now) c.args.a) ∙ (rw q at c.loop-stack.invariant)
