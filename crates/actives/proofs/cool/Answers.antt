use mathlib.Core.Path.{refl, sym}
use mathlib.Core.List.{[], ◌∷◌}
use mathlib.Core.Bool.{false, and-true}
use native.Mathlib.Omega.{arith}
use lib.ListN.{get_or, set, take}
use Rattle.lists.specs.Lists.{member}
use Rattle.columns.proofs.Columns.{column_length, keep_none, keep_then, keep_more, map_set, in_first, first_at}
use Rattle.cells.specs.declared.Stack.{Stack}
use Rattle.cells.specs.Tables.{flag_column, hots, frees, active}
use Rattle.cells.proofs.Stores.{kept_hot, kept_free, no_stack}
use Rattle.actives.proofs.Laws.{cool_turn}
use Rattle.actives.proofs.cool.Goals as goal

pub loop-stack-init : goal.loop-stack-init
unfolding member
loop-stack-init c = (keep_more (3 ∷ 4 ∷ []) refl (keep_none c.args.flags.now), (λ r. sym (and-true (get_or (hots c.args.flags.now) r false))), (λ r. sym (and-true (get_or (frees c.args.flags.now) r false))))

pub bounds-flags-r : goal.bounds-flags-r
bounds-flags-r c =
    let h = in_first c.args.stacks.now c.args.a _ c.loop-stack-test.true in
    rw (first_at c.args.stacks.now c.args.a c.loop-stack.stack-index c.loop-stack-test.true (λ (r : Stack). r.active) no_stack) (omega (arith, c.requires.inside c.loop-stack.stack-index h, column_length flag_column 3 c.args.flags.now))

pub loop-stack-preserved : goal.loop-stack-preserved
loop-stack-preserved c =
    let i = c.loop-stack.stack-index in
    let h = in_first c.args.stacks.now c.args.a i c.loop-stack-test.true in
    let inside = c.requires.inside i h in
    let long = c.requires.actives in
    let e = sym (first_at c.args.stacks.now c.args.a i c.loop-stack-test.true (λ (r : Stack). r.active) no_stack) in
    let r = (get_or (take c.args.a c.args.stacks.now) i no_stack).active in
    let cold = kept_hot c.loop-stack.flags r false _ in
    let shut = kept_free (set c.loop-stack.flags r _) r false _ in (
      keep_then c.loop-stack.invariant.0 (keep_then (keep_more (3 ∷ 4 ∷ []) refl cold) (keep_more (3 ∷ 4 ∷ []) refl shut)),
      rw (shut.rest 3 refl, map_set _ c.loop-stack.flags r _, ← e) (cool_turn (active c.args.stacks.now) i (omega arith) (hots c.loop-stack.flags) (hots c.args.flags.now) (omega (arith, inside, column_length flag_column 3 c.args.flags.now, column_length flag_column 3 c.loop-stack.flags)) c.loop-stack.invariant.1),
      rw (map_set _ (set c.loop-stack.flags r _) r _, cold.rest 4 refl, ← e) (cool_turn (active c.args.stacks.now) i (omega arith) (frees c.loop-stack.flags) (frees c.args.flags.now) (omega (arith, inside, column_length flag_column 3 c.args.flags.now, column_length flag_column 4 c.loop-stack.flags)) c.loop-stack.invariant.2),
    )
