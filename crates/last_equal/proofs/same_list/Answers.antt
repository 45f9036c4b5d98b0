use mathlib.Core.Path.{sym, ◌∙◌}
use native.Mathlib.Omega.{arith}
use lib.ListN.{get_or}
use borrow.Author.Tests.{eq-eqb, ne_eqb}
use Rattle.last_equal.proofs.Same.{lengths_differ, same_turn, same_end}
use Rattle.last_equal.proofs.same_list.Goals as goal

pub returns-then-a-b : goal.returns-then-a-b
returns-then-a-b c = sym (lengths_differ c.args.a.now c.args.b.now c.if-a-b.true)

pub returns-then-a-i : goal.returns-then-a-i
returns-then-a-i c =
    let turn = same_turn c.args.a.now c.args.b.now c.loop-i.i c.loop-i-test.true (omega (arith, c.loop-i.invariant.0)) in
    sym (turn ∙ rw (ne_eqb (get_or c.args.a.now c.loop-i.i 0) (get_or c.args.b.now c.loop-i.i 0) c.if-a-i.true)) ∙ c.loop-i.invariant.1

pub loop-i-preserved : goal.loop-i-preserved
loop-i-preserved c =
    let turn = same_turn c.args.a.now c.args.b.now c.loop-i.i c.loop-i-test.true (omega (arith, c.loop-i.invariant.0)) in
    (c.loop-i.invariant.0, sym (turn ∙ rw (eq-eqb (get_or c.args.a.now c.loop-i.i 0) (get_or c.args.b.now c.loop-i.i 0) c.if-a-i.false)) ∙ c.loop-i.invariant.1)

pub returns : goal.returns
returns c = sym (same_end c.args.a.now c.args.b.now c.loop-i.i (omega arith) (omega (arith, c.loop-i.invariant.0))) ∙ c.loop-i.invariant.1
