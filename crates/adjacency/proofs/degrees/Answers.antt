use native.Mathlib.Omega.{arith}
use lib.ListN.{length-set}
use Rattle.adjacency.proofs.Tables.{start_count, end_count, near_in, near_few, turn_single, far_in, far_few, turn_pair}
use Rattle.adjacency.proofs.degrees.Goals as goal

pub loop-e-init : goal.loop-e-init
loop-e-init c =
    start_count c.requires.sized c.requires.adj_offsets_value

pub bounds-adj_offsets-a : goal.bounds-adj_offsets-a
bounds-adj_offsets-a c =
    omega (arith, near_in c.requires.sized c.loop-e.invariant c.loop-e-test.true, c.loop-e.invariant.offs)

pub overflow_add-adj_offsets : goal.overflow_add-adj_offsets
overflow_add-adj_offsets c =
    omega (arith, near_few c.requires.sized c.loop-e.invariant c.loop-e-test.true, c.requires.sized.few)

pub bounds-adj_offsets-a-in-loop-e : goal.bounds-adj_offsets-a-in-loop-e
bounds-adj_offsets-a-in-loop-e c =
    omega (arith, near_in c.requires.sized c.loop-e.invariant c.loop-e-test.true, c.loop-e.invariant.offs)

pub bounds-adj_offsets-b : goal.bounds-adj_offsets-b
bounds-adj_offsets-b c =
    simp length-set (omega (arith, far_in c.requires.sized c.loop-e.invariant c.loop-e-test.true c.if-far.true, c.loop-e.invariant.offs))

pub overflow_add-adj_offsets-then-far : goal.overflow_add-adj_offsets-then-far
overflow_add-adj_offsets-then-far c =
    omega (arith, far_few c.requires.sized c.loop-e.invariant c.loop-e-test.true c.if-far.true, c.requires.sized.few)

pub bounds-adj_offsets-b-then-far : goal.bounds-adj_offsets-b-then-far
bounds-adj_offsets-b-then-far c =
    simp length-set (omega (arith, far_in c.requires.sized c.loop-e.invariant c.loop-e-test.true c.if-far.true, c.loop-e.invariant.offs))

pub loop-e-preserved-then-far : goal.loop-e-preserved-then-far
loop-e-preserved-then-far c =
    turn_pair c.requires.sized c.loop-e.invariant c.loop-e-test.true c.if-far.true

pub loop-e-preserved : goal.loop-e-preserved
loop-e-preserved c =
    turn_single c.requires.sized c.loop-e.invariant c.loop-e-test.true c.if-far.false

pub returns : goal.returns
returns c =
    end_count c.requires.sized c.loop-e.invariant (omega arith)
