use Prim.Native.Nat.{◌<◌}
use native.Mathlib.Omega.{arith}
use lib.ListN.{length-take}
use lib.Seq.{get_or-take}
use Rattle.finish.proofs.Observables.{start_flip, turn_flip}
use Rattle.finish.proofs.xor_edge_observables.Goals as goal

pub loop-e-init : goal.loop-e-init
loop-e-init c = start_flip c.requires

pub loop-e-preserved : goal.loop-e-preserved
loop-e-preserved c =
    let h : c.loop-e.e-index < c.args.listed = omega (arith, c.loop-e-test.true, length-take c.args.listed c.args.list.now) in
    turn_flip c.requires c.loop-e.invariant h (rw (get_or-take c.args.listed c.args.list.now c.loop-e.e-index 0 h) at c.xor_into.ensures) c.xor_into.auto.row
