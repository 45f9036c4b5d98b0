-- `decompose::append_lists`: the lists of mechanism k are written next.
use mathlib.Core.Path.{ap}
use native.Mathlib.Omega.{arith}
use native.Mathlib.Nat.{add-sub_cancel_left}
use Prim.Native.Nat.{ℕ}
use lib.ListN.{take, drop, get_or, length-take}
use Rattle.decompose.proofs.Appending.{appending_none, part_fits, appending_next}
use Rattle.decompose.proofs.append_lists.Goals as goal

pub loop-k-init : goal.loop-k-init
loop-k-init c = appending_none c.requires

pub copy_to-requires : goal.copy_to-requires
copy_to-requires c = omega (arith, part_fits c.requires c.loop-k.invariant c.loop-k.auto.k c.loop-k-test.true, length-take {A = ℕ})

pub loop-k-preserved : goal.loop-k-preserved
loop-k-preserved c =
    appending_next c.requires c.loop-k.invariant c.loop-k.auto.k c.loop-k-test.true _ _
    (ap (λ m. take m (drop (get_or c.args.ms.now.starts.now c.loop-k.k 0) c.args.entries.now)) (add-sub_cancel_left (get_or c.args.ms.now.starts.now c.loop-k.k 0) _)) c.copy_to.ensures
