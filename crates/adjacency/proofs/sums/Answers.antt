use Prim.Native.Nat.{suc}
use native.Mathlib.Omega.{arith}
use Rattle.adjacency.specs.Adjacent.{degree}
use Rattle.adjacency.proofs.Laws.{total_le, degrees_few}
use Rattle.adjacency.proofs.sums.Goals as goal

pub overflow_add-sum : goal.overflow_add-sum
overflow_add-sum c =
    let g = c.args.g.now in
    let i = c.loop-offset.offset-index in
    let k = c.loop-offset.invariant in
    let count = degree g.edge_u.now g.edge_v.now in
    grind (arith, k.counts i (omega arith), k.past i (omega arith), total_le count i g.detectors, total_le count (suc i) g.detectors, degrees_few g.edge_u.now g.edge_v.now g.detectors, c.requires.sized.few)
