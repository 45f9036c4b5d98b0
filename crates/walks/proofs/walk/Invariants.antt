-- `walks::walk` meets its contract. The invariant: the walk from here, with just the fuel that it needs, is the whole walk. Assumes nothing.
use Prim.Native.Nat.{◌+◌}
use mathlib.Core.List.{[], ◌∷◌}
use Rattle.lists.proofs.Counts.{falses}
use Rattle.cells.specs.Tables.{frees, active, front, order_edge, order_parent, SameFlags, SameStacks}
use Rattle.walks.proofs.Walking.{Walking}
use Rattle.walks.proofs.walk.Given as goal

abbrev pub invariant-loop-top : goal.invariant-loop-top
invariant-loop-top l = Walking l.g.detectors l.g.edge_u.now l.g.edge_v.now l.start l.sat (frees l.initial.flags) (front l.initial.stacks) (active l.initial.stacks) (order_edge l.initial.stacks) (order_parent l.initial.stacks) l.top l.n (frees l.flags) (front l.stacks) (active l.stacks) (order_edge l.stacks) (order_parent l.stacks)
    × SameFlags (4 ∷ []) l.initial.flags l.flags × SameStacks (2 ∷ 3 ∷ 4 ∷ 5 ∷ []) l.initial.stacks l.stacks

abbrev pub decreases-loop-top : goal.decreases-loop-top
decreases-loop-top l = falses (frees l.flags) + l.top
