-- `walks::meet_all` meets its contract. The invariant: to try the edges left from here is to try them all from the entry. Assumes nothing.
use Prim.Native.Nat.{◌+◌}
use mathlib.Core.List.{[], ◌∷◌}
use Rattle.cells.specs.Tables.{frees, active, front, order_edge, order_parent, SameFlags, SameStacks}
use Rattle.adjacency.specs.Pairs.{near, away}
use Rattle.walks.proofs.Trying.{Trying}
use Rattle.walks.proofs.meet_all.Given as goal

abbrev pub invariant-loop-neighbor : goal.invariant-loop-neighbor
invariant-loop-neighbor l = Trying l.g.detectors l.g.edge_u.now l.g.edge_v.now l.x l.begin l.end (near l.adj) (away l.adj) l.sat (frees l.initial.flags) (front l.initial.stacks) l.top (active l.initial.stacks) (order_edge l.initial.stacks) (order_parent l.initial.stacks) l.n (l.begin + l.neighbor-index) l.new (frees l.flags) (front l.stacks) (active l.stacks) (order_edge l.stacks) (order_parent l.stacks)
    × SameFlags (4 ∷ []) l.initial.flags l.flags × SameStacks (2 ∷ 3 ∷ 4 ∷ 5 ∷ []) l.initial.stacks l.stacks
