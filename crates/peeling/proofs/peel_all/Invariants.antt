-- `peeling::peel_all` meets its contract. The invariant: to peel the clusters left from here is to peel them all from the entry. Assumes nothing.
use mathlib.Core.List.{[], ◌∷◌}
use Rattle.forest.specs.Forest.{labels}
use Rattle.cells.specs.Tables.{parents, lits, frees, defects, active, front, order_edge, order_parent, SameTree, SameFlags, SameStacks}
use Rattle.peeling.specs.Tables.{Same}
use Rattle.peeling.proofs.Order.{Peeling}
use Rattle.peeling.proofs.peel_all.Given as goal

abbrev pub invariant-loop-i : goal.invariant-loop-i
invariant-loop-i l = Peeling l.g.detectors l.g.edge_u.now l.g.edge_v.now l.sat (labels l.g.detectors (parents l.initial.tree)) (defects l.initial.stacks) l.defect_count (frees l.initial.flags) (lits l.initial.flags) (front l.initial.stacks) (active l.initial.stacks) (order_edge l.initial.stacks) (order_parent l.initial.stacks) l.initial.list l.i l.listed (frees l.flags) (lits l.flags) (front l.stacks) (active l.stacks) (order_edge l.stacks) (order_parent l.stacks) l.list
    × Same l.g.detectors (parents l.initial.tree) (parents l.tree) × SameTree (0 ∷ []) l.initial.tree l.tree × SameFlags (0 ∷ 4 ∷ []) l.initial.flags l.flags × SameStacks (2 ∷ 3 ∷ 4 ∷ 5 ∷ []) l.initial.stacks l.stacks
