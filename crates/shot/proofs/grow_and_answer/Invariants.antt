-- `shot::grow_and_answer` meets its contract. The invariant: the tables hold the state after so many rounds, growth from there on is the whole growth, and every unsaturated edge has room.
use Prim.Native.Nat.{◌-◌}
use mathlib.Core.List.{[], ◌∷◌}
use lib.ListN.{length}
use Rattle.lists.proofs.Counts.{trues}
use Rattle.cells.specs.Lent.{SameSlices}
use Rattle.cells.specs.Tables.{at_active, at_count, at_exit, at_free, at_fresh, at_front, at_hot, at_known, at_odd, at_parent, at_seen, at_touched, SameTree, SameFlags, SameStacks, SameLinks}
use Rattle.shot.proofs.Growing.{Growing}
use Rattle.shot.proofs.grow_and_answer.Given as goal

abbrev pub invariant-loop-a : goal.invariant-loop-a
invariant-loop-a l = Growing l.g.detectors l.g.edge_u.now l.g.edge_v.now l.g.edge_weight.now l.t.tree.now l.t.flags.now l.t.stacks.now l.t.growth.now l.t.sat.now l.n l.a l.rounds
    × SameTree (at_parent ∷ at_exit ∷ []) l.initial.t.tree.now l.t.tree.now
    × SameFlags (at_known ∷ at_odd ∷ at_hot ∷ at_free ∷ []) l.initial.t.flags.now l.t.flags.now
    × SameStacks (at_seen ∷ at_active ∷ at_front ∷ []) l.initial.t.stacks.now l.t.stacks.now
    × SameLinks (at_touched ∷ at_count ∷ at_fresh ∷ []) l.initial.t.links.now l.t.links.now
    × SameSlices l.initial.t l.t

abbrev pub decreases-loop-a : goal.decreases-loop-a
decreases-loop-a l = length l.g.edge_u.now - trues l.t.sat.now
