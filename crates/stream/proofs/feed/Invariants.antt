-- `stream::feed`: from whatever session it began with, the loop stands at a place that it has come to.
use Prim.Native.Nat.{◌-◌}
use mathlib.Core.List.{[]}
use lib.ListN.{length}
use Rattle.edges.specs.Lent.{slices_of, SameEdges}
use Rattle.reader.specs.Lent.{columns_in, SameTables}
use Rattle.stream.proofs.Places.{Going, Moved}
use Rattle.stream.proofs.feed.Given as goal

abbrev pub invariant-loop-p : goal.invariant-loop-p
invariant-loop-p l = Going l.initial.p (columns_in l.initial.read) (slices_of l.initial.edges []) l.block l.initial.line l.initial.out l.p (columns_in l.read) (slices_of l.edges []) l.line l.out × Moved l.initial.p l.p × (SameTables l.initial.read l.read × SameEdges l.initial.edges l.edges)

abbrev pub decreases-loop-p : goal.decreases-loop-p
decreases-loop-p l = length l.block - l.p.taken
