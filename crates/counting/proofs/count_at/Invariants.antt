-- `counting::count_at` meets its contract. The invariant: what is listed, and what is to be listed of the edges from place k on, is the answer.
use Prim.Native.Nat.{◌+◌}
use mathlib.Core.List.{[], ◌∷◌}
use lib.Seq.{slice}
use Rattle.cells.specs.Tables.{parents, hots, touched, cnt, SameLinks}
use Rattle.adjacency.specs.Pairs.{near}
use Rattle.counting.proofs.Laws.{Listing}
use Rattle.counting.proofs.count_at.Given as goal

abbrev pub invariant-loop-neighbor : goal.invariant-loop-neighbor
invariant-loop-neighbor l = record {
  listing : Listing l.g.detectors l.g.edge_u.now l.g.edge_v.now (parents l.tree) l.sat (hots l.flags) l.x (touched l.initial.links) (cnt l.initial.links) l.from (touched l.links) (cnt l.links) l.at l.found (slice (l.first + l.neighbor-index) l.end (near l.adj.neighbors.now));
  rest : SameLinks (0 ∷ 1 ∷ []) l.initial.links l.links;
}
