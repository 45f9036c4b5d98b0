-- `counting::count` meets its contract. The invariant: what is listed, and what is to be listed at the detectors from i on, is the answer.
use mathlib.Core.List.{[], ◌∷◌}
use lib.ListN.{take}
use lib.Seq.{slice}
use Rattle.cells.specs.Tables.{parents, hots, frees, front, touched, cnt, SameFlags, SameLinks}
use Rattle.counting.proofs.Laws.{Gathering}
use Rattle.counting.proofs.count.Given as goal

abbrev pub invariant-loop-stack : goal.invariant-loop-stack
invariant-loop-stack l = record {
  gathering : Gathering l.g.detectors l.g.edge_u.now l.g.edge_v.now (parents l.tree) l.sat (hots l.initial.flags) (take l.m (front l.stacks)) (frees l.initial.flags) (touched l.initial.links) (cnt l.initial.links) (frees l.flags) (touched l.links) (cnt l.links) l.at (slice l.stack-index l.m (front l.stacks));
  flag : SameFlags (4 ∷ []) l.initial.flags l.flags;
  link : SameLinks (0 ∷ 1 ∷ []) l.initial.links l.links;
}
