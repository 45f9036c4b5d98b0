-- `kept::copy_components`: the first i mechanisms are done, and the next part begins at their sum.
use Rattle.std.proofs.Common.{◌≡◌, take}
use Rattle.dem.specs.Positions.{total}
use Rattle.kept.proofs.Copying.{Pasting}
use Rattle.kept.proofs.copy_components.Given as goal

abbrev pub invariant-loop-i : goal.invariant-loop-i
invariant-loop-i l = record {
  here : l.end ≡ total (take l.i l.model.component_counts.now);
  done : Pasting l.model.detector_counts.now (λ k. total (take k l.model.component_counts.now)) l.counts l.initial.out l.i l.at l.out;
}
