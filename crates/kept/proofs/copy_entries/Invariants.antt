-- `kept::copy_entries`: the first i mechanisms are done, and the place is that of mechanism i.
use Rattle.std.proofs.Common.{◌≡◌}
use Rattle.dem.specs.Tables.{entries_in}
use Rattle.dem.specs.Positions.{place_of}
use Rattle.dem.specs.Lent.{tables_of}
use Rattle.kept.proofs.Copying.{Copying, Pasting}
use Rattle.kept.proofs.copy_entries.Given as goal

abbrev pub invariant-loop-i : goal.invariant-loop-i
invariant-loop-i l =
    let t = tables_of l.model in
    record {
      here : l.place ≡ place_of l.i t;
      done : Pasting t.detector_counts (λ k. entries_in k t) t.entries l.initial.out l.i l.at l.out;
      marked : Copying t.detector_counts (λ k. entries_in k t) l.initial.starts l.i l.kept l.starts;
    }
