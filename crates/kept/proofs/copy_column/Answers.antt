use Rattle.std.proofs.Common.{◌≡◌, arith}
use Rattle.std.proofs.lemmas.List.{get_or_read}
use Rattle.kept.proofs.Copying.{copy_none, copy_kept, copy_left}
use Rattle.kept.proofs.copy_column.Goals as goal
use Rattle.kept.proofs.copy_column.Goals.{then-model-i-le-MOST_DETECTORS, else-model-i-le-MOST_DETECTORS}

pub loop-i-init : goal.loop-i-init
loop-i-init g c = record { few = omega arith; done = λ z. copy_none _ _ c.args.out.now }

pub loop-i-preserved : goal.loop-i-preserved
loop-i-preserved g c =
    elim c.if-model-i-le-MOST_DETECTORS.branch [
      | then-model-i-le-MOST_DETECTORS w ↦ record {
        few = omega arith;
        done = λ z. let x = get_or_read c.args.column.now c.loop-i.i w.index-column-i.result (omega arith) w.index-column-i.is z in
            rw (w.out-is, w.at-is, x) (copy_kept _ _ _ c.loop-i.i c.loop-i.at c.loop-i.out (c.loop-i.invariant.done z) (omega arith) w.if-model-i-le-MOST_DETECTORS.true);
      }
      | else-model-i-le-MOST_DETECTORS w ↦ record {
        few = omega arith;
        done = λ z. rw (w.out-is, w.at-is) (copy_left _ _ _ c.loop-i.i c.loop-i.at c.loop-i.out (c.loop-i.invariant.done z) w.if-model-i-le-MOST_DETECTORS.false);
      }
    ]

pub returns : goal.returns
returns g c = λ z.
    let e : c.loop-i.i ≡ c.args.model.now.mechanisms = omega arith in
    let h = rw e at c.loop-i.invariant.done z in
    record { counted = h.counted; copied = h.copied }
