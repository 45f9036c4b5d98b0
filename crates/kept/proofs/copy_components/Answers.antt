use Rattle.std.proofs.Common.{ℕ, ◌+◌, ◌-◌, get_or, take, drop, sym, ap, arith, ◌≡◌}
use Rattle.std.proofs.lemmas.List.{length-take, length-drop}
use Rattle.dem.specs.Positions.{total}
use Rattle.kept.proofs.Copying.{paste_none, paste_kept, paste_left}
use Rattle.kept.proofs.Sums.{sum_none, sum_next, sum_upto}
use Rattle.kept.proofs.copy_components.Goals as goal
use Rattle.kept.proofs.copy_components.Goals.{then-model-i-le-MOST_DETECTORS, else-model-i-le-MOST_DETECTORS}

pub loop-i-init : goal.loop-i-init
loop-i-init c =
    let none = sum_none c.args.model.now.component_counts.now in
    record { here = sym none; done = paste_none _ _ c.args.counts.now c.args.out.now none }

pub slice_bounds-copy_to-end : goal.slice_bounds-copy_to-end
slice_bounds-copy_to-end c =
    let next = sum_next c.args.model.now.component_counts.now c.loop-i.i in
    let fits = sum_upto c.args.model.now.component_counts.now (c.loop-i.i + 1) c.args.model.now.mechanisms (omega arith) in
    omega arith

pub copy_to-requires : goal.copy_to-requires
copy_to-requires c =
    let next = sum_next c.args.model.now.component_counts.now c.loop-i.i in
    let fits = sum_upto c.args.model.now.component_counts.now (c.loop-i.i + 1) c.args.model.now.mechanisms (omega arith) in
    omega (arith, length-take {A = ℕ}, length-drop {A = ℕ})

pub loop-i-preserved : goal.loop-i-preserved
loop-i-preserved c =
    let part : ℕ → ℕ = λ k. total (take k c.args.model.now.component_counts.now) in
    let size = get_or c.args.model.now.component_counts.now c.loop-i.i 0 in
    let next = sum_next c.args.model.now.component_counts.now c.loop-i.i in
    let fits = sum_upto c.args.model.now.component_counts.now (c.loop-i.i + 1) c.args.model.now.mechanisms (omega arith) in
    record {
      here = omega arith;
      done = elim c.if-model-i-le-MOST_DETECTORS.branch [
        | then-model-i-le-MOST_DETECTORS w ↦
            let same : c.loop-i.end + size - c.loop-i.end ≡ size = omega arith in
            rw (w.out-is, w.at-is, w.copy_to.ensures, same)
            (paste_kept _ part c.args.counts.now _ c.loop-i.i c.loop-i.at size c.loop-i.out (take size (drop c.loop-i.end c.args.counts.now)) c.loop-i.invariant.done w.if-model-i-le-MOST_DETECTORS.true next (omega arith)
            (ap (λ (k : ℕ). take size (drop k c.args.counts.now)) c.loop-i.invariant.here))
        | else-model-i-le-MOST_DETECTORS w ↦
            rw (w.out-is, w.at-is) (paste_left _ part c.args.counts.now _ c.loop-i.i c.loop-i.at c.loop-i.out c.loop-i.invariant.done w.if-model-i-le-MOST_DETECTORS.false (omega arith))
      ];
    }
