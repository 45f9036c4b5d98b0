use Rattle.std.proofs.Common.{ℕ, ◌-◌, take, drop, refl, ap, arith}
use Rattle.std.proofs.lemmas.List.{length-take, length-drop}
use Rattle.dem.specs.Tables.{components_in, entries_in}
use Rattle.dem.proofs.Positions.{reached_of, inside_here, past_inside}
use Rattle.kept.proofs.Copying.{copy_none, copy_kept, copy_left, paste_none, paste_kept, paste_left}
use Rattle.kept.proofs.Spans.{span}
use Rattle.kept.proofs.copy_entries.Goals as goal
use Rattle.kept.proofs.copy_entries.Goals.{then-h-le-MOST_DETECTORS, else-h-le-MOST_DETECTORS}

pub loop-i-init : goal.loop-i-init
unfolding components_in entries_in
loop-i-init c =
    record { here = refl; done = paste_none _ _ _ _ refl; marked = copy_none _ _ _ }

pub head-h-requires : goal.head-h-requires
head-h-requires c =
    let held = reached_of _ _ c.requires.holds in
    (omega arith, omega arith, omega arith, omega arith)

pub past-place-requires : goal.past-place-requires
past-place-requires c =
    let inside = inside_here _ _ _ _ _ c.loop-i-test.true c.requires.holds c.head-h.ensures c.loop-i.invariant.here in
    let ends = past_inside c.head-h.result c.loop-i.place c.args.model.now.component_detectors.now c.args.model.now.component_observables.now c.args.model.now.entries.now inside in
    (inside.detectors, inside.observables, omega (arith, c.well_formed))

pub slice_bounds-copy_to-count : goal.slice_bounds-copy_to-count
slice_bounds-copy_to-count c =
    let s = span _ _ _ _ _ _ c.loop-i-test.true c.requires.holds c.head-h.ensures c.loop-i.invariant.here c.past-place.ensures in
    omega arith

pub slice_bounds-copy_to-start : goal.slice_bounds-copy_to-start
slice_bounds-copy_to-start c =
    let s = span _ _ _ _ _ _ c.loop-i-test.true c.requires.holds c.head-h.ensures c.loop-i.invariant.here c.past-place.ensures in
    omega arith

pub slice_bounds-copy_to-end : goal.slice_bounds-copy_to-end
slice_bounds-copy_to-end c =
    let s = span _ _ _ _ _ _ c.loop-i-test.true c.requires.holds c.head-h.ensures c.loop-i.invariant.here c.past-place.ensures in
    omega arith

pub copy_to-requires : goal.copy_to-requires
copy_to-requires c =
    let s = span _ _ _ _ _ _ c.loop-i-test.true c.requires.holds c.head-h.ensures c.loop-i.invariant.here c.past-place.ensures in
    omega (arith, length-take {A = ℕ}, length-drop {A = ℕ})

pub overflow_sub-at : goal.overflow_sub-at
overflow_sub-at c =
    let s = span _ _ _ _ _ _ c.loop-i-test.true c.requires.holds c.head-h.ensures c.loop-i.invariant.here c.past-place.ensures in
    omega arith

pub loop-i-preserved : goal.loop-i-preserved
loop-i-preserved c =
    let s = span _ _ _ _ _ _ c.loop-i-test.true c.requires.holds c.head-h.ensures c.loop-i.invariant.here c.past-place.ensures in
    elim c.if-h-le-MOST_DETECTORS.branch [
      | then-h-le-MOST_DETECTORS w ↦
          let few = rw c.head-h.ensures at w.if-h-le-MOST_DETECTORS.true in
          let size = c.past-place.result.entry - c.loop-i.place.entry in
          record {
            here = s.next;
            done = rw (w.out-is, w.at-is, w.copy_to.ensures)
                (paste_kept _ _ c.args.model.now.entries.now _ c.loop-i.i c.loop-i.at size c.loop-i.out (take size (drop c.loop-i.place.entry c.args.model.now.entries.now)) c.loop-i.invariant.done few (omega arith) (omega arith)
                (ap (λ (k : ℕ). take size (drop k c.args.model.now.entries.now)) s.from));
            marked = rw (w.starts-is, w.kept-is, s.from) (copy_kept _ _ _ c.loop-i.i c.loop-i.kept c.loop-i.starts c.loop-i.invariant.marked (omega (arith, c.requires.started)) few);
          }
      | else-h-le-MOST_DETECTORS w ↦
          let many = rw c.head-h.ensures at w.if-h-le-MOST_DETECTORS.false in
          record {
            here = s.next;
            done = rw (w.out-is, w.at-is) (paste_left _ _ _ _ c.loop-i.i c.loop-i.at c.loop-i.out c.loop-i.invariant.done many s.rises);
            marked = rw (w.starts-is, w.kept-is) (copy_left _ _ _ c.loop-i.i c.loop-i.kept c.loop-i.starts c.loop-i.invariant.marked many);
          }
    ]
