-- `split_model::split_all`: a turn on each mechanism, in order.
use Rattle.std.proofs.Common.{rules}
use mathlib.Core.Path.{refl, sym, ap₂, ◌∙◌}
use native.Mathlib.Omega.{arith}
use Rattle.cover.proofs.Lent as candidates
use Rattle.dem.specs.Tables.{components_in, entries_in}
use Rattle.dem.specs.Lent.{past_in}
use Rattle.dem.proofs.Positions.{reached_of, place_next}
use Rattle.suggested.proofs.Lent as mechanisms
use Rattle.split_model.proofs.Turn.{inside_here, ends_here, large_here, room_here, ready_same, going_first, going_kept, going_one, going_stop, going_end}
use Rattle.split_model.proofs.split_all.Goals as goal
use Rattle.split_model.proofs.split_all.Goals.{then-h-gt2+in_ok-sized, else-h-gt2}

pub loop-i-init : goal.loop-i-init
unfolding components_in entries_in
loop-i-init c = record {
  same = mechanisms.same_none _;
  same_candidates = candidates.same_none _;
  place = refl;
  going = going_first _ c.requires.state;
}

pub head-h-requires : goal.head-h-requires
head-h-requires c =
    let k = reached_of _ _ c.requires.holds in
    (omega (arith, k.probability), omega (arith, k.detectors), omega (arith, k.observables), omega (arith, k.components))

pub past-place-requires : goal.past-place-requires
past-place-requires c =
    let inside = inside_here _ c.requires.holds c.loop-i-test.true in
    let ends = ends_here _ c.requires.holds c.loop-i-test.true in
    rw (c.head-h.ensures, c.loop-i.invariant.place) (inside.detectors, inside.observables, omega (arith, ends, c.requires.small))

pub split_one-requires : goal.split_one-requires
split_one-requires c =
    let g = c.loop-i.invariant.going in
    let same = c.loop-i.invariant.same in (
      rw (c.head-h.ensures, c.loop-i.invariant.place, same.last_of_long) (large_here _ c.requires.holds c.loop-i-test.true c.requires.checked c.requires.small (rw c.head-h.ensures at c.if-h-gt2.true)),
      record {
        ms = g.model;
        was = _;
        ks = _;
        holds = g.holds;
        ready = ready_same c.args.index.now c.args.c.now c.loop-i.c c.requires.ready c.loop-i.invariant.same_candidates;
        front = g.front;
        wide = c.requires.wide ∙ sym same.last_of_long;
        roomy = room_here _ _ _ c.args.ms.now c.loop-i.ms c.loop-i-test.true g.few c.requires.starts_hold c.requires.before_hold c.requires.counts_hold c.requires.others_hold c.requires.probability_hold same;
      },
    )

pub returns-in_err-sized : goal.returns-in_err-sized
returns-in_err-sized c =
    let g = c.loop-i.invariant.going in
    let large = large_here _ c.requires.holds c.loop-i-test.true c.requires.checked c.requires.small (rw c.head-h.ensures at c.if-h-gt2.true) in
    let ready = ready_same c.args.index.now c.args.c.now c.loop-i.c c.requires.ready c.loop-i.invariant.same_candidates in
    record {
      same = mechanisms.same_then c.loop-i.invariant.same c.split_one.ensures.same;
      same_candidates = candidates.same_then c.loop-i.invariant.same_candidates c.split_one.ensures.same_candidates;
      split = going_stop _ g c.requires.holds c.loop-i-test.true large c.split_one.new.ms c.in_err-sized.field-0.0 _ (rw (c.head-h.ensures, c.loop-i.invariant.place) at (c.in_err-sized.ensures.split g.model _ _ g.holds ready g.front)) (search rules);
    }

pub loop-i-preserved : goal.loop-i-preserved
loop-i-preserved c =
    let g = c.loop-i.invariant.going in
    let place = c.past-place.ensures ∙ ap₂ (past_in c.args.model.now) c.head-h.ensures c.loop-i.invariant.place ∙ place_next c.loop-i.i _ in
    elim c.if-h-gt2.branch [
      | then-h-gt2+in_ok-sized w ↦
          let large = large_here _ c.requires.holds c.loop-i-test.true c.requires.checked c.requires.small (rw c.head-h.ensures at w.if-h-gt2.true) in
          let ready = ready_same c.args.index.now c.args.c.now c.loop-i.c c.requires.ready c.loop-i.invariant.same_candidates in
          rw (w.sized-is, w.ms-is, w.c-is) (record {
            same = mechanisms.same_then c.loop-i.invariant.same w.split_one.ensures.same;
            same_candidates = candidates.same_then c.loop-i.invariant.same_candidates w.split_one.ensures.same_candidates;
            place = place;
            going = going_one _ g c.requires.holds c.loop-i-test.true large w.split_one.new.ms w.in_ok-sized.sized (rw (c.head-h.ensures, c.loop-i.invariant.place) at (w.in_ok-sized.ensures.split g.model _ _ g.holds ready g.front));
          })
      | else-h-gt2 w ↦ rw (w.sized-is, w.ms-is, w.c-is) (record {
        same = c.loop-i.invariant.same;
        same_candidates = c.loop-i.invariant.same_candidates;
        place = place;
        going = going_kept _ g c.requires.holds c.loop-i-test.true (rw c.head-h.ensures at w.if-h-gt2.false);
      })
    ]

pub returns : goal.returns
returns c = record {
  same = c.loop-i.invariant.same;
  same_candidates = c.loop-i.invariant.same_candidates;
  split = going_end _ c.loop-i.invariant.going c.loop-i-test.false;
}
