-- `splits::split_one`: by the components, or by the first cover.
use Rattle.std.proofs.Common.{rules}
use mathlib.Core.Path.{sym, ◌∙◌}
use native.Mathlib.Omega.{arith}
use Rattle.suggested.specs.Held.{places_of}
use Rattle.splits.proofs.Ways.{kept_ready, coverable, few_components, counts_are, suggested, by_components, by_no_cover, by_first_cover}
use Rattle.splits.proofs.split_one.Goals as goal

pub add_components-requires : goal.add_components-requires
add_components-requires c =
    let few = few_components c.requires.0 in
    let room = c.requires.1.roomy in
    record {
      suggested = suggested c.requires.0 (counts_are c.requires.0 ∙ sym c.is_suggested.ensures ∙ c.if-is_suggested.true);
      roomy = record { starts_hold = omega arith; before_hold = omega arith; counts_hold = room.counts_hold; others_hold = room.others_hold; probability_hold = room.probability_hold };
      held = record { ms = c.requires.1.ms; was = c.requires.1.was; holds = c.requires.1.holds };
    }

pub returns-then-is_suggested-clause-split : goal.returns-then-is_suggested-clause-split
returns-then-is_suggested-clause-split c =
    λ so_far was ks h r f. by_components c.requires.0 (places_of c.args.room) ks c.args.i so_far was _ _ _ _ _ _ _ _ (counts_are c.requires.0 ∙ sym c.is_suggested.ensures ∙ c.if-is_suggested.true) (c.add_components.ensures.added so_far was h) c.ok_or.ensures.value

pub add_cover-requires : goal.add_cover-requires
add_cover-requires c =
    let s = c.requires.1 in
    (rw s.wide (coverable c.requires.0), kept_ready s.holds s.ready s.front s.wide)

pub returns-in_err-ok_or-clause-split : goal.returns-in_err-ok_or-clause-split
returns-in_err-ok_or-clause-split c =
    let k = c.add_cover.ensures.kept in
    λ so_far was ks h r f. rw (k.0, k.1, k.2, k.3, k.4) (by_no_cover c.requires.0 (places_of c.args.room) ks c.args.i so_far was h r f _ _ (counts_are c.requires.0 ∙ sym c.is_suggested.ensures ∙ c.if-is_suggested.false) c.add_cover.ensures.covered _ _ c.in_err-ok_or.ensures.value (search rules))

pub returns-clause-split : goal.returns-clause-split
returns-clause-split c =
    let k = c.add_cover.ensures.kept in
    λ so_far was ks h r f. rw (k.0, k.1, k.2, k.3, k.4) (by_first_cover c.requires.0 (places_of c.args.room) ks c.args.i so_far was h r f _ _ (counts_are c.requires.0 ∙ sym c.is_suggested.ensures ∙ c.if-is_suggested.false) c.add_cover.ensures.covered _ _ c.in_ok-ok_or.ensures.value)
