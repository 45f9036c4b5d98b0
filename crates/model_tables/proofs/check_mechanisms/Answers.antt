use Rattle.std.proofs.Common.{refl, sym, ◌∙◌, arith, rules}
use Rattle.dem.specs.Tables.{components_in, entries_in}
use Rattle.dem.proofs.Positions.{reached_of, inside_here, past_inside, place_next, check_first, check_turn, check_last}
use Rattle.model_tables.proofs.check_mechanisms.Goals as goal

pub loop-i-init : goal.loop-i-init
unfolding components_in entries_in
loop-i-init c =
    record { here = refl; left = check_first _ _ _ _ }

pub head-h-requires : goal.head-h-requires
head-h-requires c =
    let held = reached_of _ _ c.requires in
    (omega arith, omega arith, omega arith, omega arith)

pub check_mechanism-requires : goal.check_mechanism-requires
check_mechanism-requires c = inside_here _ _ _ _ _ c.loop-i-test.true c.requires c.head-h.ensures c.loop-i.invariant.here

pub returns-in_err-check_mechanism : goal.returns-in_err-check_mechanism
returns-in_err-check_mechanism c =
    let turn = check_turn _ _ _ _ _ _ _ _ c.loop-i-test.true c.head-h.ensures c.loop-i.invariant.here c.check_mechanism.ensures in
    rw (← c.loop-i.invariant.left, turn, c.in_err-check_mechanism.was) (search rules)

pub past-place-requires : goal.past-place-requires
past-place-requires c =
    let inside = inside_here _ _ _ _ _ c.loop-i-test.true c.requires c.head-h.ensures c.loop-i.invariant.here in
    let ends = past_inside c.head-h.result c.loop-i.place c.args.model.now.component_detectors.now c.args.model.now.component_observables.now c.args.model.now.entries.now inside in
    (inside.detectors, inside.observables, omega arith)

pub loop-i-preserved : goal.loop-i-preserved
loop-i-preserved c =
    let turn = check_turn _ _ _ _ _ _ _ _ c.loop-i-test.true c.head-h.ensures c.loop-i.invariant.here c.check_mechanism.ensures in
    record {
      here = rw (c.past-place.ensures, c.head-h.ensures, c.loop-i.invariant.here) (place_next _ _);
      left = rw (← c.loop-i.invariant.left, turn, c.in_ok-check_mechanism.was);
    }

pub returns : goal.returns
returns c =
    sym (check_last _ _ _ _ _ c.loop-i-test.false) ∙ c.loop-i.invariant.left
