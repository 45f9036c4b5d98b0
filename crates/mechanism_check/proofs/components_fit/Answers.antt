use Rattle.std.proofs.Common.{◌≡◌, ◌+◌, ◌-◌, arith}
use Rattle.dem.specs.Model.{symptoms_fit}
use Rattle.dem.specs.Tables.{components_of}
use Rattle.dem.proofs.Checks.{fit_turn, first_inside, others_inside}
use Rattle.mechanism_check.proofs.components_fit.Goals as goal

pub symptom_fits-requires : goal.symptom_fits-requires
symptom_fits-requires c =
    let m = c.args.model.now in
    omega (arith, first_inside m.component_detectors.now m.component_observables.now m.entries.now _ c.loop-component.component c.loop-component.entry (omega arith) c.loop-component.invariant.inside)

pub loop-component-preserved : goal.loop-component-preserved
loop-component-preserved c =
    let m = c.args.model.now in
    let k = c.loop-component.component in
    let left = c.args.place.component + c.args.n - k in
    let one : c.args.place.component + c.args.n - (k + 1) ≡ left - 1 = omega arith in
    let turn = fit_turn m.component_detectors.now m.component_observables.now m.entries.now m.detectors m.observables left k c.loop-component.entry (omega arith) in
    rw one (record {
      inside = others_inside m.component_detectors.now m.component_observables.now m.entries.now left k c.loop-component.entry (omega arith) c.loop-component.invariant.inside;
      left = rw (← c.loop-component.invariant.left, turn, ← c.symptom_fits.ensures, c.if-not-symptom_fits.false);
    })

pub returns : goal.returns
unfolding symptoms_fit components_of
returns c =
    let none : c.args.place.component + c.args.n - c.loop-component.component ≡ 0 = omega arith in
    rw none at c.loop-component.invariant.left
