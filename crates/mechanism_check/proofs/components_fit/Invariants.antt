-- `mechanism_check::components_fit`: the components left lie inside the tables, and they fit just where all of them do.
use Rattle.std.proofs.Common.{◌≡◌, ◌+◌, ◌-◌, drop}
use Rattle.dem.specs.Model.{symptoms_fit}
use Rattle.dem.specs.Tables.{components_of}
use Rattle.dem.specs.Positions.{Within}
use Rattle.mechanism_check.proofs.components_fit.Given as goal

abbrev pub invariant-loop-component : goal.invariant-loop-component
invariant-loop-component l =
    let m = l.model in
    let left = l.fn.place.component + l.n - l.component in
    record {
      inside : Within left l.component l.entry m.component_detectors.now m.component_observables.now m.entries.now;
      left : symptoms_fit m.detectors m.observables (components_of left (drop l.component m.component_detectors.now) (drop l.component m.component_observables.now) (drop l.entry m.entries.now))
          ≡ symptoms_fit m.detectors m.observables (components_of l.n (drop l.fn.place.component m.component_detectors.now) (drop l.fn.place.component m.component_observables.now) (drop l.fn.place.entry m.entries.now));
    }
