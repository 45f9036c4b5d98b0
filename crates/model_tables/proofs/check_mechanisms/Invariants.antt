-- `model_tables::check_mechanisms`: the place is that of mechanism i, and the check from i on is the whole check.
use Rattle.std.proofs.Common.{◌≡◌, ◌-◌}
use Rattle.dem.specs.Model.{check_model}
use Rattle.dem.specs.Tables.{model_of}
use Rattle.dem.specs.Positions.{place_of, tables_from}
use Rattle.dem.specs.Lent.{tables_of}
use Rattle.model_tables.proofs.check_mechanisms.Given as goal

abbrev pub invariant-loop-i : goal.invariant-loop-i
invariant-loop-i l =
    let m = l.model in
    let t = tables_of m in
    record {
      here : l.place ≡ place_of l.i t;
      left : check_model m.detectors m.observables l.i (model_of (m.mechanisms - l.i) (tables_from l.i t)) ≡ check_model m.detectors m.observables 0 (model_of m.mechanisms t);
    }
