-- A call of `check_read` on a struct of slices.
use Rattle.std.specs.Prelude.{List, Float}
use Rattle.codes.specs.Order.{Checked}
use Rattle.frames.specs.declared.State.{State}
use Rattle.model_check.specs.declared.ReadModel.{ReadModel}
use Rattle.model_check.specs.ModelCheck.{ModelChecked}

abbrev pub ReadChecked : State → ReadModel → List Float → Checked → List Float → Type 0
ReadChecked n m was r ps =
    ModelChecked n m.probability_bits.now m.detector_counts.now m.observable_counts.now m.component_counts.now m.component_detectors.now
    m.component_observables.now m.entries.now was r ps
