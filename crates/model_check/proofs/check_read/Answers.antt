-- `model_check::check_read`: two lengths, the column, the check; a refusal puts the column to zero.
use mathlib.Core.Path.{sym, ap, ◌∙◌}
use mathlib.Core.Bool.{false}
use lib.IntN.{pos}
use lib.Ieee.{fin}
use lib.ListN.{replicate}
use Rattle.model_check.proofs.FromLines.{short, checked_refused, checked_accepted}
use Rattle.model_check.proofs.check_read.Goals as goal

pub returns-then-read-mechanisms : goal.returns-then-read-mechanisms
returns-then-read-mechanisms c =
    let m = c.args.read.now in
    short c.args.n m.probability_bits.now m.detector_counts.now m.observable_counts.now m.component_counts.now m.component_detectors.now m.component_observables.now m.entries.now c.args.probability.now c.then-read-mechanisms.either _ _ c.refuse.ensures.0 c.refuse.ensures.1

pub returns-in-Err : goal.returns-in-Err
returns-in-Err c =
    let m = c.args.read.now in
    checked_refused c.args.n m.probability_bits.now m.detector_counts.now m.observable_counts.now m.component_counts.now m.component_detectors.now m.component_observables.now m.entries.now c.args.probability.now c.if-read-mechanisms.false c.if-probability-mechanisms.false _ c.probabilities.ensures _ _ _ (sym c.in-Err.is ∙ c.check_model.ensures) c.refuse-in-Err.ensures.0 (c.refuse-in-Err.ensures.1 ∙ ap (λ n. replicate n (fin false 0 (pos 0))) c.probabilities.auto.out)

pub returns-in-Ok : goal.returns-in-Ok
returns-in-Ok c =
    let m = c.args.read.now in
    checked_accepted c.args.n m.probability_bits.now m.detector_counts.now m.observable_counts.now m.component_counts.now m.component_detectors.now m.component_observables.now m.entries.now c.args.probability.now c.if-read-mechanisms.false c.if-probability-mechanisms.false _ c.probabilities.ensures (sym c.in-Ok.is ∙ c.check_model.ensures)
