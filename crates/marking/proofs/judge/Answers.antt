-- `marking::judge` meets its contract: the marks cleared and the shot copied, then the walk over the list and the lowest wrong detector.
use mathlib.Core.Path.{refl}
use native.Mathlib.Omega.{arith}
use Rattle.marking.proofs.Judged.{unmet, few_words, whole_row, unfit_list, fit_list}
use Rattle.marking.proofs.judge.Goals as goal

pub meet-requires : goal.meet-requires
meet-requires c = unmet _ _ _ _ _ _ _ c.requires _ _ (c.fill.ensures.after (λ y e. e)) (whole_row _ _ _ _ _ _ _ c.requires _ c.copy_to.ensures)

pub returns-then-not-meet : goal.returns-then-not-meet
returns-then-not-meet c = unfit_list _ _ _ _ _ _ _ c.requires c.args.list.now c.if-not-meet.ensures.known

pub lowest-requires : goal.lowest-requires
lowest-requires c = omega (arith, few_words _ _ _ _ _ _ _ c.requires)

pub returns-in-Some : goal.returns-in-Some
returns-in-Some c =
    fit_list _ _ _ _ _ _ _ c.requires c.args.list.now c.if-not-meet.ensures.known (whole_row _ _ _ _ _ _ _ c.requires _ c.copy_to.ensures) (c.if-not-meet.ensures.flips refl) c.in-Some.ensures

pub returns-in-None : goal.returns-in-None
returns-in-None c =
    fit_list _ _ _ _ _ _ _ c.requires c.args.list.now c.if-not-meet.ensures.known (whole_row _ _ _ _ _ _ _ c.requires _ c.copy_to.ensures) (c.if-not-meet.ensures.flips refl) c.in-None.ensures
