-- `suggested::add_component`: the last equal mechanism, or no place, or a new one.
use Rattle.std.proofs.Common.{sym, arith}
use Rattle.suggested.proofs.Adding.{found_below, add_found, add_full, add_new}
use Rattle.suggested.proofs.add_component.Goals as goal

pub raise-requires : goal.raise-requires
raise-requires c =
    let held = c.requires.held.holds in
    omega (arith, found_below _ _ _ _ _ _ _ _ _ _ held c.args.s c.args.room c.args.p _ c.in-Some.ensures, held.fits)

pub returns-in-Some-clause-added : goal.returns-in-Some-clause-added
returns-in-Some-clause-added c = λ so_far was h. rw c.raise.ensures (add_found _ _ _ _ _ _ _ _ _ _ h c.args.s c.args.room c.args.p _ c.in-Some.ensures)

pub returns-then-not-has_place-clause-added : goal.returns-then-not-has_place-clause-added
returns-then-not-has_place-clause-added c = λ so_far was h. add_full _ _ _ _ _ _ _ _ _ _ h c.args.s c.args.room c.args.p c.in_default.ensures c.requires.component (sym c.if-not-has_place.ensures) _ _ _ _ _ _

pub returns-clause-added : goal.returns-clause-added
returns-clause-added c = λ so_far was h. add_new _ _ _ _ _ _ _ _ _ _ h c.args.s c.args.room c.args.p c.in_default.ensures c.requires.component (sym c.if-not-has_place.ensures) c.requires.roomy _ _ _ _ _ _ c.append.ensures.appended c.append.ensures.same.last_of_long
