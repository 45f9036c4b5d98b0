-- What checks that accept leave true.
use Prim.Native.Nat.{ℕ, ◌≤◌}
use mathlib.Core.Path.{◌≡◌, refl}
use mathlib.Core.Bool.{Bool, true, false, not}
use borrow.Author.Tests.{ltb-false, not-false}
use Rattle.codes.specs.declared.Refusal.{Refusal}
use Rattle.std.specs.Prelude.{Ok, Err}
use Rattle.codes.specs.Order.{Checked, refuse_if, and_then}
use Rattle.codes.specs.Limits.{max_detectors, max_observables, max_mechanisms, check_counts}

pub then_accepted : (a b : Checked) → and_then a b ≡ Ok tt → (a ≡ Ok tt) × (b ≡ Ok tt)
then_accepted (Ok _) b h = (refl, h)
then_accepted (Err r) b h = (h, cc)

pub if_accepted : (b : Bool) (r : Refusal) → refuse_if b r ≡ Ok tt → b ≡ false
if_accepted true r h = cc
if_accepted false r h = refl

pub unless_accepted : (b : Bool) (r : Refusal) → refuse_if (not b) r ≡ Ok tt → b ≡ true
unless_accepted b r h = not-false b (if_accepted (not b) r h)

pub counts_within : (d o items : ℕ) → check_counts d o items ≡ Ok tt → (d ≤ max_detectors) × (o ≤ max_observables) × (items ≤ max_mechanisms)
unfolding check_counts
counts_within d o items h =
    let (a, p) = then_accepted _ _ h in
    let (b, c) = then_accepted _ _ p in
    (ltb-false _ _ (if_accepted _ _ a), ltb-false _ _ (if_accepted _ _ b), ltb-false _ _ (if_accepted _ _ c))
