-- The failures of the shots before one, and what a rate that is not refused may be made from.
use Rattle.std.specs.Prelude.{Ok}
use Prim.Native.Nat.{ℕ, ◌+◌, ◌≤◌}
use native.Mathlib.Nat.{add-zero}
use native.Mathlib.Omega.{arith}
use mathlib.Core.Path.{◌≡◌, refl, sym, ap, ◌∙◌}
use mathlib.Core.List.{List}
use mathlib.Core.Bool.{Bool, cond, ◌&&◌}
use lib.Dec.{eqb}
use lib.ListN.{length, length-append}
use borrow.Author.Tests.{eqb-true}
use Rattle.lists.specs.Lists.{from, below, filter}
use Rattle.lists.proofs.Truth.{case-of, and_left, and_right}
use Rattle.lists.proofs.Filters.{length_filter}
use Rattle.lists.proofs.Members.{length_below}
use Rattle.lists.proofs.Ranges.{filter_split}
use Rattle.bits.specs.Rows.{words}
use Rattle.codes.proofs.Checks.{unless_accepted}
use Rattle.packed.specs.Packed.{row_at}
use Rattle.failures.specs.Failures.{differs, failures_in, shape_of}

module _ (o : ℕ) (out truth : List ℕ) where
  abbrev fails : ℕ → Bool
  fails s = differs o (row_at (words o) out s) (row_at (words o) truth s)

  pub none : failures_in o 0 out truth ≡ 0
  unfolding failures_in filter below from
  none = refl

  -- one shot more
  pub more : (s : ℕ) → failures_in o (s + 1) out truth ≡ failures_in o s out truth + cond (fails s) 1 0
  unfolding failures_in filter below from
  more s = ap length (filter_split fails s 1 0) ∙ length-append (filter fails (from s 0)) (filter fails (from 1 (s + 0)))
      ∙ rw (add-zero s) (case-of (fails s) (λ t. rw t) (λ f. rw f))

  pub few : (s : ℕ) → failures_in o s out truth ≤ s
  unfolding failures_in
  few s = omega (arith, length_filter fails (below s), length_below s)

-- ---- the shape

pub shape_fits : (o shots true_shots true_width : ℕ) → Ok tt ≡ shape_of o shots true_shots true_width → (true_shots ≡ shots) × (true_width ≡ o)
unfolding shape_of
shape_fits o shots true_shots true_width h =
    let a = eqb true_shots shots in
    let b = eqb true_width o in
    let both = unless_accepted (a && b) _ (sym h) in
    (eqb-true true_shots shots (and_left a b both), eqb-true true_width o (and_right a b both))
