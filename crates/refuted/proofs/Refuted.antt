-- Each wrong program is shown wrong on one shot of the example's model, by one field of the statement.
use Prim.Native.Nat.{ℕ, zero, suc}
use native.Mathlib.Omega.{arith}
use mathlib.Core.Path.{◌≡◌, refl, sym}
use mathlib.Core.List.{List, [], ◌∷◌}
use mathlib.Core.Bool.{Bool, true, false, true≢false}
use lib.Ieee as Ieee
use lib.Ieee.{Float, binary64}
use Rattle.lists.specs.Lists.{below}
use Rattle.codes.specs.Limits.{check_counts}
use Rattle.steps.specs.Graph.{Graph, boundary, flipped}
use Rattle.steps.specs.Growth.{ended, onward, after}
use Rattle.steps.specs.Marker.{pass, unfit, fit}
use Rattle.steps.specs.Call.{AcceptedGraph, check_edges}
use Rattle.steps.specs.Cases.{both_edges}
use Rattle.steps.specs.Found.{Programs, Explains, Found, Demand3}
use Rattle.refuted.specs.Wrong as Wrong
use Rattle.refuted.specs.Refuted.{Refuted, Breaks}

-- ---- the example's model

accepted : AcceptedGraph both_edges
unfolding both_edges check_counts check_edges below Ieee.le
accepted = record { limits = refl; ends_table = refl; weight_table = refl; obs_table = refl; passes = refl }

-- the statement on a shot of it
module _ {p : Programs} (demand : Demand3 p) where
  on : (d0 d1 : Bool) → Found p both_edges (d0 ∷ d1 ∷ [])
  unfolding both_edges
  on d0 d1 = demand both_edges accepted (d0 ∷ d1 ∷ []) refl

-- a list that flips D0 and D1 as the shot has them lit
explain : (d0 d1 : Bool) (es : List ℕ) → flipped both_edges es 0 ≡ d0 → flipped both_edges es 1 ≡ d1 → Explains both_edges (d0 ∷ d1 ∷ []) es
unfolding both_edges
explain d0 d1 es a b zero h = a
explain d0 d1 es a b (suc zero) h = b
explain d0 d1 es a b (suc (suc d)) h = absurd (omega arith)

-- ---- what cannot be

-- a row of 0 for a row of 1
row_differs : ◌≡◌ {A = List ℕ} (0 ∷ []) (1 ∷ []) → ⊥
row_differs e = let z : ◌≡◌ {A = ℕ} 0 1 = cc in omega arith

-- a cluster active after the last round
pub still_active : (a : ℕ) → a ∷ [] ≡ [] → ⊥
still_active a e = let z : ◌≡◌ {A = ℕ} 0 1 = cc in omega arith

-- a round finished where no cluster was active
pub over : ended ≡ onward → ⊥
over e = let z : ◌≡◌ {A = ℕ} 0 1 = cc in omega arith

-- a Pass for a refusal
not_refused : (row : List ℕ) → pass row ≡ unfit → ⊥
not_refused row e = let z : ◌≡◌ {A = ℕ} 0 1 = cc in omega arith

-- ---- Stuck

stuck_always_lem : (rounds named : Graph → List Bool → ℕ) → Breaks (Wrong.stuck_always rounds named)
unfolding Wrong.stuck_always
stuck_always_lem rounds named demand = (on demand false false).exactly.0 (_, _, refl) [] refl (explain false false [] refl refl)

stuck_first_lem : Breaks Wrong.stuck_first
unfolding both_edges Wrong.stuck_first
stuck_first_lem demand = (on demand true false).exactly.0 (_, _, refl) (0 ∷ []) refl (explain true false (0 ∷ []) refl refl)

-- ---- the decoder's row

zero_row_lem : Breaks Wrong.zero_row
unfolding both_edges Wrong.zero_row Ieee.div Ieee.sub Ieee.of_int Ieee.le Ieee.mul
zero_row_lem demand = row_differs (((on demand true false).whole 1 (0 ∷ []) refl).row (0 ∷ []) refl)

never_written_lem : Breaks Wrong.never_written
unfolding both_edges Wrong.never_written Ieee.div Ieee.sub Ieee.of_int Ieee.le Ieee.mul
never_written_lem demand = row_differs (((on demand true false).whole 1 (0 ∷ []) refl).row (0 ∷ []) refl)

-- ---- rounds

one_round_more_lem : Breaks Wrong.one_round_more
unfolding both_edges Wrong.one_round_more after
one_round_more_lem demand = over (((on demand false false).rounds 1 [] refl).0.each 0 (omega arith)).begun

one_round_fewer_lem : Breaks Wrong.one_round_fewer
unfolding both_edges Wrong.one_round_fewer after Ieee.div Ieee.sub Ieee.of_int Ieee.le
one_round_fewer_lem demand = still_active 0 ((on demand false true).rounds 1 (1 ∷ 0 ∷ []) refl).1

same_rounds_lem : (m : ℕ) → Breaks (Wrong.same_rounds m)
unfolding both_edges Wrong.same_rounds after Ieee.div Ieee.sub Ieee.of_int Ieee.le Ieee.mul
same_rounds_lem zero demand = still_active 0 ((on demand true false).rounds 0 (0 ∷ []) refl).1
same_rounds_lem (suc m) demand = over (((on demand false false).rounds (suc m) [] refl).0.each 0 (omega arith)).begun

no_rounds_lem : Breaks Wrong.no_rounds
unfolding Wrong.no_rounds
no_rounds_lem = same_rounds_lem 0

saturate_all_lem : Breaks Wrong.saturate_all
unfolding both_edges Wrong.saturate_all after Ieee.div Ieee.sub Ieee.of_int Ieee.le
saturate_all_lem demand = still_active 0 ((on demand false true).rounds 1 (1 ∷ 0 ∷ []) refl).1

-- ---- the marker

passes_all_lem : Breaks Wrong.passes_all
unfolding both_edges Wrong.passes_all
passes_all_lem demand = true≢false (((on demand false false).judged (0 ∷ []) refl).exactly.0 (_, refl) 0 (omega arith))

passes_any_lem : Breaks Wrong.passes_any
unfolding both_edges Wrong.passes_any fit
passes_any_lem demand = not_refused _ ((on demand false false).refused (0 ∷ 0 ∷ []) refl)

refuses_none_lem : Breaks Wrong.refuses_none
unfolding both_edges Wrong.refuses_none fit
refuses_none_lem demand = not_refused _ ((on demand false false).refused (0 ∷ 0 ∷ []) refl)

marks_zero_lem : Breaks Wrong.marks_zero
unfolding both_edges Wrong.marks_zero
marks_zero_lem demand = row_differs (((on demand true false).judged (0 ∷ []) refl).row (0 ∷ []) refl)

-- ---- the list

empty_list_lem : Breaks Wrong.empty_list
unfolding both_edges Wrong.empty_list Ieee.div Ieee.sub Ieee.of_int Ieee.le Ieee.mul
empty_list_lem demand = true≢false (sym (((on demand true false).whole 1 [] refl).explains 0 (omega arith)))

last_left_out_lem : Breaks Wrong.last_left_out
unfolding both_edges Wrong.last_left_out Ieee.div Ieee.sub Ieee.of_int Ieee.le
last_left_out_lem demand = true≢false (((on demand false true).whole 2 (1 ∷ []) refl).explains 0 (omega arith))

parent_not_flipped_lem : Breaks Wrong.parent_not_flipped
unfolding both_edges Wrong.parent_not_flipped Ieee.div Ieee.sub Ieee.of_int Ieee.le
parent_not_flipped_lem demand = true≢false (((on demand false true).whole 2 (1 ∷ []) refl).explains 0 (omega arith))

-- ---- together

pub refuted : Refuted
refuted = record {
  stuck_always = stuck_always_lem;
  stuck_first = stuck_first_lem;
  zero_row = zero_row_lem;
  never_written = never_written_lem;
  one_round_more = one_round_more_lem;
  one_round_fewer = one_round_fewer_lem;
  no_rounds = no_rounds_lem;
  same_rounds = same_rounds_lem;
  saturate_all = saturate_all_lem;
  passes_all = passes_all_lem;
  passes_any = passes_any_lem;
  refuses_none = refuses_none_lem;
  marks_zero = marks_zero_lem;
  empty_list = empty_list_lem;
  last_left_out = last_left_out_lem;
  parent_not_flipped = parent_not_flipped_lem;
}
