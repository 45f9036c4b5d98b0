-- The shots of a batch, in order, and the rows that they leave: docs/RULES.md, "Shots and rows" and "Refusals".
use Rattle.std.specs.Prelude.{Ok, Err}
use Rattle.std.specs.Prelude.{ℕ, ◌*◌, ◌<◌, ◌≤◌, ◌≡◌, true, length}
use mathlib.Core.List.{List, [], ◌∷◌}
use Rattle.bits.specs.Rows.{words, is_clear}
use Rattle.codes.specs.declared.Refusal.TheVariants.{Stuck}
use Rattle.codes.specs.Order.{Checked, and_then}
use Rattle.codes.specs.Limits.{max_detectors, max_observables, max_shots}
use Rattle.packed.specs.Packed.{row_at}
use Rattle.steps.specs.Graph.{Graph}
use Rattle.steps.specs.Rows.{zeros}
use Rattle.steps.specs.Shot.{Decoded, impossible, corrected, decode, row_left}
use Rattle.batch_rows.specs.Row.{put_row, shot_at, row_for}

module _ (g : Graph) (rows : List ℕ) where
  -- 11 with shot and detector, where shot s is Stuck
  abbrev pub stuck_at : ℕ → Decoded → Checked
  stuck_at s (impossible n d) = Err (Stuck s d)
  stuck_at s (corrected n list) = (Ok tt)

  -- the first Stuck shot decides
  unfoldable pub check_shots_of : List ℕ → Checked
  unfolding decode
  check_shots_of [] = (Ok tt)
  check_shots_of (s ∷ ss) = and_then (stuck_at s (shot_at g rows s)) (check_shots_of ss)

  -- "earlier rows done, this row zero, later untouched"
  abbrev pub rows_on : Decoded → List ℕ → List ℕ → List ℕ
  rows_on (impossible n d) now later = now
  rows_on (corrected n list) now later = later

  unfoldable pub rows_of : List ℕ → List ℕ → List ℕ
  unfolding decode put_row row_left zeros
  rows_of [] out = out
  rows_of (s ∷ ss) out =
      let now = put_row (words g.observables) s (row_for g rows s) out in
      rows_on (shot_at g rows s) now (rows_of ss now)

-- within the limits: shots of width D with clear padding, a row of the output for each, and an entry of the list for each detector
pub record GivenRows (d o shots : ℕ) (rows out list : List ℕ) : Type 0 where
  pub few : shots ≤ max_shots
  pub few_detectors : d ≤ max_detectors
  pub few_observables : o ≤ max_observables
  pub long : length rows ≡ shots * words d
  pub clear : (s : ℕ) → s < shots → is_clear d (row_at (words d) rows s) ≡ true
  pub outs : shots * words o ≤ length out
  pub lists : d ≤ length list
