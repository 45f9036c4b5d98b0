-- What a batch leaves, row by row. Each statement is proved in proofs/ under the same name in small letters.
use Rattle.std.specs.Prelude.{Ok, Err}
use Rattle.std.specs.Prelude.{ℕ, ◌+◌, ◌*◌, ◌≤◌, ◌<◌, ◌≡◌, List, length, drop}
use Rattle.lists.specs.Lists.{below}
use Rattle.bits.specs.Rows.{words}
use Rattle.codes.specs.declared.Refusal.TheVariants.{Stuck}
use Rattle.packed.specs.Packed.{row_at}
use Rattle.steps.specs.Graph.{Graph}
use Rattle.steps.specs.Rows.{zeros}
use Rattle.steps.specs.Shot.{impossible}
use Rattle.batch_rows.specs.Row.{shot_at, row_for}
use Rattle.batch_rows.specs.Rows.{check_shots_of, rows_of}

module _ (g : Graph) (rows : List ℕ) (shots : ℕ) (out : List ℕ) where
  -- row s of the output
  abbrev pub left_at : ℕ → List ℕ
  left_at s = row_at (words g.observables) (rows_of g rows (below shots) out) s

  -- no shot is Stuck: each row equals that of its shot decoded by itself, and words past the last row are untouched
  pub record Done : Type 0 where
    pub row : (s : ℕ) → s < shots → left_at s ≡ row_for g rows s
    pub past : drop (shots * words g.observables) (rows_of g rows (below shots) out) ≡ drop (shots * words g.observables) out

  -- shot t is the first that is Stuck: "earlier rows done, this row zero, later untouched"
  pub record Stopped (t d : ℕ) : Type 0 where
    pub within : t < shots
    pub rounds : ℕ
    pub stuck : shot_at g rows t ≡ impossible rounds d
    pub row : (s : ℕ) → s < t → left_at s ≡ row_for g rows s
    pub zero : left_at t ≡ zeros g
    pub later : drop (t * words g.observables + words g.observables) (rows_of g rows (below shots) out) ≡ drop (t * words g.observables + words g.observables) out

  abbrev pub RowAlone : Type 0
  RowAlone = shots * words g.observables ≤ length out → check_shots_of g rows (below shots) ≡ Ok tt → Done

  abbrev pub RowsBefore : Type 0
  RowsBefore = (t d : ℕ) → shots * words g.observables ≤ length out → check_shots_of g rows (below shots) ≡ Err (Stuck t d) → Stopped t d
