-- A shot of a batch, and its row: docs/RULES.md, "Shots and rows".
use Rattle.std.specs.Prelude.{ℕ, ◌+◌, ◌*◌, ◌≤◌, ◌≡◌, List, ◌++◌, true, length, take, drop}
use Rattle.bits.specs.Rows.{words, is_clear}
use Rattle.codes.specs.Limits.{max_detectors, max_observables, max_shots}
use Rattle.packed.specs.Packed.{row_at}
use Rattle.steps.specs.Graph.{Graph}
use Rattle.steps.specs.Rows.{zeros}
use Rattle.steps.specs.Shot.{Decoded, decode, row_left}
use Rattle.steps.specs.Call.{lit_of}

-- the row of shot s, w words from s·w on, in its place
unfoldable pub put_row : ℕ → ℕ → List ℕ → List ℕ → List ℕ
put_row w s row out = take (s * w) out ++ (row ++ drop (s * w + w) out)

module _ (g : Graph) (rows : List ℕ) where
  -- shot s, decoded by itself
  abbrev pub shot_at : ℕ → Decoded
  shot_at s = decode g (lit_of g.detectors (row_at (words g.detectors) rows s))

  -- its row: zeroed when the batch comes to it, then XORed into; a Stuck shot's stays zero
  abbrev pub row_for : ℕ → List ℕ
  row_for s = row_left g (zeros g) (shot_at s)

-- within the limits: shot s of width D with clear padding, its row of the output, and an entry of the list for each detector
pub record GivenRow (d o s : ℕ) (rows out list : List ℕ) : Type 0 where
  pub few : s ≤ max_shots
  pub few_detectors : d ≤ max_detectors
  pub few_observables : o ≤ max_observables
  pub words_end : s * words d + words d ≤ length rows
  pub clear : is_clear d (row_at (words d) rows s) ≡ true
  pub row_end : s * words o + words o ≤ length out
  pub lists : d ≤ length list
