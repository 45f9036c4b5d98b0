-- What the numbers and the tables stand for, from the first line on; proofs/Laws.antt proves it.
use Rattle.std.specs.Prelude.{ℕ, ◌≡◌, List}
use Rattle.frames.specs.Input.{Input, next, start, read_line}
use Rattle.frames.specs.Counts.{counts_of}
use Rattle.reader.specs.Columns.{Columns, columns_at, Holds}

pub record Laws : Type 0 where
  -- before the first line, any tables hold what was read
  pub first : (c : Columns) → Holds start (counts_of start) c
  -- and what `read_line` leaves after a line holds what is read with it
  pub later : (s t : Input) (c left : Columns) (line : List ℕ) → read_line s line ≡ next t → left ≡ columns_at t c → Holds t (counts_of t) left
