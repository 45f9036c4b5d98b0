-- What is left to write at the end of an input.
use Rattle.std.specs.Prelude.{ℕ, ◌≡◌, List, length}
use Rattle.dem.specs.Tables.{written}
use Rattle.edges.specs.Tables.{Slices}
use Rattle.frames.specs.Input.{lines_of}
use Rattle.reader.specs.Columns.{Columns}
use Rattle.session.specs.declared.Numbers.{Numbers}
use Rattle.session.specs.Output.{Session, answers}
use Rattle.session.specs.Kept.{numbers_of, Sizes, Keeps}
use Rattle.session.specs.Memory.{memory, memory_after}

-- the answers to a last line that is begun, and to the end, at the front of the output, and every word of the tables
pub record Finishes (n : Numbers) (c : Columns) (g : Slices) (line : List ℕ) (r : ℕ) (c' : Columns) (g' : Slices) (was out : List ℕ) : Type 0 where
  pub long : (s : Session) → n ≡ numbers_of s → Keeps s c g → Sizes c g → r ≡ length (answers s (lines_of line))
  pub text : (s : Session) → n ≡ numbers_of s → Keeps s c g → Sizes c g → out ≡ written (answers s (lines_of line)) was
  pub tables : (s : Session) → n ≡ numbers_of s → Keeps s c g → Sizes c g → memory c' g' ≡ memory_after s (memory c g) (lines_of line)
