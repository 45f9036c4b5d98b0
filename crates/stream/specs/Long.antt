-- What an input is answered over: tables and buffers of their own.
use Rattle.std.specs.Prelude.{ℕ, ◌≤◌, ◌≡◌, List, length}
use Rattle.edges.specs.Tables.{Slices}
use Rattle.frames.specs.LineLaws.{longest}
use Rattle.reader.specs.Columns.{Columns}
use Rattle.session.specs.Kept.{Sizes}

-- tables and buffers as long as they have to be: the longest line, and what a last line and the end are answered with
pub record Long (c : Columns) (g : Slices) (line reply : List ℕ) : Type 0 where
  pub sizes : Sizes c g
  pub buffer : length line ≡ longest
  pub room : 1101 ≤ length reply
