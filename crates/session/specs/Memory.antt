-- The tables of a session, as its lines leave them.
use Rattle.std.specs.Prelude.{ℕ, List, [], ◌∷◌}
use Rattle.edges.specs.Tables.{Slices}
use Rattle.reader.specs.Columns.{Columns}
use Rattle.session.specs.Output.{Session, Answer, goes, ends, answer_line}
use Rattle.session.specs.Kept.{columns_after, slices_after}

-- those that lines are read into, and those of the graph
pub record Memory : Type 0 where
  pub columns : Columns
  pub slices : Slices

abbrev pub memory : Columns → Slices → Memory
memory c g = record { columns = c; slices = g }

-- as a line leaves them, refused or not
abbrev pub after_line : Session → List ℕ → Memory → Memory
after_line s line m = memory (columns_after s line m.columns) (slices_after s line m.slices)

abbrev pub go_on_with : Answer → Memory → (Session → Memory → Memory) → Memory
go_on_with (goes t text) m rest = rest t m
go_on_with (ends r) m rest = m

-- as all lines leave them, to the first refusal
unfoldable pub memory_after : Session → Memory → List (List ℕ) → Memory
unfolding answer_line
memory_after s m [] = m
memory_after s m (line ∷ lines) = go_on_with (answer_line s line) (after_line s line m) (λ t n. memory_after t n lines)
