-- An input that comes in parts: docs/RULES.md, "Frames".
use Rattle.std.specs.Prelude.{ℕ, ◌≡◌, List, ◌++◌}
use Rattle.frames.specs.Input.{lines_of}
use Rattle.session.specs.Output.{Session, answers}
use Rattle.session.specs.Memory.{Memory, memory_after}

-- ---- the text

-- s, with a line begun, reads more: text is written, and t stands with `pending` begun. Whatever comes after it, the answers are the text and then those of t
pub record Comes (s : Session) (begun more text : List ℕ) (t : Session) (pending : List ℕ) : Type 0 where
  pub whole : (rest : List ℕ) → answers s (lines_of (begun ++ (more ++ rest))) ≡ text ++ answers t (lines_of (pending ++ rest))

-- the same, where the text is ended by a refusal: whatever comes after it, nothing more is written
pub record Closes (s : Session) (begun more text : List ℕ) : Type 0 where
  pub whole : (rest : List ℕ) → answers s (lines_of (begun ++ (more ++ rest))) ≡ text

-- ---- the tables, likewise

-- s, with a line begun and the tables m, reads more, and t stands with `pending` begun and the tables n
pub record Leads (s : Session) (begun more : List ℕ) (m : Memory) (t : Session) (pending : List ℕ) (n : Memory) : Type 0 where
  pub whole : (rest : List ℕ) → memory_after s m (lines_of (begun ++ (more ++ rest))) ≡ memory_after t n (lines_of (pending ++ rest))

-- the same, where a refusal ends it
pub record Settles (s : Session) (begun more : List ℕ) (m n : Memory) : Type 0 where
  pub whole : (rest : List ℕ) → memory_after s m (lines_of (begun ++ (more ++ rest))) ≡ n
