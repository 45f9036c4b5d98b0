-- An input that lies whole in memory, and what is written of it.
use Rattle.std.specs.Prelude.{Option, Some, None, ℕ, ◌+◌, ◌≤◌, ◌≡◌, cond, List, [], leb, length, take}
use Rattle.std.proofs.lemmas.List.Edits.{sets}
use Rattle.edges.specs.Tables.{Slices}
use Rattle.reader.specs.Columns.{Columns}
use Rattle.session.specs.Output.{Session, begin, output_of}
use Rattle.stream.specs.declared.Place.{Place}
use Rattle.stream.specs.Text.{Comes}
use Rattle.stream.specs.Fed.{between, At}

-- ---- the call

-- a text of so many bytes in an output of so many: all of it, or there is no room for all
abbrev pub fitted : ℕ → ℕ → Option ℕ
fitted size room = cond (leb size room) (Some size) None

-- all that the call promises: whether there was room for all that the input is answered with, and every byte of the output. `sets` stores byte by byte from the front,
-- as far as the slice goes: the bytes past the text are as they were, and where there is no room the output holds as much of the text as fits
pub record Answered (input : List ℕ) (r : Option ℕ) (was out : List ℕ) : Type 0 where
  pub answer : r ≡ fitted (length (output_of input)) (length was)
  pub text : out ≡ sets was 0 (output_of input)

-- ---- on the way

-- text stored behind the first bytes, as far as it fits
pub record Put (text : List ℕ) (at : ℕ) (r : Option ℕ) (was out : List ℕ) : Type 0 where
  pub answer : r ≡ fitted (at + length text) (length was)
  pub output : out ≡ sets was at text

-- the input is taken as far as place p, with the first bytes of the output filled
pub record Filled (input : List ℕ) (p : Place) (at : ℕ) (c : Columns) (g : Slices) (line reply was out : List ℕ) : Type 0 where
  pub session : Session
  pub text : List ℕ
  pub stands : At session p c g input line reply
  pub comes : Comes begin [] (between 0 p.taken input) text session (take p.used line)
  pub count : at ≡ length text
  pub fits : at ≤ length was
  pub output : out ≡ sets was 0 text
