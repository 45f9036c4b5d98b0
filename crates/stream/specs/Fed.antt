-- What the functions promise of a block that is read, and of the output that is filled.
use Rattle.std.specs.Prelude.{ℕ, ◌+◌, ◌-◌, ◌<◌, ◌≤◌, ◌≡◌, true, List, ◌⊎◌, length, get_or, take, drop}
use Rattle.std.proofs.lemmas.List.Edits.{sets}
use Rattle.std.specs.declared.ops.ControlFlow.{ControlFlow}
use Rattle.std.specs.declared.ops.ControlFlow.TheVariants.{Continue, Break}
use Rattle.edges.specs.Tables.{Slices}
use Rattle.frames.specs.LineLaws.{longest, unended}
use Rattle.reader.specs.Columns.{Columns}
use Rattle.replies.specs.Last.{refusal_text}
use Rattle.session.specs.Output.{Session, Answer, goes, ends, begin, answer_line, longest_reply}
use Rattle.session.specs.Kept.{numbers_of, Sizes, Keeps, text_of, columns_after, slices_after, KeptOn}
use Rattle.session.specs.Memory.{memory}
use Rattle.stream.specs.declared.Place.{Place}
use Rattle.stream.specs.Text.{Comes, Closes, Leads, Settles}

-- the place to which a block is taken, or how many bytes are written
abbrev pub Fed : Type 0
Fed = ControlFlow ℕ Place

abbrev pub start_place : Place
start_place = record { numbers = numbers_of begin; used = 0; taken = 0; filled = 0 }

-- the bytes from a to e
abbrev pub between : ℕ → ℕ → List ℕ → List ℕ
between a e l = take (e - a) (drop a l)

-- the end of a line: its line feed, or the end of the block
pub record LineEnd (block : List ℕ) (from r : ℕ) : Type 0 where
  pub after : from ≤ r
  pub within : r ≤ length block
  pub unbroken : unended (between from r block) ≡ true
  pub feed : r < length block → get_or block r 0 ≡ 10

-- ---- a line that is whole

-- an answer of the definition, told from place p, where `next` of the block is taken with the line
abbrev pub fed_of : Place → ℕ → Answer → Fed
fed_of p next (goes t text) = Continue (record { numbers = numbers_of t; used = 0; taken = next; filled = p.filled + length text })
fed_of p next (ends r) = Break (p.filled + length (refusal_text r))

-- text was stored behind the first bytes of an output that has room for it; no other byte was written
pub record Appended (filled : ℕ) (text out out' : List ℕ) : Type 0 where
  pub fits : filled + length text ≤ length out
  pub output : out' ≡ sets out filled text

pub record Whole (p : Place) (line : List ℕ) (next : ℕ) (c : Columns) (g : Slices) (out : List ℕ) (r : Fed) (c' : Columns) (g' : Slices) (out' : List ℕ) : Type 0 where
  pub sizes : Sizes c g → Sizes c' g'
  pub answer : (s : Session) → p.numbers ≡ numbers_of s → Keeps s c g → Sizes c g → r ≡ fed_of p next (answer_line s line)
  pub text : (s : Session) → p.numbers ≡ numbers_of s → Keeps s c g → Sizes c g → Appended p.filled (text_of (answer_line s line)) out out'
  pub columns : (s : Session) → p.numbers ≡ numbers_of s → Keeps s c g → Sizes c g → c' ≡ columns_after s line c
  pub slices : (s : Session) → p.numbers ≡ numbers_of s → Keeps s c g → Sizes c g → g' ≡ slices_after s line g
  pub keeps : (s : Session) → p.numbers ≡ numbers_of s → Keeps s c g → Sizes c g → KeptOn (answer_line s line) c' g'

-- ---- a place

-- a place in the block, the line and the output
pub record Placed (p : Place) (block line out : List ℕ) : Type 0 where
  pub buffer : length line ≡ longest
  pub used : p.used ≤ longest
  pub unbroken : unended (take p.used line) ≡ true
  pub taken : p.taken ≤ length block
  pub filled : p.filled ≤ length out

-- the session s, at place p
pub record At (s : Session) (p : Place) (c : Columns) (g : Slices) (block line out : List ℕ) : Type 0 where
  pub numbers : p.numbers ≡ numbers_of s
  pub keeps : Keeps s c g
  pub sizes : Sizes c g
  pub placed : Placed p block line out

-- some session
pub record Standing (p : Place) (c : Columns) (g : Slices) (block line out : List ℕ) : Type 0 where
  pub session : Session
  pub at : At session p c g block line out

-- s at place p has come to place q: so much of the block was taken, and text was written behind what was there. What the line's buffer holds past its used part is free
pub record Onward (s : Session) (p q : Place) (block line out : List ℕ) (c : Columns) (g : Slices) (c' : Columns) (g' : Slices) (line' out' : List ℕ) : Type 0 where
  pub session : Session
  pub text : List ℕ
  pub at : At session q c' g' block line' out'
  pub onward : p.taken ≤ q.taken
  pub comes : Comes s (take p.used line) (between p.taken q.taken block) text session (take q.used line')
  pub leads : Leads s (take p.used line) (between p.taken q.taken block) (memory c g) session (take q.used line') (memory c' g')
  pub filled : q.filled ≡ p.filled + length text
  pub appended : Appended p.filled text out out'

-- or the output was ended
pub record Over (s : Session) (p : Place) (filled : ℕ) (block line out : List ℕ) (c : Columns) (g : Slices) (c' : Columns) (g' : Slices) (out' : List ℕ) : Type 0 where
  pub text : List ℕ
  pub closes : Closes s (take p.used line) (drop p.taken block) text
  pub settles : Settles s (take p.used line) (drop p.taken block) (memory c g) (memory c' g')
  pub counted : filled ≡ p.filled + length text
  pub appended : Appended p.filled text out out'

abbrev pub Reached : Session → Place → Fed → List ℕ → List ℕ → List ℕ → Columns → Slices → Columns → Slices → List ℕ → List ℕ → Type 0
Reached s p (Continue q) block line out c g c' g' line' out' = Onward s p q block line out c g c' g' line' out'
Reached s p (Break filled) block line out c g c' g' line' out' = Over s p filled block line out c g c' g' out'

-- whatever session stands at the place
abbrev pub Feeds : Place → Columns → Slices → List ℕ → List ℕ → List ℕ → Fed → Columns → Slices → List ℕ → List ℕ → Type 0
Feeds p c g block line out r c' g' line' out' = (s : Session) → At s p c g block line out → Reached s p r block line out c g c' g' line' out'

-- ---- how far a call comes

-- a line was taken, if only in part
abbrev pub Further : Place → Fed → Type 0
Further p r = (q : Place) → r ≡ Continue q → p.taken < q.taken

-- from place p, in an output of so many bytes
pub record Pressed (p q : Place) (block : List ℕ) (room : ℕ) : Type 0 where
  -- it goes on until the whole block is taken, or the output has fewer free bytes than the answer to one line can need;
  pub stops : (q.taken ≡ length block) ⊎ (room < q.filled + longest_reply)
  -- where a byte is left to take and there is that much room, at least one is taken
  pub moves : p.taken < length block → p.filled + longest_reply ≤ room → p.taken < q.taken

-- unless the output is ended
abbrev pub Presses : Place → Fed → List ℕ → ℕ → Type 0
Presses p r block room = (q : Place) → r ≡ Continue q → Pressed p q block room
