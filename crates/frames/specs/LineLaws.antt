-- What holds of the lines of an input; proofs/ proves it.
use Rattle.std.specs.Prelude.{ℕ, ◌<◌, ◌≡◌, Bool, true, false, not, ◌&&◌, List, [], ◌∷◌, ◌++◌, length, eqb}
use Rattle.codes.specs.declared.Refusal.TheVariants.{Frame}
use Rattle.bits.specs.Rows.{words}
use Rattle.hex_text.specs.Hex.{bytes_of}
use Rattle.frames.specs.declared.Stage.TheVariants.{AfterRow}
use Rattle.frames.specs.Frames.{kind_of}
use Rattle.frames.specs.Input.{Input, next, refused, over, read_line, lines_of}

-- 02 with 255 detectors and 255 observables: 1,031 bytes
abbrev pub longest : ℕ
longest = 2062

-- a 05 that was read has its words
abbrev pub RowRead : Input → Type 0
RowRead s = s.stage ≡ AfterRow → length s.row ≡ words s.detectors

-- what a 06 leaves
pub record ShotRead (s t : Input) : Type 0 where
  pub row : length t.row ≡ words t.detectors
  pub truth : length t.truth ≡ words t.observables

-- a line that goes on in what comes after it
pub record Begun (line rest : List ℕ) : Type 0 where
  pub more : List ℕ
  pub others : List (List ℕ)
  pub lines : lines_of (line ++ rest) ≡ (line ++ more) ∷ others

-- text within one line
unfoldable pub unended : List ℕ → Bool
unended [] = true
unended (b ∷ l) = not (eqb b 10) && unended l

pub record Laws : Type 0 where
  -- no longer line is accepted, whatever it holds
  pub long : (s : Input) (line : List ℕ) → over s ≡ false → longest < length line → read_line s line ≡ refused Frame
  -- the words of a shot
  pub rows : (s t : Input) (line : List ℕ) → read_line s line ≡ next t → RowRead t
  pub shot : (s t : Input) (line : List ℕ) → read_line s line ≡ next t → RowRead s → kind_of (bytes_of line) ≡ 6 → ShotRead s t
  -- a line ends at its line feed
  pub ended : (line rest : List ℕ) → unended line ≡ true → lines_of (line ++ (10 ∷ rest)) ≡ line ∷ lines_of rest
  -- else it goes on
  pub begun : (b : ℕ) (line rest : List ℕ) → unended (b ∷ line) ≡ true → Begun (b ∷ line) rest
  -- the last line needs none
  pub last : (b : ℕ) (line : List ℕ) → unended (b ∷ line) ≡ true → lines_of (b ∷ line) ≡ (b ∷ line) ∷ []
