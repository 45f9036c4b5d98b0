-- What holds of lines; proofs/Answers.antt proves it.
use Rattle.std.specs.Prelude.{ℕ, ◌≡◌, false, List}
use Rattle.frames.specs.Input.{Input, next, over, read_line}
use Rattle.frames.specs.Counts.{counts_of, answer_of, line_of}

pub record Laws : Type 0 where
  -- the numbers answer as the definition does
  pub answers : (s : Input) (line : List ℕ) → line_of (counts_of s) line ≡ answer_of (read_line s line)
  -- and what is read is held
  pub held : (s t : Input) (line : List ℕ) → read_line s line ≡ next t → over t ≡ false
