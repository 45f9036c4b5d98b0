-- What a reply and the text say of an outcome.
use Rattle.std.specs.Prelude.{◌≡◌, List, ℕ, Result, Ok, Err, length}
use Rattle.codes.specs.declared.Refusal.{Refusal}
use Rattle.dem.specs.Tables.{written}
use Rattle.shot_reply.specs.declared.Reply.{Reply}
use Rattle.shot_reply.specs.Outcome.{Outcome, told, refused}

-- the text at the front and its length; a refusal writes nothing
abbrev pub reply_of : Outcome → Result Reply Refusal
reply_of (told text failed) = Ok (record { written = length text; failed = failed })
reply_of (refused r) = Err r

abbrev pub text_left : Outcome → List ℕ → List ℕ
text_left (told text failed) was = written text was
text_left (refused r) was = was

pub record Replied (x : Outcome) (r : Result Reply Refusal) (was out : List ℕ) : Type 0 where
  pub answer : r ≡ reply_of x
  pub text : out ≡ text_left x was
