-- What a line, or a part of it, does to a session.
use Prim.Native.Nat.{ℕ, ◌<◌}
use native.Mathlib.Omega.{arith}
use mathlib.Core.Path.{◌≡◌, refl, sym, ap, ◌∙◌}
use mathlib.Core.Bool.{true, false}
use mathlib.Core.List.{List, [], ◌∷◌, ◌++◌, append_assoc}
use lib.ListN.{length, length-append}
use Rattle.codes.specs.declared.Refusal.{Refusal}
use Rattle.codes.specs.declared.Refusal.TheVariants.{Frame}
use Rattle.frames.specs.Input.{over, lines_of}
use Rattle.frames.specs.LineLaws.{longest, unended}
use Rattle.frames.proofs.Long.{too_long}
use Rattle.frames.proofs.Cut.{ended, begun}
use Rattle.replies.specs.Last.{refusal_text}
use Rattle.session.specs.Output.{Session, Answer, goes, ends, go_on, answer_line, answers}
use Rattle.session.specs.Memory.{Memory, after_line, go_on_with, memory_after}
use Rattle.stream.specs.Text.{Comes, Closes, Leads, Settles}

-- ---- a part of a line

pub part_comes : (s : Session) (b more : List ℕ) → Comes s b more [] s (b ++ more)
part_comes s b more = record { whole = λ rest. ap (λ (l : List ℕ). answers s (lines_of l)) (sym (append_assoc b more rest)) }

pub part_leads : (s : Session) (b more : List ℕ) (m : Memory) → Leads s b more m s (b ++ more) m
part_leads s b more m = record { whole = λ rest. ap (λ (l : List ℕ). memory_after s m (lines_of l)) (sym (append_assoc b more rest)) }

-- ---- a whole line

module _ (s : Session) (b more : List ℕ) (unbroken : unended (b ++ more) ≡ true) where
  -- the lines of it and of what comes after
  lines_are : (rest : List ℕ) → lines_of (b ++ ((more ++ (10 ∷ [])) ++ rest)) ≡ (b ++ more) ∷ lines_of rest
  lines_are rest =
      ap lines_of (ap (λ (l : List ℕ). b ++ l) (append_assoc more (10 ∷ []) rest) ∙ sym (append_assoc b more (10 ∷ rest))) ∙ ended (b ++ more) rest unbroken

  line_answers : (rest : List ℕ) → answers s (lines_of (b ++ ((more ++ (10 ∷ [])) ++ rest))) ≡ go_on (answer_line s (b ++ more)) (λ t. answers t (lines_of rest))
  unfolding answers
  line_answers rest = ap (answers s) (lines_are rest)

  line_memory : (m : Memory) (rest : List ℕ)
      → memory_after s m (lines_of (b ++ ((more ++ (10 ∷ [])) ++ rest))) ≡ go_on_with (answer_line s (b ++ more)) (after_line s (b ++ more) m) (λ t n. memory_after t n (lines_of rest))
  unfolding memory_after
  line_memory m rest = ap (memory_after s m) (lines_are rest)

  pub line_comes : (t : Session) (text : List ℕ) → answer_line s (b ++ more) ≡ goes t text → Comes s b (more ++ (10 ∷ [])) text t []
  line_comes t text e = record { whole = λ rest. line_answers rest ∙ ap (λ (a : Answer). go_on a (λ t. answers t (lines_of rest))) e }

  pub line_closes : (r : Refusal) (tail : List ℕ) → answer_line s (b ++ more) ≡ ends r → Closes s b ((more ++ (10 ∷ [])) ++ tail) (refusal_text r)
  line_closes r tail e = record {
    whole = λ rest.
        ap (λ (l : List ℕ). answers s (lines_of (b ++ l))) (append_assoc (more ++ (10 ∷ [])) tail rest) ∙ line_answers (tail ++ rest)
        ∙ ap (λ (a : Answer). go_on a (λ t. answers t (lines_of (tail ++ rest)))) e;
  }

  pub line_leads : (t : Session) (text : List ℕ) (m : Memory) → answer_line s (b ++ more) ≡ goes t text → Leads s b (more ++ (10 ∷ [])) m t [] (after_line s (b ++ more) m)
  line_leads t text m e = record {
    whole = λ rest. line_memory m rest ∙ ap (λ (a : Answer). go_on_with a (after_line s (b ++ more) m) (λ t n. memory_after t n (lines_of rest))) e;
  }

  pub line_settles : (r : Refusal) (tail : List ℕ) (m : Memory) → answer_line s (b ++ more) ≡ ends r → Settles s b ((more ++ (10 ∷ [])) ++ tail) m (after_line s (b ++ more) m)
  line_settles r tail m e = record {
    whole = λ rest.
        ap (λ (l : List ℕ). memory_after s m (lines_of (b ++ l))) (append_assoc (more ++ (10 ∷ [])) tail rest) ∙ line_memory m (tail ++ rest)
        ∙ ap (λ (a : Answer). go_on_with a (after_line s (b ++ more) m) (λ t n. memory_after t n (lines_of (tail ++ rest)))) e;
  }

-- ---- a line that is too long

long_line : (s : Session) (line : List ℕ) → over s.input ≡ false → longest < length line → answer_line s line ≡ ends Frame
unfolding answer_line
long_line s line w h = rw (too_long s.input line w h) refl

long_answers : (s : Session) (line rest : List ℕ) → over s.input ≡ false → unended line ≡ true → longest < length line → answers s (lines_of (line ++ rest)) ≡ refusal_text Frame
unfolding answers
long_answers s [] rest w o h = absurd (omega arith)
long_answers s (b ∷ line) rest w o h =
    let r = begun b line rest o in
    let long : longest < length ((b ∷ line) ++ r.more) = omega (arith, h, length-append (b ∷ line) r.more) in
    ap (answers s) r.lines ∙ ap (λ (a : Answer). go_on a (λ t. answers t r.others)) (long_line s ((b ∷ line) ++ r.more) w long)

pub long_closes : (s : Session) (b more tail : List ℕ) → over s.input ≡ false → unended (b ++ more) ≡ true → longest < length (b ++ more) → Closes s b (more ++ tail) (refusal_text Frame)
long_closes s b more tail w o h = record {
  whole = λ rest.
      ap (λ (l : List ℕ). answers s (lines_of l)) (ap (λ (l : List ℕ). b ++ l) (append_assoc more tail rest) ∙ sym (append_assoc b more (tail ++ rest)))
      ∙ long_answers s (b ++ more) (tail ++ rest) w o h;
}

-- it writes nothing
long_after : (s : Session) (line : List ℕ) (m : Memory) → over s.input ≡ false → longest < length line → after_line s line m ≡ m
long_after s line m w h = rw (too_long s.input line w h) refl

long_memory : (s : Session) (line rest : List ℕ) (m : Memory) → over s.input ≡ false → unended line ≡ true → longest < length line → memory_after s m (lines_of (line ++ rest)) ≡ m
unfolding memory_after
long_memory s [] rest m w o h = absurd (omega arith)
long_memory s (b ∷ line) rest m w o h =
    let r = begun b line rest o in
    let long : longest < length ((b ∷ line) ++ r.more) = omega (arith, h, length-append (b ∷ line) r.more) in
    ap (memory_after s m) r.lines
    ∙ ap (λ (a : Answer). go_on_with a (after_line s ((b ∷ line) ++ r.more) m) (λ t n. memory_after t n r.others)) (long_line s ((b ∷ line) ++ r.more) w long)
    ∙ long_after s ((b ∷ line) ++ r.more) m w long

pub long_settles : (s : Session) (b more tail : List ℕ) (m : Memory) → over s.input ≡ false → unended (b ++ more) ≡ true → longest < length (b ++ more) → Settles s b (more ++ tail) m m
long_settles s b more tail m w o h = record {
  whole = λ rest.
      ap (λ (l : List ℕ). memory_after s m (lines_of l)) (ap (λ (l : List ℕ). b ++ l) (append_assoc more tail rest) ∙ sym (append_assoc b more (tail ++ rest)))
      ∙ long_memory s (b ++ more) (tail ++ rest) m w o h;
}
