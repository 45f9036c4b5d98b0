-- Text cut into lines.
use Prim.Native.Nat.{ℕ}
use mathlib.Core.Path.{◌≡◌, refl, sym, ap, ◌∙◌}
use mathlib.Core.Bool.{Bool, true, false, not}
use mathlib.Core.List.{List, [], ◌∷◌, ◌++◌}
use lib.Dec.{eqb}
use Rattle.lists.proofs.Truth.{and_left, and_right}
use Rattle.frames.specs.Input.{lines_of, onto_first}
use Rattle.frames.specs.LineLaws.{unended, Begun}

not_feed : (b : Bool) → not b ≡ true → b ≡ false
not_feed true h = sym h
not_feed false h = refl

module _ (b : ℕ) (l : List ℕ) (h : unended (b ∷ l) ≡ true) where
  head_open : eqb b 10 ≡ false
  unfolding unended
  head_open = not_feed (eqb b 10) (and_left (not (eqb b 10)) (unended l) h)

  pub tail_open : unended l ≡ true
  unfolding unended
  tail_open = and_right (not (eqb b 10)) (unended l) h

  onto : (rest : List ℕ) → lines_of (b ∷ rest) ≡ onto_first b (lines_of rest)
  unfolding lines_of
  onto rest = rw head_open refl

pub ended : (line rest : List ℕ) → unended line ≡ true → lines_of (line ++ (10 ∷ rest)) ≡ line ∷ lines_of rest
unfolding lines_of
ended [] rest h = refl
ended (b ∷ line) rest h = onto b line h (line ++ (10 ∷ rest)) ∙ ap (onto_first b) (ended line rest (tail_open b line h))

-- one line more at the front of the first of them
begun_one : (b : ℕ) (rest : List ℕ) (ls : List (List ℕ)) → lines_of (b ∷ rest) ≡ onto_first b ls → Begun (b ∷ []) rest
begun_one b rest [] e = record { more = []; others = []; lines = e }
begun_one b rest (l ∷ ls) e = record { more = l; others = ls; lines = e }

pub begun : (b : ℕ) (line rest : List ℕ) → unended (b ∷ line) ≡ true → Begun (b ∷ line) rest
begun b [] rest h = begun_one b rest (lines_of rest) (onto b [] h rest)
begun b (d ∷ line) rest h =
    let r = begun d line rest (tail_open b (d ∷ line) h) in
    record { more = r.more; others = r.others; lines = onto b (d ∷ line) h (d ∷ (line ++ rest)) ∙ ap (onto_first b) r.lines }

pub last : (b : ℕ) (line : List ℕ) → unended (b ∷ line) ≡ true → lines_of (b ∷ line) ≡ (b ∷ line) ∷ []
unfolding lines_of
last b [] h = onto b [] h []
last b (d ∷ line) h = onto b (d ∷ line) h (d ∷ line) ∙ ap (onto_first b) (last d line (tail_open b (d ∷ line) h))
