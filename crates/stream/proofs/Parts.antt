-- An input in parts.
use Prim.Native.Nat.{ℕ}
use mathlib.Core.Path.{◌≡◌, refl, sym, ap, ◌∙◌}
use mathlib.Core.List.{List, [], ◌∷◌, ◌++◌, append_assoc, append-nil}
use Rattle.frames.specs.Input.{lines_of}
use Rattle.session.specs.Output.{Session, begin, answers, output_of}
use Rattle.session.specs.Memory.{Memory, memory_after}
use Rattle.stream.specs.Text.{Comes, Closes, Leads, Settles}
use Rattle.stream.specs.Laws.{InParts, joined, Laws}

pub first : Comes begin [] [] [] begin []
first = record { whole = λ rest. refl }

pub on : (s t u : Session) (b m x o n y p : List ℕ) → Comes s b m x t o → Comes t o n y u p → Comes s b (m ++ n) (x ++ y) u p
on s t u b m x o n y p f g = record {
  whole = λ rest.
      ap (λ (l : List ℕ). answers s (lines_of (b ++ l))) (append_assoc m n rest) ∙ f.whole (n ++ rest) ∙ ap (λ (l : List ℕ). x ++ l) (g.whole rest)
      ∙ sym (append_assoc x y (answers u (lines_of (p ++ rest))));
}

pub closed : (s t : Session) (b m x o n y : List ℕ) → Comes s b m x t o → Closes t o n y → Closes s b (m ++ n) (x ++ y)
closed s t b m x o n y f g = record {
  whole = λ rest. ap (λ (l : List ℕ). answers s (lines_of (b ++ l))) (append_assoc m n rest) ∙ f.whole (n ++ rest) ∙ ap (λ (l : List ℕ). x ++ l) (g.whole rest);
}

all : (input text pending : List ℕ) (s : Session) → Comes begin [] input text s pending → output_of input ≡ text ++ answers s (lines_of pending)
unfolding output_of
all input text pending s f =
    ap (λ (l : List ℕ). answers begin (lines_of l)) (sym (append-nil input)) ∙ f.whole [] ∙ ap (λ (l : List ℕ). text ++ answers s (lines_of l)) (append-nil pending)

ended : (input text rest : List ℕ) → Closes begin [] input text → output_of (input ++ rest) ≡ text
unfolding output_of
ended input text rest f = f.whole rest

in_parts : (parts : List (List ℕ)) (s t : Session) (b x p : List ℕ) → InParts s b parts x t p → Comes s b (joined parts) x t p
unfolding joined
in_parts [] s t b x p (text, same, left) = rw (text, same, left) (record { whole = λ rest. refl })
in_parts (part ∷ parts) s t b x p (u, more, y, z, f, r, e) = rw e (on s u t b part y more (joined parts) z p f (in_parts parts u t more z p r))

-- ---- the tables

pub leads : (s t u : Session) (b m o n p : List ℕ) (x y z : Memory) → Leads s b m x t o y → Leads t o n y u p z → Leads s b (m ++ n) x u p z
leads s t u b m o n p x y z f g = record {
  whole = λ rest. ap (λ (l : List ℕ). memory_after s x (lines_of (b ++ l))) (append_assoc m n rest) ∙ f.whole (n ++ rest) ∙ g.whole rest;
}

pub settles : (s t : Session) (b m o n : List ℕ) (x y z : Memory) → Leads s b m x t o y → Settles t o n y z → Settles s b (m ++ n) x z
settles s t b m o n x y z f g = record {
  whole = λ rest. ap (λ (l : List ℕ). memory_after s x (lines_of (b ++ l))) (append_assoc m n rest) ∙ f.whole (n ++ rest) ∙ g.whole rest;
}

memory_is : (input : List ℕ) (s : Session) (x y : Memory) → Leads begin [] input x s [] y → memory_after begin x (lines_of input) ≡ y
unfolding memory_after lines_of
memory_is input s x y f = ap (λ (l : List ℕ). memory_after begin x (lines_of l)) (sym (append-nil input)) ∙ f.whole []

pub laws : Laws
laws = record {
  first = first;
  on = on;
  closed = closed;
  parts = λ parts text pending s f. all (joined parts) text pending s (in_parts parts begin s [] text pending f);
  all = all;
  ended = ended;
  leads = leads;
  settles = settles;
  memory = memory_is;
}
