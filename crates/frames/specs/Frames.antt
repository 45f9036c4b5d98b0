-- The frames of an input: docs/RULES.md, "Frames".
use Rattle.std.specs.Prelude.{Option, None, Some, Result, Ok, Err}
use Rattle.std.specs.Prelude.{ℕ, ◌≡◌, ◌≢◌, ◌+◌, ◌*◌, List, Bool, cond, length, get_or, take, drop, eqb}
use Rattle.hex_text.specs.Hex.{number, numbers}
use Rattle.bits.specs.Rows.{words}
use Rattle.dem.specs.Model.{Symptom}
use Rattle.codes.specs.declared.Refusal.{Refusal}
use Rattle.codes.specs.declared.Refusal.TheVariants as refusal
use Rattle.frames.specs.declared.Kind.{Kind}
use Rattle.frames.specs.declared.Kind.TheVariants.{Header, Mechanism, Component, End, Row, Truth}

pub data Frame : Type 0 where
  -- 01: D and O
  header : ℕ → ℕ → Frame
  -- 02: probability bits, detectors and observables
  mechanism : ℕ → Symptom → Frame
  -- 03: "a component of the 02 above"
  component : Symptom → Frame
  -- 04
  end : Frame
  -- 05, 06: the words
  row : List ℕ → Frame
  truth : List ℕ → Frame

-- "counts of detectors and observables (1 each), indices (2 each)": the length is exact
abbrev pub symptom_long : List ℕ → Bool
symptom_long l = eqb (length l) (2 + 2 * (get_or l 0 0 + get_or l 1 0))

abbrev pub symptom_of : List ℕ → Symptom
symptom_of l = record { detectors = numbers 2 (get_or l 0 0) (drop 2 l); observables = numbers 2 (get_or l 1 0) (drop (2 + 2 * get_or l 0 0) l) }

abbrev pub when : Bool → Frame → Option Frame
when t f = cond t (Some f) None

-- the kind is the first byte
abbrev pub kind_of : List ℕ → ℕ
kind_of l = get_or l 0 0

abbrev pub kind_byte : Kind → ℕ
kind_byte Header = 1
kind_byte Mechanism = 2
kind_byte Component = 3
kind_byte End = 4
kind_byte Row = 5
kind_byte Truth = 6

-- the kind that a byte names, and 3 where it names none
abbrev pub KindOfByte : ℕ → Result Kind Refusal → Type 0
KindOfByte b (Ok k) = kind_byte k ≡ b
KindOfByte b (Err r) = (r ≡ refusal.Frame) × ((k : Kind) → kind_byte k ≢ b)

-- the frame of the bytes of a line, in a model of D detectors and O observables; none where kind or length is wrong
unfoldable pub frame_of : ℕ → ℕ → List ℕ → Option Frame
unfolding words number numbers
frame_of D O l =
    cond (eqb (kind_of l) 1) (when (eqb (length l) 5) (header (number (take 2 (drop 1 l))) (number (take 2 (drop 3 l)))))
    (cond (eqb (kind_of l) 2) (when (symptom_long (drop 9 l)) (mechanism (number (take 8 (drop 1 l))) (symptom_of (drop 9 l))))
    (cond (eqb (kind_of l) 3) (when (symptom_long (drop 1 l)) (component (symptom_of (drop 1 l))))
    (cond (eqb (kind_of l) 4) (when (eqb (length l) 1) end)
    (cond (eqb (kind_of l) 5) (when (eqb (length l) (1 + 8 * words D)) (row (numbers 8 (words D) (drop 1 l))))
    (cond (eqb (kind_of l) 6) (when (eqb (length l) (1 + 8 * words O)) (truth (numbers 8 (words O) (drop 1 l)))) None)))))
