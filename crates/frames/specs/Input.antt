-- What an input says, line by line: docs/RULES.md, "Frames".
use Rattle.std.specs.Prelude.{Option, None, Some}
use Rattle.codes.specs.Order.{Checked}
use Rattle.std.specs.Prelude.{Ok, Err}
use Rattle.std.specs.Prelude.{ℕ, List, [], ◌∷◌, ◌++◌, map, Bool, cond, ◌&&◌, ◌||◌, length, eqb, ltb}
use Rattle.std.specs.Float.Ieee as Ieee
use Rattle.std.specs.Float.{binary64}
use Rattle.codes.specs.declared.Refusal.{Refusal}
use Rattle.codes.specs.declared.Refusal.TheVariants as refusal
use Rattle.codes.specs.Limits.{max_observables}
use Rattle.hex_text.specs.Hex.{is_hex, bytes_of}
use Rattle.dem.specs.Model.{Symptom, ErrorMechanism}
use Rattle.dem.specs.Tables.{Tables, tables_of}
use Rattle.frames.specs.declared.Stage.{Stage}
use Rattle.frames.specs.declared.Stage.TheVariants.{Nothing, InModel, BetweenShots, AfterRow}
use Rattle.frames.specs.Frames.{Frame, header, mechanism, component, end, row, truth, frame_of, kind_of}

-- ---- what was read

-- a mechanism, its probability as bits
pub record Given : Type 0 where
  pub bits : ℕ
  pub symptom : Symptom
  pub components : List Symptom

pub record Shot : Type 0 where
  pub row : List ℕ
  pub truth : List ℕ

pub record Input : Type 0 where
  pub stage : Stage
  pub detectors : ℕ
  pub observables : ℕ
  -- in order; the last one is open for its components
  pub mechanisms : List Given
  -- the words of the last 05 and of the last 06
  pub row : List ℕ
  pub truth : List ℕ
  -- the shots that are whole
  pub shots : List Shot

unfoldable pub start : Input
start = record { stage = Nothing; detectors = 0; observables = 0; mechanisms = []; row = []; truth = []; shots = [] }

abbrev pub mechanism_of : Given → ErrorMechanism
mechanism_of g = record { probability = Ieee.of_bits binary64 g.bits; symptom = g.symptom; components = g.components }

-- the model that was read, and its tables
abbrev pub model_read : List Given → List ErrorMechanism
model_read gs = map mechanism_of gs

abbrev pub tables_read : List Given → Tables
tables_read gs = tables_of (model_read gs)

-- ---- one frame

-- 01 once and first; 02s, each followed by its 03s; 04; "then 05 and 06 in turn". n mechanisms were read
unfoldable pub in_order : Stage → ℕ → ℕ → Bool
in_order Nothing n kind = eqb kind 1
in_order InModel n kind = eqb kind 2 || ((eqb kind 3 && ltb 0 n) || eqb kind 4)
in_order BetweenShots n kind = eqb kind 5
in_order AfterRow n kind = eqb kind 6

-- a component more to the last mechanism
unfoldable pub with_component : Symptom → List Given → List Given
with_component y [] = []
with_component y (g ∷ []) = record { bits = g.bits; symptom = g.symptom; components = g.components ++ (y ∷ []) } ∷ []
with_component y (g ∷ h ∷ gs) = g ∷ with_component y (h ∷ gs)

-- what is read with one frame more
unfoldable pub after : Input → Frame → Input
unfolding with_component
after s (header D O) = record { stage = InModel; detectors = D; observables = O; mechanisms = s.mechanisms; row = s.row; truth = s.truth; shots = s.shots }
after s (mechanism p y) = record {
  stage = InModel;
  detectors = s.detectors;
  observables = s.observables;
  mechanisms = s.mechanisms ++ (record { bits = p; symptom = y; components = [] } ∷ []);
  row = s.row;
  truth = s.truth;
  shots = s.shots;
}
after s (component y) = record {
  stage = InModel;
  detectors = s.detectors;
  observables = s.observables;
  mechanisms = with_component y s.mechanisms;
  row = s.row;
  truth = s.truth;
  shots = s.shots;
}
after s end = record {
  stage = BetweenShots;
  detectors = s.detectors;
  observables = s.observables;
  mechanisms = s.mechanisms;
  row = s.row;
  truth = s.truth;
  shots = s.shots;
}
after s (row ws) = record {
  stage = AfterRow;
  detectors = s.detectors;
  observables = s.observables;
  mechanisms = s.mechanisms;
  row = ws;
  truth = s.truth;
  shots = s.shots;
}
after s (truth ws) = record {
  stage = BetweenShots;
  detectors = s.detectors;
  observables = s.observables;
  mechanisms = s.mechanisms;
  row = s.row;
  truth = ws;
  shots = s.shots ++ (record { row = s.row; truth = ws } ∷ []);
}

-- "It holds 256 detectors, 1,024 mechanisms, as many components and 8,192 list entries"; observables as any model
abbrev pub over_capacity : ℕ → ℕ → ℕ → ℕ → ℕ → Bool
over_capacity D O mechanisms components entries = ltb 256 D || (ltb max_observables O || (ltb 1024 mechanisms || (ltb 1024 components || ltb 8192 entries)))

abbrev pub over : Input → Bool
over s =
    let t = tables_read s.mechanisms in
    over_capacity s.detectors s.observables (length s.mechanisms) (length t.component_detectors) (length t.entries)

-- ---- one line

pub data Read : Type 0 where
  next : Input → Read
  refused : Refusal → Read

-- "more is code 1"
abbrev pub held : Input → Read
held s = cond (over s) (refused refusal.Limit) (next s)

abbrev pub read_frame : Input → Option Frame → Read
read_frame s None = refused refusal.Frame
read_frame s (Some f) = held (after s f)

abbrev pub read_bytes : Input → List ℕ → Read
read_bytes s l = cond (in_order s.stage (length s.mechanisms) (kind_of l)) (read_frame s (frame_of s.detectors s.observables l)) (refused refusal.Frame)

-- "One call reads a line, 3 before 1"
unfoldable pub read_line : Input → List ℕ → Read
unfolding in_order frame_of after tables_of is_hex bytes_of
read_line s line = cond (is_hex line) (read_bytes s (bytes_of line)) (refused refusal.Frame)

-- ---- all lines

-- "input ending before 04 or after a 05 is 3"
abbrev pub at_end : Stage → Checked
at_end Nothing = Err refusal.Frame
at_end InModel = Err refusal.Frame
at_end BetweenShots = (Ok tt)
at_end AfterRow = Err refusal.Frame

-- what was read before the first refusal, and how the input ends
pub record Meaning : Type 0 where
  pub input : Input
  pub ends : Checked

abbrev pub go_on : Input → Read → (Input → Meaning) → Meaning
go_on s (next t) rest = rest t
go_on s (refused r) rest = record { input = s; ends = Err r }

-- all lines, one after another
unfoldable pub read_lines : Input → List (List ℕ) → Meaning
unfolding read_line
read_lines s [] = record { input = s; ends = at_end s.stage }
read_lines s (line ∷ lines) = go_on s (read_line s line) (λ t. read_lines t lines)

abbrev pub onto_first : ℕ → List (List ℕ) → List (List ℕ)
onto_first b [] = (b ∷ []) ∷ []
onto_first b (line ∷ lines) = (b ∷ line) ∷ lines

-- "A line feed ends a line, at the last one optional"
unfoldable pub lines_of : List ℕ → List (List ℕ)
lines_of [] = []
lines_of (b ∷ l) = cond (eqb b 10) ([] ∷ lines_of l) (onto_first b (lines_of l))

-- the meaning of an input
unfoldable pub meaning_of : List ℕ → Meaning
unfolding read_lines lines_of start
meaning_of l = read_lines start (lines_of l)
