-- The reader's numbers: what a line does to them.
use Rattle.std.specs.Prelude.{Option, None, Some}
use Rattle.std.specs.Prelude.{Result, Ok, Err}
use Rattle.codes.specs.declared.Refusal.{Refusal}
use Rattle.std.specs.Prelude.{ℕ, ◌+◌, ◌≡◌, List, Bool, cond, length}
use Rattle.codes.specs.declared.Refusal.TheVariants as refusal
use Rattle.hex_text.specs.Hex.{is_hex, bytes_of}
use Rattle.dem.specs.Model.{Symptom}
use Rattle.frames.specs.declared.Stage.TheVariants.{InModel, BetweenShots, AfterRow}
use Rattle.frames.specs.declared.State.{State}
use Rattle.frames.specs.declared.Kind.{Kind}
use Rattle.frames.specs.Frames.{Frame, header, mechanism, component, end, row, truth, frame_of, kind_of, kind_byte}
use Rattle.frames.specs.Input.{Input, Read, next, refused, tables_read, in_order, over_capacity}

-- the numbers of what was read
abbrev pub counts_of : Input → State
counts_of s = record {
  stage = s.stage;
  detectors = s.detectors;
  observables = s.observables;
  mechanisms = length s.mechanisms;
  components = length (tables_read s.mechanisms).component_detectors;
  entries = length (tables_read s.mechanisms).entries;
}

abbrev pub answer_of : Read → Result State Refusal
answer_of (next s) = Ok (counts_of s)
answer_of (refused r) = Err r

abbrev pub size_of : Symptom → ℕ
size_of y = length y.detectors + length y.observables

-- the numbers with one frame more
unfoldable pub count_after : State → Frame → State
count_after n (header D O) = record { stage = InModel; detectors = D; observables = O; mechanisms = n.mechanisms; components = n.components; entries = n.entries }
count_after n (mechanism p y) = record {
  stage = InModel;
  detectors = n.detectors;
  observables = n.observables;
  mechanisms = n.mechanisms + 1;
  components = n.components;
  entries = n.entries + size_of y;
}
count_after n (component y) = record {
  stage = InModel;
  detectors = n.detectors;
  observables = n.observables;
  mechanisms = n.mechanisms;
  components = n.components + 1;
  entries = n.entries + size_of y;
}
count_after n end = record {
  stage = BetweenShots;
  detectors = n.detectors;
  observables = n.observables;
  mechanisms = n.mechanisms;
  components = n.components;
  entries = n.entries;
}
count_after n (row ws) = record {
  stage = AfterRow;
  detectors = n.detectors;
  observables = n.observables;
  mechanisms = n.mechanisms;
  components = n.components;
  entries = n.entries;
}
count_after n (truth ws) = record {
  stage = BetweenShots;
  detectors = n.detectors;
  observables = n.observables;
  mechanisms = n.mechanisms;
  components = n.components;
  entries = n.entries;
}

abbrev pub over_counts : State → Bool
over_counts n = over_capacity n.detectors n.observables n.mechanisms n.components n.entries

abbrev pub capped : State → Result State Refusal
capped n = cond (over_counts n) (Err refusal.Limit) (Ok n)

abbrev pub frame_line : State → Option Frame → Result State Refusal
frame_line n None = Err refusal.Frame
frame_line n (Some f) = capped (count_after n f)

-- the answer to a line, by the numbers
unfoldable pub line_of : State → List ℕ → Result State Refusal
unfolding is_hex bytes_of in_order frame_of count_after
line_of n line =
    cond (is_hex line)
    (cond (in_order n.stage n.mechanisms (kind_of (bytes_of line))) (frame_line n (frame_of n.detectors n.observables (bytes_of line))) (Err refusal.Frame))
    (Err refusal.Frame)

-- ---- an answer that brings the kind of the line with the numbers

-- the answer by the numbers
abbrev pub numbers_in : Result (Kind × State) Refusal → Result State Refusal
numbers_in (Ok p) = Ok p.1
numbers_in (Err r) = Err r

-- the kind is that of the line
abbrev pub KindIn : List ℕ → Result (Kind × State) Refusal → Type 0
KindIn l (Ok p) = kind_byte p.0 ≡ kind_of l
KindIn l (Err r) = Unit {0}
