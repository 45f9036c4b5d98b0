-- The tables that lines are read into.
use Rattle.std.specs.Prelude.{Option, None, Some}
use Rattle.std.specs.Prelude.{Result, Ok, Err}
use Rattle.std.specs.Prelude.{ℕ, ◌+◌, ◌-◌, ◌*◌, ◌<◌, ◌≤◌, min, ◌≡◌, List, ◌++◌, map, Bool, true, false, cond, ◌&&◌, length, get_or, take, drop, set, leb}
use Rattle.std.proofs.lemmas.List.Edits.{sets}
use Rattle.codes.specs.declared.Refusal.{Refusal}
use Rattle.codes.specs.declared.Refusal.TheVariants as refusal
use Rattle.bits.specs.Rows.{words}
use Rattle.counts.specs.declared.Row.{Row}
use Rattle.counts.specs.Rows as counts
use Rattle.hex_text.specs.Hex.{bytes_of}
use Rattle.dem.specs.Model.{Symptom}
use Rattle.dem.specs.Tables.{written}
use Rattle.frames.specs.declared.State.{State}
use Rattle.frames.specs.Frames.{Frame, header, mechanism, component, end, row, truth, frame_of, kind_of, symptom_long, symptom_of}
use Rattle.frames.specs.Input.{Input, Read, next, refused, tables_read, read_line}
use Rattle.frames.specs.Counts.{counts_of, answer_of, size_of, over_counts, line_of}

pub record Columns : Type 0 where
  -- an entry for each mechanism
  pub bits : List ℕ
  pub detector_counts : List ℕ
  pub observable_counts : List ℕ
  pub component_counts : List ℕ
  -- for each component
  pub component_detectors : List ℕ
  pub component_observables : List ℕ
  -- the lists
  pub entries : List ℕ
  -- the words of a shot
  pub row : List ℕ
  pub truth : List ℕ

-- nine lists as tables
abbrev pub columns : List ℕ → List ℕ → List ℕ → List ℕ → List ℕ → List ℕ → List ℕ → List ℕ → List ℕ → Columns
columns bs ds os cs cds cos es ws ts = record {
  bits = bs;
  detector_counts = ds;
  observable_counts = os;
  component_counts = cs;
  component_detectors = cds;
  component_observables = cos;
  entries = es;
  row = ws;
  truth = ts;
}

-- the four tables as such: the columns of the table of counts, and the words of a shot, four of its row and then those of the true observables
abbrev pub columns_of : List ℕ → List Row → List ℕ → List ℕ → Columns
columns_of bs rows es shot =
    columns bs (counts.detectors rows) (counts.observables rows) (counts.components rows) (counts.component_detectors rows) (counts.component_observables rows) es
    (take 4 shot) (drop 4 shot)

-- a mechanism may have more components than a byte counts: 255 stands for 255 and more, which the model check refuses alike
abbrev pub byte_of : ℕ → ℕ
byte_of n = min 255 n

-- what was read, at the front of every table
unfoldable pub columns_at : Input → Columns → Columns
columns_at s was =
    let t = tables_read s.mechanisms in
    record {
      bits = written (map (λ g. g.bits) s.mechanisms) was.bits;
      detector_counts = written t.detector_counts was.detector_counts;
      observable_counts = written t.observable_counts was.observable_counts;
      component_counts = written (map byte_of t.component_counts) was.component_counts;
      component_detectors = written t.component_detectors was.component_detectors;
      component_observables = written t.component_observables was.component_observables;
      entries = written t.entries was.entries;
      row = written s.row was.row;
      truth = written s.truth was.truth;
    }

-- lengths with a place for all that is held
abbrev pub long_enough : ℕ → ℕ → ℕ → ℕ → ℕ → ℕ → ℕ → ℕ → ℕ → Bool
long_enough bs ds os cs cds cos es ws ts =
    leb 1024 bs && (leb 1024 ds && (leb 1024 os && (leb 1024 cs && (leb 1024 cds && (leb 1024 cos && (leb 8192 es && (leb 4 ws && leb 2 ts)))))))

abbrev pub roomy : Columns → Bool
roomy c =
    long_enough (length c.bits) (length c.detector_counts) (length c.observable_counts) (length c.component_counts) (length c.component_detectors)
    (length c.component_observables) (length c.entries) (length c.row) (length c.truth)

-- ---- what a frame stores

-- a mechanism's or a component's lists, one after the other
abbrev pub listed : Symptom → List ℕ
listed y = y.detectors ++ y.observables

unfoldable pub stored_frame : State → Frame → Columns → Columns
stored_frame n (header D O) c = c
stored_frame n (mechanism p y) c = record {
  bits = set c.bits n.mechanisms p;
  detector_counts = set c.detector_counts n.mechanisms (length y.detectors);
  observable_counts = set c.observable_counts n.mechanisms (length y.observables);
  component_counts = set c.component_counts n.mechanisms 0;
  component_detectors = c.component_detectors;
  component_observables = c.component_observables;
  entries = sets c.entries n.entries (listed y);
  row = c.row;
  truth = c.truth;
}
stored_frame n (component y) c = record {
  bits = c.bits;
  detector_counts = c.detector_counts;
  observable_counts = c.observable_counts;
  component_counts = set c.component_counts (n.mechanisms - 1) (byte_of (get_or c.component_counts (n.mechanisms - 1) 0 + 1));
  component_detectors = set c.component_detectors n.components (length y.detectors);
  component_observables = set c.component_observables n.components (length y.observables);
  entries = sets c.entries n.entries (listed y);
  row = c.row;
  truth = c.truth;
}
stored_frame n end c = c
stored_frame n (row ws) c = record {
  bits = c.bits;
  detector_counts = c.detector_counts;
  observable_counts = c.observable_counts;
  component_counts = c.component_counts;
  component_detectors = c.component_detectors;
  component_observables = c.component_observables;
  entries = c.entries;
  row = sets c.row 0 ws;
  truth = c.truth;
}
stored_frame n (truth ws) c = record {
  bits = c.bits;
  detector_counts = c.detector_counts;
  observable_counts = c.observable_counts;
  component_counts = c.component_counts;
  component_detectors = c.component_detectors;
  component_observables = c.component_observables;
  entries = c.entries;
  row = c.row;
  truth = sets c.truth 0 ws;
}

abbrev pub stored : State → Option Frame → Columns → Columns
stored n None c = c
stored n (Some f) c = stored_frame n f c

-- a frame that may be stored: the line has its length, and the tables have its places
pub record Storable (n : State) (l : List ℕ) (c : Columns) : Type 0 where
  pub mechanism : kind_of l ≡ 2 → (symptom_long (drop 9 l) ≡ true) × (n.mechanisms < 1024) × (n.entries + size_of (symptom_of (drop 9 l)) ≤ 8192)
  pub component : kind_of l ≡ 3
      → (symptom_long (drop 1 l) ≡ true) × (0 < n.mechanisms) × (n.mechanisms ≤ 1024) × (n.components < 1024) × (n.entries + size_of (symptom_of (drop 1 l)) ≤ 8192)
  pub row : kind_of l ≡ 5 → (length l ≡ 1 + 8 * words n.detectors) × (words n.detectors ≤ 4)
  pub truth : kind_of l ≡ 6 → (length l ≡ 1 + 8 * words n.observables) × (words n.observables ≤ 2)
  pub room : roomy c ≡ true

-- ---- the contract of a line

-- the numbers n and the tables c are those of what was read
pub record Holds (s : Input) (n : State) (c : Columns) : Type 0 where
  pub counts : n ≡ counts_of s
  pub within : over_counts n ≡ false
  pub tables : c ≡ columns_at s c

-- what is read once the line was answered
abbrev pub read_by : Input → Read → Input
read_by s (next t) = t
read_by s (refused r) = s

-- the answer to a line: 1 for numbers that no line leads to, 2 for tables too short, else by the numbers
unfoldable pub answer_to : List ℕ → State → Columns → Result State Refusal
unfolding line_of
answer_to line n c = cond (over_counts n) (Err refusal.Limit) (cond (roomy c) (line_of n line) (Err refusal.Short))

-- the tables: a line that is refused, with whatever code, writes nothing; else its frame is stored
abbrev pub columns_left : Result State Refusal → List ℕ → State → Columns → Columns
columns_left (Err x) line n c = c
columns_left (Ok m) line n c = stored n (frame_of n.detectors n.observables (bytes_of line)) c

-- all that the call promises: its answer r to a line and every word that it leaves, whatever the numbers and the tables
pub record LineRead (line : List ℕ) (n : State) (c : Columns) (r : Result State Refusal) (left : Columns) : Type 0 where
  pub answers : r ≡ answer_to line n c
  pub leaves : left ≡ columns_left r line n c
  -- and where they are those of what was read, the answer is that of the definition, and what is read with the line stands at the front of every table
  pub answer : (s : Input) → Holds s n c → roomy c ≡ true → r ≡ answer_of (read_line s line)
  pub tables : (s : Input) → Holds s n c → roomy c ≡ true → left ≡ columns_at (read_by s (read_line s line)) c
