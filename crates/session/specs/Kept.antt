-- What the numbers and the tables of a session stand for, and what the functions promise of them.
use Rattle.std.specs.Prelude.{ℕ, ◌≤◌, ◌≡◌, true, false, cond, List, pos, eqb, length}
use Rattle.std.specs.Float.{fin}
use Rattle.std.specs.declared.ops.ControlFlow.{ControlFlow}
use Rattle.std.specs.declared.ops.ControlFlow.TheVariants.{Continue, Break}
use Rattle.hex_text.specs.Hex.{bytes_of}
use Rattle.dem.specs.Tables.{written}
use Rattle.steps.specs.Graph.{Graph}
use Rattle.edges.specs.Compile.{Edges, graph_by}
use Rattle.edges.specs.Tables.{Slices, flat}
use Rattle.graph.specs.Outcome.{table_left}
use Rattle.frames.specs.Frames.{kind_of}
use Rattle.frames.specs.declared.State.{State}
use Rattle.frames.specs.Input.{Input, Read, next, refused, over, model_read, read_line}
use Rattle.frames.specs.Counts.{counts_of}
use Rattle.frames.specs.LineLaws.{RowRead, ShotRead}
use Rattle.reader.specs.Columns.{Columns, columns, columns_at, roomy}
use Rattle.model_graph.specs.Graph.{graph_read}
use Rattle.model_graph.specs.Answers.{Sized, Wide}
use Rattle.replies.specs.Last.{refusal_text}
use Rattle.session.specs.declared.Numbers.{Numbers}
use Rattle.session.specs.declared.On.{On}
use Rattle.session.specs.Output.{Session, Answer, goes, ends, max_count, at_model, at_shot, by_kind, answer_line}

-- ---- numbers and tables

abbrev pub numbers_of : Session → Numbers
numbers_of s = record {
  state = counts_of s.input;
  edges = length s.graph.edge_u;
  words = length (flat s.graph.edge_obs);
  shots = s.shots;
  failures = s.failures;
}

-- lengths with a place for all that is held, and no more where that is counted
pub record Sizes (c : Columns) (g : Slices) : Type 0 where
  pub room : roomy c ≡ true
  pub sized : Sized c
  pub wide : Wide g
  pub few : length g.edge_u ≤ 1024
  pub rows : length g.edge_obs ≤ 2048

-- the graph, at the front of its tables
pub record GraphAt (g : Graph) (t : Slices) : Type 0 where
  pub u : t.edge_u ≡ written g.edge_u t.edge_u
  pub v : t.edge_v ≡ written g.edge_v t.edge_v
  pub weight : t.edge_weight ≡ written g.edge_weight t.edge_weight
  pub obs : t.edge_obs ≡ written (flat g.edge_obs) t.edge_obs
  pub others : length g.edge_v ≡ length g.edge_u
  pub weights : length g.edge_weight ≡ length g.edge_u

-- the tables are those of the session
pub record Keeps (s : Session) (c : Columns) (g : Slices) : Type 0 where
  pub within : over s.input ≡ false
  pub tables : c ≡ columns_at s.input c
  pub row : RowRead s.input
  pub graph : GraphAt s.graph g
  pub shots : s.shots ≤ max_count
  pub failures : s.failures ≤ s.shots

-- some session
pub record Kept (n : Numbers) (c : Columns) (g : Slices) : Type 0 where
  pub session : Session
  pub numbers : n ≡ numbers_of session
  pub keeps : Keeps session c g
  pub sizes : Sizes c g

-- ---- answers

-- what a line is answered with: the numbers after it and how many bytes were written, or how many bytes a refusal has
abbrev pub Told : Type 0
Told = ControlFlow ℕ On

-- an answer of the definition, told
abbrev pub told_of : Answer → Told
told_of (goes t text) = Continue (record { numbers = numbers_of t; written = length text })
told_of (ends r) = Break (length (refusal_text r))

abbrev pub text_of : Answer → List ℕ
text_of (goes t text) = text
text_of (ends r) = refusal_text r

-- ---- what is left of the tables

-- the graph's tables after 04: the graph at the front of each, then what was there; after a refusal zero, whole
abbrev pub slices_by : ℕ → ℕ → Edges → Slices → Slices
slices_by D O e g = record {
  edge_u = table_left 0 (λ es. (graph_by D O es).edge_u) e g.edge_u;
  edge_v = table_left 0 (λ es. (graph_by D O es).edge_v) e g.edge_v;
  edge_weight = table_left (fin false 0 (pos 0)) (λ es. (graph_by D O es).edge_weight) e g.edge_weight;
  edge_obs = table_left 0 (λ es. flat (graph_by D O es).edge_obs) e g.edge_obs;
  edge_p = g.edge_p;
}

-- no line of another kind writes them
unfoldable pub graph_left : ℕ → Input → Slices → Slices
unfolding table_left graph_read graph_by flat
graph_left kind t g = cond (eqb kind 4) (slices_by t.detectors t.observables (graph_read t.detectors t.observables (model_read t.mechanisms)) g) g

-- nor does a line that is refused when it is read
abbrev pub graph_after : ℕ → Read → Slices → Slices
graph_after kind (next t) g = graph_left kind t g
graph_after kind (refused r) g = g

-- the tables that lines are read into: a line that is refused when it is read writes nothing
abbrev pub columns_read : Read → Columns → Columns
columns_read (next t) c = columns_at t c
columns_read (refused r) c = c

abbrev pub columns_after : Session → List ℕ → Columns → Columns
columns_after s line c = columns_read (read_line s.input line) c

abbrev pub slices_after : Session → List ℕ → Slices → Slices
slices_after s line g = graph_after (kind_of (bytes_of line)) (read_line s.input line) g

-- where the session goes on, the tables are kept
abbrev pub KeptOn : Answer → Columns → Slices → Type 0
KeptOn a c g = (t : Session) (text : List ℕ) → a ≡ goes t text → Keeps t c g

-- ---- what is told

-- the answer r, and the text at the front of the output
pub record Tells (a : Answer) (r : Told) (was out : List ℕ) : Type 0 where
  pub told : r ≡ told_of a
  pub text : out ≡ written (text_of a) was

-- ---- a line that was read

-- t is what is read with a line of this kind, after session s; the graph is still that of s
pub record Reads (s : Session) (t : Input) (kind : ℕ) (n : Numbers) (state : State) (c : Columns) (g : Slices) : Type 0 where
  pub numbers : n ≡ numbers_of s
  pub counts : state ≡ counts_of t
  pub within : over t ≡ false
  pub tables : c ≡ columns_at t c
  pub row : RowRead t
  pub shot : kind ≡ 6 → ShotRead s.input t
  pub graph : GraphAt s.graph g
  pub shots : s.shots ≤ max_count
  pub failures : s.failures ≤ s.shots
  pub sizes : Sizes c g

-- some session and some input
pub record ReadSome (kind : ℕ) (n : Numbers) (state : State) (c : Columns) (g : Slices) : Type 0 where
  pub session : Session
  pub input : Input
  pub reads : Reads session input kind n state c g

-- the answer to it
pub record AnswersKind (kind : ℕ) (n : Numbers) (state : State) (c : Columns) (g : Slices) (r : Told) (left : Slices) (was out : List ℕ) : Type 0 where
  pub answer : (s : Session) (t : Input) → Reads s t kind n state c g → Tells (by_kind kind s t) r was out
  pub leaves : (s : Session) (t : Input) → Reads s t kind n state c g → left ≡ graph_left kind t g
  pub keeps : (s : Session) (t : Input) → Reads s t kind n state c g → KeptOn (by_kind kind s t) c left

-- 04
pub record AnswersModel (n : Numbers) (state : State) (c : Columns) (g : Slices) (r : Told) (left : Slices) (was out : List ℕ) : Type 0 where
  pub answer : (s : Session) (t : Input) → Reads s t 4 n state c g → Tells (at_model s t) r was out
  pub leaves : (s : Session) (t : Input) → Reads s t 4 n state c g → left ≡ graph_left 4 t g
  pub keeps : (s : Session) (t : Input) → Reads s t 4 n state c g → KeptOn (at_model s t) c left

-- 06, whatever the tables of the model
abbrev pub ShotBy : Numbers → State → List ℕ → List ℕ → Slices → Told → List ℕ → List ℕ → Type 0
ShotBy n state ws ts g r was out = (s : Session) (t : Input) (bs ds os cs cds cos es : List ℕ) → Reads s t 6 n state (columns bs ds os cs cds cos es ws ts) g → Tells (at_shot s t) r was out

pub record ShotSome (n : Numbers) (state : State) (ws ts : List ℕ) (g : Slices) : Type 0 where
  pub model : Columns
  pub read : ReadSome 6 n state (columns model.bits model.detector_counts model.observable_counts model.component_counts model.component_detectors model.component_observables model.entries ws ts) g

-- ---- a line

-- all that the call promises of a session: its answer r to a line with the text, and every word of the tables, whether the line is refused or not
pub record Answers (line : List ℕ) (n : Numbers) (c : Columns) (g : Slices) (r : Told) (left : Columns) (graph : Slices) (was out : List ℕ) : Type 0 where
  pub answer : (s : Session) → n ≡ numbers_of s → Keeps s c g → Sizes c g → Tells (answer_line s line) r was out
  pub columns : (s : Session) → n ≡ numbers_of s → Keeps s c g → Sizes c g → left ≡ columns_after s line c
  pub slices : (s : Session) → n ≡ numbers_of s → Keeps s c g → Sizes c g → graph ≡ slices_after s line g
  -- so that where the session goes on, it can be told the next line
  pub keeps : (s : Session) → n ≡ numbers_of s → Keeps s c g → Sizes c g → KeptOn (answer_line s line) left graph
