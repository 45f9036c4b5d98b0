-- What the functions promise of tables into which an input was read.
use Rattle.std.specs.Prelude.{Result, ℕ, ◌≤◌, ◌≡◌, List, length, take}
use Rattle.codes.specs.declared.Refusal.{Refusal}
use Rattle.split_model.specs.declared.Counts.{Counts}
use Rattle.dem.specs.Model.{ErrorMechanism}
use Rattle.dem.specs.Tables.{Tables, tables_written}
use Rattle.dem.specs.Decompose.{into}
use Rattle.decompose.specs.Call as decomposed
use Rattle.edges.specs.Tables.{Slices}
use Rattle.graph.specs.Outcome.{Compiles}
use Rattle.frames.specs.declared.State.{State}
use Rattle.frames.specs.Input.{Input, model_read}
use Rattle.reader.specs.Columns.{Columns, columns, Holds}
use Rattle.model_graph.specs.Graph.{graph_read, held_tables, split_in, graph_in}

-- ---- lengths

-- the tables that lines were read into have no place past what is held
pub record Sized (c : Columns) : Type 0 where
  pub bits : 1024 ≤ length c.bits
  pub component_detectors : length c.component_detectors ≤ 1024
  pub component_observables : length c.component_observables ≤ 1024
  pub entries : length c.entries ≤ 8192

-- the tables of the graph have a place for 1,024 edges with two words of observables each
pub record Wide (t : Slices) : Type 0 where
  pub ends : 1024 ≤ length t.edge_u
  pub others : 1024 ≤ length t.edge_v
  pub weights : 1024 ≤ length t.edge_weight
  pub rows : 2048 ≤ length t.edge_obs

-- a column of the table of counts, as far as rows are held
abbrev pub held : List ℕ → List ℕ
held = take 1024

-- ---- answers

-- the answer r of decomposition, and the tables that it leaves where `held_tables` stood, if nothing refuses
pub record DecomposedRead (n : State) (c : Columns) (r : Result Counts Refusal) (left : Tables) : Type 0 where
  pub answer : r ≡ decomposed.answer_of (split_in n c)
  pub tables : (ms : List ErrorMechanism) → split_in n c ≡ into ms → left ≡ tables_written ms held_tables

-- whatever the words of the last shot
abbrev pub DecomposedBy : State → List ℕ → List ℕ → List ℕ → List ℕ → List ℕ → List ℕ → List ℕ → Result Counts Refusal → Tables → Type 0
DecomposedBy n bs ds os cs cds cos es r left = (ws ts : List ℕ) → DecomposedRead n (columns bs ds os cs cds cos es ws ts) r left

-- all that the call promises, whatever the numbers and the tables: its answer r and every word of the graph's tables, which a refusal leaves zero, whole
pub record GraphRead (n : State) (c : Columns) (entry : Slices) (r : Result ℕ Refusal) (exit : Slices) : Type 0 where
  pub compiles : Compiles n.detectors n.observables (graph_in n c entry) r entry exit
  -- and where they are those of what was read, the graph is that of the definition
  pub read : (s : Input) → Holds s n c → Sized c → Wide entry → graph_in n c entry ≡ graph_read n.detectors n.observables (model_read s.mechanisms)

abbrev pub GraphBy : State → List ℕ → List ℕ → List ℕ → List ℕ → List ℕ → List ℕ → List ℕ → Slices → Result ℕ Refusal → Slices → Type 0
GraphBy n bs ds os cs cds cos es entry r exit = (ws ts : List ℕ) → GraphRead n (columns bs ds os cs cds cos es ws ts) entry r exit
