-- What the model that was read comes to at 04: docs/RULES.md, "Frames".
use Rattle.std.specs.Prelude.{ℕ, false, List, pos, length, replicate, Float}
use Rattle.std.specs.Float.{fin}
use Rattle.dem.specs.Model.{ErrorMechanism, check_model}
use Rattle.dem.specs.Decompose.{Places, Split, decompose}
use Rattle.dem.specs.Decompose as split
use Rattle.dem.specs.Tables.{Tables, tables_written}
use Rattle.dem.specs.Positions.{tables}
use Rattle.decompose.specs.declared.Lengths.{Lengths}
use Rattle.decompose.specs.Call.{outcome_of, outcome}
use Rattle.edges.specs.Compile.{Edges, refused, compile}
use Rattle.edges.specs.Tables.{Slices, slices}
use Rattle.graph.specs.Outcome as graph
use Rattle.frames.specs.declared.State.{State}
use Rattle.reader.specs.Columns.{Columns}
use Rattle.model_check.specs.ModelCheck.{model_tables, from_bits, check_read}

-- ---- of a model that was read

-- "1,024 mechanisms .. and 8,192 list entries, before and after decomposition; more is code 1"
abbrev pub places : Places
places = record { mechanisms = 1024; entries = 8192 }

-- "the model is checked at 04", then decomposed
unfoldable pub split_read : ℕ → ℕ → List ErrorMechanism → Split
unfolding check_model decompose
split_read D O ms = outcome_of (check_model D O 0 ms) (decompose places ms)

abbrev pub compile_split : ℕ → ℕ → Split → Edges
compile_split D O (split.refused r) = refused r
compile_split D O (split.into ms) = compile D O ms

-- then compiled; the first refusal is the answer
unfoldable pub graph_read : ℕ → ℕ → List ErrorMechanism → Edges
unfolding split_read compile
graph_read D O ms = compile_split D O (split_read D O ms)

-- ---- of any numbers and tables

-- what decomposition fills: a place for all that is held, and no more
abbrev pub zeros : List Float
zeros = replicate 1024 (fin false 0 (pos 0))

abbrev pub held_tables : Tables
held_tables = tables zeros (replicate 1024 0) (replicate 1024 0) (replicate 1024 0) (replicate 1024 0) (replicate 1024 0) (replicate 8192 0)

-- scratch for 256 detectors and 1,024 mechanisms, 17 entries a mechanism where new ones are linked
abbrev pub held_scratch : Lengths
held_scratch = record { starts = 17408; before = 17408; last_of = 256; first_of = 256; next_of = 1024; numbers = 1024; masks = 1024; words0 = 1024; words1 = 1024; earlier = 1024 }

-- the model in the tables: its check, then decomposition
unfoldable pub split_in : State → Columns → Split
unfolding check_read outcome
split_in n c =
    outcome_of (check_read n c zeros)
    (outcome n.detectors n.observables n.mechanisms (model_tables (from_bits n.mechanisms c.bits zeros) c) held_tables held_scratch)

-- then compiling, into tables of the graph that are long enough or not
abbrev pub edges_in : ℕ → ℕ → Slices → Split → Edges
edges_in D O entry (split.refused r) = refused r
edges_in D O entry (split.into ms) =
    graph.outcome D O (length ms) (tables_written ms held_tables) (slices entry.edge_u entry.edge_v entry.edge_weight entry.edge_obs zeros) (replicate 256 0) (replicate 1024 0)

unfoldable pub graph_in : State → Columns → Slices → Edges
unfolding split_in graph.outcome
graph_in n c entry = edges_in n.detectors n.observables entry (split_in n c)
