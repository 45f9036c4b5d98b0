-- The same promises of structs of slices.
use Rattle.std.specs.Prelude.{Result, ℕ, List, replicate}
use Rattle.codes.specs.declared.Refusal.{Refusal}
use Rattle.counts.specs.declared.Row.{Row}
use Rattle.counts.specs.Rows.{detectors, observables, components, component_detectors, component_observables}
use Rattle.split_model.specs.declared.Counts.{Counts}
use Rattle.dem.specs.declared.Output.{Output}
use Rattle.dem.specs.Lent.{tables_out}
use Rattle.dem.specs.Tables.{Tables}
use Rattle.edges.specs.declared.EdgeTables.{EdgeTables}
use Rattle.edges.specs.Compile.{Edges}
use Rattle.edges.specs.Lent.{slices_of}
use Rattle.edges.specs.Tables.{Slices}
use Rattle.graph.specs.Outcome.{outcome}
use Rattle.frames.specs.declared.State.{State}
use Rattle.model_check.specs.declared.ReadModel.{ReadModel}
use Rattle.model_graph.specs.Graph.{zeros}
use Rattle.model_graph.specs.Answers.{held, DecomposedBy, GraphBy}

abbrev pub DecomposedIn : State → ReadModel → Result Counts Refusal → Tables → Type 0
DecomposedIn n m r left =
    DecomposedBy n m.probability_bits.now m.detector_counts.now m.observable_counts.now m.component_counts.now m.component_detectors.now m.component_observables.now m.entries.now r left

abbrev pub GraphIn : State → ReadModel → Slices → Result ℕ Refusal → Slices → Type 0
GraphIn n m entry r exit =
    GraphBy n m.probability_bits.now m.detector_counts.now m.observable_counts.now m.component_counts.now m.component_detectors.now m.component_observables.now m.entries.now entry r exit

-- the first 1,024 rows of the table of counts, column by column
abbrev pub GraphOfRows : State → List ℕ → List Row → List ℕ → Slices → Result ℕ Refusal → Slices → Type 0
GraphOfRows n bs rows es entry r exit =
    GraphBy n bs (held (detectors rows)) (held (observables rows)) (held (components rows)) (held (component_detectors rows)) (held (component_observables rows)) es entry r exit

-- what compiling m mechanisms comes to with scratch of its own: 1,024 entries for edges, 256 for detectors
abbrev pub compiled_in : State → ℕ → Output → EdgeTables → Edges
compiled_in n m out t = outcome n.detectors n.observables m (tables_out out) (slices_of t zeros) (replicate 256 0) (replicate 1024 0)
