-- What a call is lent, as an export takes it.
use Rattle.std.specs.Prelude.{ℕ, List, Bool, length, Float, Result}
use Rattle.codes.specs.declared.Refusal.{Refusal}
use Rattle.adjacency.specs.declared.Neighbor.{Neighbor}
use Rattle.cells.specs.declared.Node.{Node}
use Rattle.cells.specs.declared.Flags.{Flags}
use Rattle.cells.specs.declared.Stack.{Stack}
use Rattle.cells.specs.declared.Link.{Link}
use Rattle.scratch.specs.declared.Lengths.{Lengths}
use Rattle.scratch.specs.Scratch.{lengths_of}
use Rattle.dem.specs.Tables.{Tables}
use Rattle.split_model.specs.declared.Counts.{Counts}
use Rattle.decompose.specs.Call as decomposition
use Rattle.decompose.specs.declared.Lengths as decomposed
use Rattle.edges.specs.Tables.{Slices}
use Rattle.graph.specs.Outcome.{outcome, Compiles}
use Rattle.lent_graph.specs.Call.{Lent, lent_of}
use Rattle.server.specs.declared.Size.{Size}

-- a graph by its counts and its tables
abbrev pub lent_by : Size → List ℕ → List ℕ → List Float → List ℕ → Lent
lent_by size u v weight obs = lent_of size.detectors size.observables size.edges u v weight obs

-- the lengths of the scratch slices
abbrev pub lengths_by : List ℕ → List Neighbor → List Node → List Flags → List Stack → List Link → List Float → List Bool → Lengths
lengths_by adj_offsets adj tree flags stacks links growth sat =
    lengths_of (length adj_offsets) (length adj) (length tree) (length flags) (length stacks) (length links) (length growth) (length sat)

-- a model of d detectors, o observables and m mechanisms lent in the tables t: the answer a and what is left where was stood

-- of compiling it, with two slices of scratch more
abbrev pub CompilesBy : ℕ → ℕ → ℕ → Tables → Slices → List ℕ → List ℕ → Result ℕ Refusal → Slices → Type 0
CompilesBy d o m t was first next a left = Compiles d o (outcome d o m t was first next) a was left

-- of decomposing it, with scratch slices of these lengths
abbrev pub DecomposesBy : ℕ → ℕ → ℕ → Tables → decomposed.Lengths → Tables → Result Counts Refusal → Tables → Type 0
DecomposesBy d o m t scratch was a left = decomposition.Decomposes (decomposition.outcome d o m t was scratch) a was left
