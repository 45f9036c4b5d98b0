-- What a saturated edge asks and leaves, over structs of slices.
use Rattle.std.specs.Prelude.{ℕ, List, Bool}
use Rattle.cells.specs.declared.Node.{Node}
use Rattle.cells.specs.declared.Flags.{Flags}
use Rattle.cells.specs.declared.Stack.{Stack}
use Rattle.cells.specs.Tables.{parents, exits, knowns, odds, seen}
use Rattle.lent_graph.specs.declared.Graph.{Graph}
use Rattle.clusters.specs.Joins.{Ready, Saturated, Merged}

-- the tables before an edge saturates, with n detectors seen
abbrev pub ReadyIn : Graph → List Node → List Flags → List Stack → List Bool → ℕ → Type 0
ReadyIn g tree flags stacks sat n = Ready g.detectors g.edge_u.now g.edge_v.now sat (knowns flags) (seen stacks) n (parents tree) (odds flags) (exits tree)

-- edge e is saturated
abbrev pub SaturatedIn : Graph → ℕ → List Node → List Flags → List Bool → List Node → List Flags → List Stack → List Bool → ℕ → Type 0
SaturatedIn g e tree flags sat tree' flags' stacks' sat' n' =
    Saturated g.detectors g.edge_u.now g.edge_v.now e sat (knowns flags) (parents tree) (odds flags) (exits tree) sat' (knowns flags') (seen stacks') n' (parents tree') (odds flags') (exits tree')

-- the edges es are, in order
abbrev pub MergedIn : Graph → List ℕ → List Node → List Flags → List Bool → List Node → List Flags → List Stack → List Bool → ℕ → Type 0
MergedIn g es tree flags sat tree' flags' stacks' sat' n' =
    Merged g.detectors g.edge_u.now g.edge_v.now es sat (knowns flags) (parents tree) (odds flags) (exits tree) sat' (knowns flags') (seen stacks') n' (parents tree') (odds flags') (exits tree')
