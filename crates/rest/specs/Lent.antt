-- Tables at rest, over a graph as a struct of slices: by rows, and as a struct of slices.
use Rattle.std.specs.Prelude.{ℕ, List, Bool, length, take, Float}
use Rattle.lent_graph.specs.declared.Graph.{Graph}
use Rattle.adjacency.specs.declared.Incidence.{Incidence}
use Rattle.adjacency.specs.Pairs.{near, away}
use Rattle.cells.specs.declared.Node.{Node}
use Rattle.cells.specs.declared.Flags.{Flags}
use Rattle.cells.specs.declared.Stack.{Stack}
use Rattle.cells.specs.declared.Tables.{Tables}
use Rattle.cells.specs.Tables.{parents, exits, lits, knowns, odds, hots, frees, seen}
use Rattle.growth_state.specs.Rep.{Used}
use Rattle.rest.specs.Clean.{Clean, Cleaning}
use Rattle.rest.specs.Rows.{Spaces}

-- the rows of the detectors and of all edges are at rest
abbrev pub CleanIn : Graph → List Node → List Flags → List Float → List Bool → Type 0
CleanIn g tree flags growth sat = Clean g.detectors (length g.edge_u.now) (lits flags) growth sat (knowns flags) (parents tree) (odds flags) (exits tree) (hots flags) (frees flags)

abbrev pub AtRest : Graph → Tables → Type 0
AtRest g t = CleanIn g t.tree.now t.flags.now t.growth.now t.sat.now

-- the edges at each detector are worked out, and n detectors are listed as seen
abbrev pub CleaningIn : Graph → Incidence → List Stack → ℕ → Type 0
CleaningIn g adj stacks n = Cleaning g.detectors g.edge_u.now g.edge_v.now adj.offsets.now (near adj.neighbors.now) (away adj.neighbors.now) (seen stacks) n

-- whatever is not at rest belongs to one of the n detectors seen, or to an edge of one
abbrev pub UsedIn : Graph → List Node → List Flags → List Stack → List Float → List Bool → ℕ → Type 0
UsedIn g tree flags stacks growth sat n =
    Used g.detectors g.edge_u.now g.edge_v.now (take n (seen stacks)) (lits flags) growth sat (knowns flags) (parents tree) (odds flags) (exits tree) (hots flags) (frees flags)

abbrev pub Spent : Graph → Tables → ℕ → Type 0
Spent g t n = UsedIn g t.tree.now t.flags.now t.stacks.now t.growth.now t.sat.now n

-- rows for the detectors and entries for the edges that a graph counts
abbrev pub SpacesIn : Graph → Tables → Type 0
SpacesIn g t = Spaces g.detectors g.edges t.tree.now t.flags.now t.growth.now t.sat.now
