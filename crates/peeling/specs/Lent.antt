-- Peeling over a graph as a struct of slices, and tables by rows.
use Rattle.std.specs.Prelude.{ℕ, List, Bool}
use Rattle.lent_graph.specs.declared.Graph.{Graph}
use Rattle.adjacency.specs.declared.Incidence.{Incidence}
use Rattle.adjacency.specs.Pairs.{near, away}
use Rattle.cells.specs.declared.Node.{Node}
use Rattle.cells.specs.declared.Flags.{Flags}
use Rattle.cells.specs.declared.Stack.{Stack}
use Rattle.cells.specs.Tables.{parents, exits, lits, frees, defects, active, front, order_edge, order_parent}
use Rattle.forest.specs.Forest.{labels}
use Rattle.walks.specs.Walks.{Tabled}
use Rattle.peeling.specs.Tables.{Grown, Fresh, Done, Lit, Listed}

-- the cluster of each detector
abbrev pub labels_in : Graph → List Node → List ℕ
labels_in g tree = labels g.detectors (parents tree)

-- the tables that peeling reads and writes
abbrev pub TabledIn : Graph → Incidence → List Bool → List Flags → List Stack → Type 0
TabledIn g adj sat flags stacks =
    Tabled g.detectors g.edge_u.now g.edge_v.now adj.offsets.now (near adj.neighbors.now) (away adj.neighbors.now) sat (frees flags) (front stacks) (active stacks) (order_edge stacks) (order_parent stacks)

-- what growth leaves for peeling
abbrev pub GrownIn : Graph → List Bool → List Node → Type 0
GrownIn g sat tree = Grown g.detectors g.edge_u.now g.edge_v.now sat (labels_in g tree) (exits tree)

-- the cluster of x is not met
abbrev pub FreshIn : Graph → List Node → ℕ → List Flags → List ℕ → ℕ → Type 0
FreshIn g tree x flags list listed = Fresh g.detectors (labels_in g tree) x (frees flags) (lits flags) list listed

-- the cluster of x is peeled, and met: r edges are listed
abbrev pub DoneIn : Graph → List Bool → List Node → ℕ → List Flags → List ℕ → ℕ → ℕ → List Flags → List ℕ → Type 0
DoneIn g sat tree x flags list listed r flags' list' =
    Done g.detectors g.edge_u.now g.edge_v.now sat (labels_in g tree) x (frees flags) (lits flags) list listed r (frees flags') (lits flags') list'

-- the n lit detectors are listed, and nothing is met
abbrev pub LitIn : Graph → List Stack → ℕ → List Flags → List ℕ → Type 0
LitIn g stacks n flags list = Lit g.detectors (defects stacks) n (frees flags) (lits flags) list

-- the list has the r edges of all clusters
abbrev pub ListedIn : Graph → List Bool → List Node → List Flags → List ℕ → ℕ → List Flags → List ℕ → Type 0
ListedIn g sat tree flags list r flags' list' =
    Listed g.detectors g.edge_u.now g.edge_v.now sat (labels_in g tree) (lits flags) list r (frees flags') (lits flags') list'
