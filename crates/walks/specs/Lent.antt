-- What the walk asks and leaves, over structs of slices.
use Rattle.std.specs.Prelude.{ℕ, List, Bool}
use Rattle.cells.specs.declared.Flags.{Flags}
use Rattle.cells.specs.declared.Stack.{Stack}
use Rattle.cells.specs.Tables.{frees, active, front, order_edge, order_parent}
use Rattle.lent_graph.specs.declared.Graph.{Graph}
use Rattle.adjacency.specs.declared.Neighbor.{Neighbor}
use Rattle.adjacency.specs.declared.Incidence.{Incidence}
use Rattle.adjacency.specs.Pairs.{near, away}
use Rattle.walks.specs.Walks.{Tryable, Tried, Tabled, Gone}

-- the edges of x stand in adj from `begin` to `end`
abbrev pub TryableIn : Graph → ℕ → ℕ → ℕ → List Neighbor → List Bool → List Flags → List Stack → ℕ → ℕ → Type 0
TryableIn g x begin end adj sat flags stacks top n =
    Tryable g.detectors g.edge_u.now g.edge_v.now x begin end (near adj) (away adj) sat (frees flags) (front stacks) top (active stacks) (order_edge stacks) (order_parent stacks) n

-- r vertices are new
abbrev pub TriedIn : Graph → ℕ → List Bool → List Flags → List Stack → ℕ → ℕ → ℕ → List Flags → List Stack → Type 0
TriedIn g x sat flags stacks top n r flags' stacks' =
    Tried g.detectors g.edge_u.now g.edge_v.now x sat (frees flags) (front stacks) top (active stacks) (order_edge stacks) (order_parent stacks) n
    r (frees flags') (front stacks') (active stacks') (order_edge stacks') (order_parent stacks')

-- the tables that peeling reads and writes
abbrev pub TabledIn : Graph → Incidence → List Bool → List Flags → List Stack → Type 0
TabledIn g adj sat flags stacks =
    Tabled g.detectors g.edge_u.now g.edge_v.now adj.offsets.now (near adj.neighbors.now) (away adj.neighbors.now) sat (frees flags) (front stacks) (active stacks) (order_edge stacks) (order_parent stacks)

-- the walk from the vertex s; r branches
abbrev pub GoneIn : Graph → ℕ → List Bool → List Flags → ℕ → List Flags → List Stack → Type 0
GoneIn g s sat flags r flags' stacks' =
    Gone g.detectors g.edge_u.now g.edge_v.now s sat (frees flags) r (frees flags') (front stacks') (active stacks') (order_edge stacks') (order_parent stacks')
