-- What the passes ask and leave, over structs of slices.
use Rattle.std.specs.Prelude.{ℕ, List, Bool}
use Rattle.cells.specs.declared.Node.{Node}
use Rattle.cells.specs.declared.Flags.{Flags}
use Rattle.cells.specs.declared.Stack.{Stack}
use Rattle.cells.specs.declared.Link.{Link}
use Rattle.cells.specs.Tables.{parents, hots, frees, front, touched, cnt}
use Rattle.lent_graph.specs.declared.Graph.{Graph}
use Rattle.adjacency.specs.declared.Incidence.{Incidence}
use Rattle.adjacency.specs.Pairs.{near, away}
use Rattle.counting.specs.Counting.{taken_at, Tabled, CountedAt, Counting, Counted}

-- the tables, and the edges at each detector
abbrev pub TabledIn : Graph → Incidence → List Node → List Flags → List Bool → Type 0
TabledIn g adj tree flags sat =
    Tabled g.detectors g.edge_u.now g.edge_v.now adj.offsets.now (near adj.neighbors.now) (away adj.neighbors.now) (parents tree) sat (hots flags) (frees flags)

-- what is listed at x
abbrev pub taken_of : Graph → List Node → List Flags → List Bool → ℕ → List ℕ
taken_of g tree flags sat x = taken_at g.detectors g.edge_u.now g.edge_v.now (parents tree) sat (hots flags) x

-- the edges of x listed from `from` on, r past them
abbrev pub CountedAtIn : Graph → List Node → List Bool → ℕ → ℕ → ℕ → List Flags → List Flags → List Link → List Link → Type 0
CountedAtIn g tree sat x from r flags flags' links links' =
    CountedAt g.detectors g.edge_u.now g.edge_v.now (parents tree) sat (hots flags) (frees flags) x (touched links) (cnt links) from (frees flags') (touched links') (cnt links') r

-- m detectors of the front, and room for what is listed
abbrev pub CountingIn : Graph → Incidence → List Node → List Flags → List Stack → List Link → List Bool → ℕ → Type 0
CountingIn g adj tree flags stacks links sat m =
    Counting g.detectors g.edge_u.now g.edge_v.now (front stacks) m adj.offsets.now (near adj.neighbors.now) (away adj.neighbors.now) (parents tree) sat (hots flags) (frees flags) (touched links) (cnt links)

-- the r edges of the m detectors listed
abbrev pub CountedIn : Graph → List Node → List Stack → List Bool → ℕ → ℕ → List Flags → List Flags → List Link → Type 0
CountedIn g tree stacks sat m r flags flags' links' =
    Counted g.detectors g.edge_u.now g.edge_v.now (front stacks) m (parents tree) sat (hots flags) (frees flags) (frees flags') (touched links') (cnt links') r
