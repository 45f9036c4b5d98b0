-- A shot over lent tables, as structs of slices.
use Rattle.std.specs.Prelude.{ℕ, List, length}
use Rattle.cells.specs.declared.Tables.{Tables as Lent}
use Rattle.cells.specs.Tables.{parents, exits, lits, knowns, odds, hots, frees, defects, seen, active, front, order_edge, order_parent, touched, cnt, fresh}
use Rattle.steps.specs.Graph.{Graph as EdgeGraph}
use Rattle.steps.specs.Shot.{Decoded}
use Rattle.lent_graph.specs.declared.Graph.{Graph}
use Rattle.adjacency.specs.declared.Incidence.{Incidence}
use Rattle.adjacency.specs.Pairs.{near, away}
use Rattle.shot.specs.Shots.{Tables, Places, Left, decode_in}
use Rattle.shot.specs.Longer.{Longer}
use Rattle.shot.specs.Begin.{GrewTo}

-- the ends are in order, the weights fit, and the edges at each detector are worked out
abbrev pub Decodable : Graph → Incidence → Type 0
Decodable g adj =
    Tables g.detectors g.observables g.edge_u.now g.edge_v.now g.edge_weight.now g.edge_obs.now adj.offsets.now (near adj.neighbors.now) (away adj.neighbors.now)

-- the same in slices that may be longer than the graph's counts need
abbrev pub LongerIn : Graph → Incidence → Type 0
LongerIn g adj = Longer g.detectors g.observables g.edges g.edge_u.now g.edge_v.now g.edge_weight.now g.edge_obs.now adj.offsets.now adj.neighbors.now

-- the steps on the graph, and on the shot in a row
abbrev pub decode_on : Graph → List ℕ → Decoded
decode_on g row = decode_in g.detectors g.observables g.edge_u.now g.edge_v.now g.edge_weight.now g.edge_obs.now row

-- a place for each detector, or for each edge, in the tables whose contents are free
abbrev pub PlacesIn : Graph → Lent → Type 0
PlacesIn g t =
    Places g.detectors (length g.edge_u.now) (defects t.stacks.now) (seen t.stacks.now) (active t.stacks.now) (front t.stacks.now) (touched t.links.now) (cnt t.links.now) (fresh t.links.now) (order_edge t.stacks.now) (order_parent t.stacks.now)

-- what growth leaves to the shot's end beside its own tables: the l lit detectors listed, and places
abbrev pub LeftIn : Graph → Lent → List ℕ → List ℕ → ℕ → Type 0
LeftIn g t row list l = Left g.detectors g.observables (lits t.flags.now) row list (defects t.stacks.now) l (active t.stacks.now) (front t.stacks.now) (order_edge t.stacks.now) (order_parent t.stacks.now)

-- growth has ended, or a cluster is stuck: n detectors are seen
abbrev pub GrewToIn : EdgeGraph → Lent → ℕ → ℕ → ℕ → Type 0
GrewToIn g t stuck rounds n =
    GrewTo g (lits t.flags.now) stuck rounds t.growth.now t.sat.now (parents t.tree.now) (odds t.flags.now) (exits t.tree.now) (knowns t.flags.now) (seen t.stacks.now) n (hots t.flags.now) (frees t.flags.now)
