use Prim.Native.Nat.{ℕ, ◌*◌, ◌≤◌}
use mathlib.Core.List.{List}
use mathlib.Core.Path.{◌≡◌, sym, ◌∙◌}
use lib.ListN.{length}
use Rattle.adjacency.specs.declared.Neighbor.{Neighbor}
use Rattle.adjacency.specs.Pairs.{near, away, neighbor_column}
use native.Mathlib.Omega.{arith}
use Rattle.columns.proofs.Columns.{column_length}
use Rattle.adjacency.proofs.Tables.{start_fill, end_fill, a_room, turn_one, b_room, turn_two}
use Rattle.adjacency.proofs.fill.Goals as goal

room : (u : List ℕ) (adj : List Neighbor) → 2 * length u ≤ length adj → (2 * length u ≤ length (near adj)) × (length (away adj) ≡ length (near adj))
room u adj h = (omega (arith, column_length neighbor_column 0 adj), column_length neighbor_column 1 adj ∙ sym (column_length neighbor_column 0 adj))

pub loop-e-init : goal.loop-e-init
loop-e-init c =
    start_fill c.requires.sized (room c.args.g.now.edge_u.now c.args.adj.now c.requires.edge_u_in_bounds) c.requires.summed

pub put-requires : goal.put-requires
put-requires c =
    let r = a_room c.requires.sized (room c.args.g.now.edge_u.now c.args.adj.now c.requires.edge_u_in_bounds) c.loop-e.invariant c.loop-e-test.true in (r.0, r.1, omega (arith, r.2, column_length neighbor_column 0 c.loop-e.adj))

pub put-requires-then-b : goal.put-requires-then-b
put-requires-then-b c =
    let r = b_room c.requires.sized (room c.args.g.now.edge_u.now c.args.adj.now c.requires.edge_u_in_bounds) c.loop-e.invariant c.loop-e-test.true c.if-b.true c.put.ensures in (r.0, r.1, omega (arith, r.2, column_length neighbor_column 0 c.put.new.adj))

pub loop-e-preserved-then-b : goal.loop-e-preserved-then-b
loop-e-preserved-then-b c =
    turn_two c.requires.sized (room c.args.g.now.edge_u.now c.args.adj.now c.requires.edge_u_in_bounds) c.loop-e.invariant c.loop-e-test.true c.if-b.true c.put.ensures c.put-then-b.ensures

pub put-requires-else-b : goal.put-requires-else-b
put-requires-else-b c =
    let r = a_room c.requires.sized (room c.args.g.now.edge_u.now c.args.adj.now c.requires.edge_u_in_bounds) c.loop-e.invariant c.loop-e-test.true in (r.0, r.1, omega (arith, r.2, column_length neighbor_column 0 c.loop-e.adj))

pub loop-e-preserved : goal.loop-e-preserved
loop-e-preserved c =
    turn_one c.requires.sized (room c.args.g.now.edge_u.now c.args.adj.now c.requires.edge_u_in_bounds) c.loop-e.invariant c.loop-e-test.true c.if-b.false c.put-else-b.ensures

pub returns : goal.returns
returns c =
    end_fill c.requires.sized (room c.args.g.now.edge_u.now c.args.adj.now c.requires.edge_u_in_bounds) c.loop-e.invariant (omega (arith, c.loop-e-test.false))
