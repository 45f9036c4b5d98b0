use Prim.Native.Nat.{◌+◌, ◌*◌, ◌≤◌}
use native.Mathlib.Omega.{arith}
use lib.ListN.{length}
use Rattle.marking.proofs.Xors.{in_table}
use Rattle.marking.proofs.write_row.Goals as goal
use Rattle.marking.proofs.write_row.Goals.{In-Some}

-- the row of the edge lies in the table
room : (c : In-Some) → c.in-Some.e.now * length c.fill.new.self + length c.fill.new.self ≤ length c.args.edge_obs.now
room c = in_table _ _ _ _ _ _ c.in-Some.e.now c.loop-e.invariant c.in-Some.ensures.steps _ c.requires c.fill.ensures.len

pub overflow_mul-from : goal.overflow_mul-from
overflow_mul-from c = omega (arith, room (goal.at.overflow_mul-from c).In-Some)

pub overflow_add-to : goal.overflow_add-to
overflow_add-to c = omega (arith, room (goal.at.overflow_add-to c).In-Some)

pub offset_bounds-edge_obs-from : goal.offset_bounds-edge_obs-from
offset_bounds-edge_obs-from c = omega (arith, room (goal.at.offset_bounds-edge_obs-from c).In-Some)

pub slice_bounds-xor_into-end : goal.slice_bounds-xor_into-end
slice_bounds-xor_into-end c = omega (arith, room (goal.at.slice_bounds-xor_into-end c).In-Some)
