use Prim.Native.Nat.{ℕ, ◌<◌, ◌≤◌}
use native.Mathlib.Omega.{arith}
use mathlib.Core.Path.{◌≡◌, refl, sym}
use mathlib.Core.List.{List}
use lib.ListN.{length, get_or, take, get_or-map}
use lib.Seq.{slice_empty, get_or-take, length-take-le}
use Rattle.growth_state.proofs.Laws.{slice_next}
use Rattle.columns.proofs.Columns.{column_length, keep_then, keep_length}
use Rattle.cells.specs.declared.Stack.{Stack}
use Rattle.cells.specs.Tables.{front, link_column, stack_column}
use Rattle.counting.proofs.Laws.{taken_room, gathering_turn, gathered}
use Rattle.counting.proofs.count.Goals as goal

abbrev empty : Stack
empty = record { defect = 0; seen = 0; active = 0; front = 0; order_edge = 0; order_parent = 0 }

many : (stacks : List Stack) (m : ℕ) → m ≤ length (front stacks) → length (take m stacks) ≡ m
many stacks m h = length-take-le m stacks (omega (arith, column_length stack_column 3 stacks))

front_is : (stacks : List Stack) (m i : ℕ) → i < m → (get_or (take m stacks) i empty).front ≡ get_or (front stacks) i 0
front_is stacks m i h =
    rw (get_or-take m stacks i empty h) (sym (get_or-map (λ r. r.front) stacks i empty))

pub count_at-at-requires-clause-x_lt_d : goal.count_at-at-requires-clause-x_lt_d
count_at-at-requires-clause-x_lt_d c =
    let i = c.loop-stack.stack-index in
    let k : i < c.args.m = omega (arith, many c.args.stacks.now c.args.m c.requires.counting.fronts) in
    rw (front_is c.args.stacks.now c.args.m i k) (c.requires.counting.inside i k)

pub count_at-at-requires-clause-x_in_bounds : goal.count_at-at-requires-clause-x_in_bounds
count_at-at-requires-clause-x_in_bounds c =
    let i = c.loop-stack.stack-index in
    let t = c.loop-stack.invariant in
    let k : i < c.args.m = omega (arith, many c.args.stacks.now c.args.m c.requires.counting.fronts) in
    rw (front_is c.args.stacks.now c.args.m i k, t.flag.rest 3 refl)
    (omega (arith, taken_room (rw (slice_next i c.args.m (front c.args.stacks.now) k c.requires.counting.fronts) at t.gathering), c.requires.counting.touches, column_length link_column 0 c.args.links.now, t.link.long))

pub loop-stack-preserved : goal.loop-stack-preserved
loop-stack-preserved c =
    let i = c.loop-stack.stack-index in
    let t = c.loop-stack.invariant in
    let g = c.requires.counting in
    let e = c.count_at-at.ensures in
    let k : i < c.args.m = omega (arith, many c.args.stacks.now c.args.m g.fronts) in
    record {
      gathering = gathering_turn (rw (slice_next i c.args.m (front c.args.stacks.now) k g.fronts) at t.gathering) (keep_length e.1 4) (keep_length e.2 0) (keep_length e.2 1)
          (omega (arith, g.tables.points (get_or (front c.args.stacks.now) i 0) (g.inside i k), t.gathering.same, g.tables.frees))
          (rw (← front_is c.args.stacks.now c.args.m i k, ← t.flag.rest 3 refl) e.0);
      flag = keep_then t.flag e.1;
      link = keep_then t.link e.2;
    }

pub returns : goal.returns
returns c =
    let q : c.loop-stack.stack-index ≡ c.args.m = omega (arith, many c.args.stacks.now c.args.m c.requires.counting.fronts) in
    (gathered (rw (q, slice_empty c.args.m (front c.args.stacks.now)) at c.loop-stack.invariant.gathering), c.loop-stack.invariant.flag, c.loop-stack.invariant.link)
