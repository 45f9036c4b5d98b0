use Prim.Native.Nat.{◌<◌}
use mathlib.Core.Path.{◌≡◌, sym, ◌∙◌}
use native.Mathlib.Omega.{arith}
use lib.ListN.{get_or}
use lib.Seq.{slice_empty, length-take-le}
use Rattle.growth_state.proofs.Laws.{slice_next}
use Rattle.columns.proofs.Columns.{column_length}
use Rattle.adjacency.proofs.Stars.{adj_slice, adj_rising, adj_ends, adj_inside}
use Rattle.cells.specs.Tables.{seen, stack_column}
use Rattle.rest.proofs.Cleaned.{clean_of}
use Rattle.rest.proofs.CleanRows.{many_trees, many_flags, rows_next}
use Rattle.rest.proofs.Entries.{in_list, seen_at}
use Rattle.rest.proofs.clean.Goals as goal

pub bounds-tree-k : goal.bounds-tree-k
bounds-tree-k c =
    let k = in_list c.args.stacks.now c.args.n c.loop-stack.stack-index c.loop-stack-test.true in
    omega (arith, c.requires.cleaning.inside c.loop-stack.stack-index k, seen_at c.args.stacks.now c.args.n c.loop-stack.stack-index c.loop-stack-test.true, many_trees c.loop-stack.tree c.loop-stack.flags c.loop-stack.invariant)

pub bounds-flags-k : goal.bounds-flags-k
bounds-flags-k c =
    let k = in_list c.args.stacks.now c.args.n c.loop-stack.stack-index c.loop-stack-test.true in
    omega (arith, c.requires.cleaning.inside c.loop-stack.stack-index k, seen_at c.args.stacks.now c.args.n c.loop-stack.stack-index c.loop-stack-test.true, many_flags c.loop-stack.tree c.loop-stack.flags c.loop-stack.invariant)

pub bounds-offsets-k : goal.bounds-offsets-k
bounds-offsets-k c =
    let k = in_list c.args.stacks.now c.args.n c.loop-stack.stack-index c.loop-stack-test.true in
    omega (arith, c.requires.cleaning.inside c.loop-stack.stack-index k, seen_at c.args.stacks.now c.args.n c.loop-stack.stack-index c.loop-stack-test.true, c.requires.cleaning.adjacent.offs)

pub bounds-offsets-k-in-loop-stack : goal.bounds-offsets-k-in-loop-stack
bounds-offsets-k-in-loop-stack c =
    let k = in_list c.args.stacks.now c.args.n c.loop-stack.stack-index c.loop-stack-test.true in
    omega (arith, c.requires.cleaning.inside c.loop-stack.stack-index k, seen_at c.args.stacks.now c.args.n c.loop-stack.stack-index c.loop-stack-test.true, c.requires.cleaning.adjacent.offs)

pub clean_edges-requires : goal.clean_edges-requires
clean_edges-requires c =
    let i = c.loop-stack.stack-index in
    let x = get_or (seen c.args.stacks.now) i 0 in
    let h : x < c.args.g.now.detectors = c.requires.cleaning.inside i (in_list c.args.stacks.now c.args.n i c.loop-stack-test.true) in
    let a = c.requires.cleaning.adjacent in
    rw (seen_at c.args.stacks.now c.args.n i c.loop-stack-test.true) (
      record { rising = adj_rising a x h; ends = adj_ends a x h; inside = λ k lo hi. omega (arith, adj_inside a x h k lo hi, c.loop-stack.invariant.sats) },
      c.loop-stack.invariant.growths ∙ sym c.loop-stack.invariant.sats,
    )

pub loop-stack-preserved : goal.loop-stack-preserved
loop-stack-preserved c =
    let i = c.loop-stack.stack-index in
    let k = in_list c.args.stacks.now c.args.n i c.loop-stack-test.true in
    let x = get_or (seen c.args.stacks.now) i 0 in
    let h : x < c.args.g.now.detectors = c.requires.cleaning.inside i k in
    let q = seen_at c.args.stacks.now c.args.n i c.loop-stack-test.true in
    rw (c.alone.ensures, q) (rows_next c.loop-stack.tree c.loop-stack.flags
    (rw (slice_next i c.args.n (seen c.args.stacks.now) k c.requires.cleaning.seens) at c.loop-stack.invariant) h
    (rw (q, adj_slice c.requires.cleaning.adjacent x h) at c.clean_edges.ensures) c.clean_edges.auto.growth c.clean_edges.auto.sat)

pub returns : goal.returns
returns c =
    let m = length-take-le c.args.n c.args.stacks.now (omega (arith, c.requires.cleaning.seens, column_length stack_column 1 c.args.stacks.now)) in
    let q : c.loop-stack.stack-index ≡ c.args.n = omega (arith, m) in
    record { clean = clean_of (rw (q, slice_empty c.args.n (seen c.args.stacks.now)) at c.loop-stack.invariant) }
