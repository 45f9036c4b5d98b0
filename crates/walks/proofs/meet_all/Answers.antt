use Prim.Native.Nat.{◌+◌, ◌-◌, ◌<◌}
use mathlib.Core.Path.{◌≡◌, sym, ◌∙◌}
use mathlib.Core.Bool.{true}
use native.Mathlib.Omega.{arith}
use Rattle.columns.proofs.Columns.{column_length, keep_then, map_set}
use Rattle.cells.specs.Tables.{flag_column, stack_column, frees}
use Rattle.cells.proofs.Stores.{kept_free, read_free}
use Rattle.walks.proofs.Trying.{end_try, known, skip_open, skip_boundary, other_below, skip_met, top_fits, vertex_fits, push}
use Rattle.walks.proofs.Rows.{moved, in_part, edge_at, other_at}
use Rattle.walks.proofs.meet_all.Goals.{then-sat-edge+then-o-d+then-not-flags-o, then-sat-edge+else-o-d, else-o-d-via-then-o-d+else-not-flags-o, else-o-d-via-else-o-d, else-sat-edge}
use Rattle.walks.proofs.meet_all.Goals as goal

pub bounds-sat-edge : goal.bounds-sat-edge
bounds-sat-edge c =
    let k : c.args.begin + c.loop-neighbor.neighbor-index < c.args.end = omega (arith, in_part c.args.adj.now c.args.begin (c.args.end - c.args.begin) c.loop-neighbor.neighbor-index c.loop-neighbor-test.true) in
    let e = edge_at c.args.adj.now c.args.begin (c.args.end - c.args.begin) c.loop-neighbor.neighbor-index c.loop-neighbor-test.true in
    rw e (omega (arith, known c.requires.tryable c.loop-neighbor.invariant.0 k, c.requires.tryable.sats))

pub bounds-flags-o : goal.bounds-flags-o
bounds-flags-o c =
    let k : c.args.begin + c.loop-neighbor.neighbor-index < c.args.end = omega (arith, in_part c.args.adj.now c.args.begin (c.args.end - c.args.begin) c.loop-neighbor.neighbor-index c.loop-neighbor-test.true) in
    let e = edge_at c.args.adj.now c.args.begin (c.args.end - c.args.begin) c.loop-neighbor.neighbor-index c.loop-neighbor-test.true in
    let o = other_at c.args.adj.now c.args.begin (c.args.end - c.args.begin) c.loop-neighbor.neighbor-index c.loop-neighbor-test.true in
    rw o (omega (arith, other_below c.requires.tryable c.loop-neighbor.invariant.0 k (moved c.args.sat.now e c.if-sat-edge.true) (λ z. c.if-o-d.true (o ∙ z)), c.requires.tryable.mets, c.loop-neighbor.invariant.0.mets, column_length flag_column 4 c.loop-neighbor.flags))

pub bounds-flags-o-then-not-flags-o : goal.bounds-flags-o-then-not-flags-o
bounds-flags-o-then-not-flags-o c =
    let k : c.args.begin + c.loop-neighbor.neighbor-index < c.args.end = omega (arith, in_part c.args.adj.now c.args.begin (c.args.end - c.args.begin) c.loop-neighbor.neighbor-index c.loop-neighbor-test.true) in
    let e = edge_at c.args.adj.now c.args.begin (c.args.end - c.args.begin) c.loop-neighbor.neighbor-index c.loop-neighbor-test.true in
    let o = other_at c.args.adj.now c.args.begin (c.args.end - c.args.begin) c.loop-neighbor.neighbor-index c.loop-neighbor-test.true in
    rw o (omega (arith, other_below c.requires.tryable c.loop-neighbor.invariant.0 k (moved c.args.sat.now e c.if-sat-edge.true) (λ z. c.if-o-d.true (o ∙ z)), c.requires.tryable.mets, c.loop-neighbor.invariant.0.mets, column_length flag_column 4 c.loop-neighbor.flags))

pub push-requires : goal.push-requires
push-requires c =
    let k : c.args.begin + c.loop-neighbor.neighbor-index < c.args.end = omega (arith, in_part c.args.adj.now c.args.begin (c.args.end - c.args.begin) c.loop-neighbor.neighbor-index c.loop-neighbor-test.true) in
    let e = edge_at c.args.adj.now c.args.begin (c.args.end - c.args.begin) c.loop-neighbor.neighbor-index c.loop-neighbor-test.true in
    let o = other_at c.args.adj.now c.args.begin (c.args.end - c.args.begin) c.loop-neighbor.neighbor-index c.loop-neighbor-test.true in
    (omega (arith, top_fits c.requires.tryable c.loop-neighbor.invariant.0 k (moved c.args.sat.now e c.if-sat-edge.true) (λ z. c.if-o-d.true (o ∙ z)) (moved (frees c.loop-neighbor.flags) o (read_free c.loop-neighbor.flags _ ∙ c.if-not-flags-o.true)), column_length stack_column 3 c.loop-neighbor.stacks), omega (arith, vertex_fits c.requires.tryable c.loop-neighbor.invariant.0 k (moved c.args.sat.now e c.if-sat-edge.true) (λ z. c.if-o-d.true (o ∙ z)) (moved (frees c.loop-neighbor.flags) o (read_free c.loop-neighbor.flags _ ∙ c.if-not-flags-o.true)), column_length stack_column 2 c.loop-neighbor.stacks))

pub loop-neighbor-preserved : goal.loop-neighbor-preserved
loop-neighbor-preserved c =
    let k : c.args.begin + c.loop-neighbor.neighbor-index < c.args.end = omega (arith, in_part c.args.adj.now c.args.begin (c.args.end - c.args.begin) c.loop-neighbor.neighbor-index c.loop-neighbor-test.true) in
    let e = edge_at c.args.adj.now c.args.begin (c.args.end - c.args.begin) c.loop-neighbor.neighbor-index c.loop-neighbor-test.true in
    let o = other_at c.args.adj.now c.args.begin (c.args.end - c.args.begin) c.loop-neighbor.neighbor-index c.loop-neighbor-test.true in
    let next : c.args.begin + (c.loop-neighbor.neighbor-index + 1) ≡ c.args.begin + c.loop-neighbor.neighbor-index + 1 = omega arith in
    rw next (elim c.if-sat-edge.branch [
      | then-sat-edge+then-o-d+then-not-flags-o w ↦
          rw (w.flags-is, w.stacks-is, w.new-is) (
            rw (map_set, w.push.ensures.fronts, w.push.ensures.vertices, w.push.ensures.trees, w.push.ensures.parents, e, o) (push c.requires.tryable c.loop-neighbor.invariant.0 k (moved c.args.sat.now e w.if-sat-edge.true) (λ z. w.if-o-d.true (o ∙ z)) (moved (frees c.loop-neighbor.flags) o (read_free c.loop-neighbor.flags _ ∙ w.if-not-flags-o.true))),
            keep_then c.loop-neighbor.invariant.1 (kept_free c.loop-neighbor.flags _ true _),
            keep_then c.loop-neighbor.invariant.2 w.push.ensures.kept,
          )
      | then-sat-edge+else-o-d w ↦
          rw (w.flags-is, w.stacks-is, w.new-is) (elim w.else-o-d.branch [
            | else-o-d-via-then-o-d+else-not-flags-o w' ↦ (skip_met c.requires.tryable c.loop-neighbor.invariant.0 k (moved c.args.sat.now e w.if-sat-edge.true) (λ z. w'.if-o-d.true (o ∙ z)) (moved (frees c.loop-neighbor.flags) o (read_free c.loop-neighbor.flags _ ∙ w'.if-not-flags-o.false)), c.loop-neighbor.invariant.1, c.loop-neighbor.invariant.2)
            | else-o-d-via-else-o-d w' ↦ (skip_boundary c.requires.tryable c.loop-neighbor.invariant.0 k (sym o ∙ w'.if-o-d.false), c.loop-neighbor.invariant.1, c.loop-neighbor.invariant.2)
          ])
      | else-sat-edge w ↦ rw (w.flags-is, w.stacks-is, w.new-is) (skip_open c.requires.tryable c.loop-neighbor.invariant.0 k (moved c.args.sat.now e w.if-sat-edge.false), c.loop-neighbor.invariant.1, c.loop-neighbor.invariant.2)
    ])

pub returns-clause-tried : goal.returns-clause-tried
returns-clause-tried c = end_try c.requires.tryable c.loop-neighbor.invariant.0 (omega (arith, c.loop-neighbor.invariant.0, c.requires.tryable.last, c.loop-neighbor-test.false))
