use Prim.Native.Nat.{◌+◌}
use mathlib.Core.Path.{◌≡◌, sym, ◌∙◌}
use mathlib.Core.Bool.{false}
use native.Mathlib.Omega.{arith}
use lib.ListN.{length-set}
use lib.Ieee as Ieee
use lib.Ieee.{nan}
use Rattle.adjacency.specs.Pairs.{near}
use Rattle.growth_state.specs.Rep.{zero64}
use Rattle.rest.proofs.Cleaned.{clear_turn, clear_end}
use Rattle.rest.proofs.Entries.{before_end, edge_at}
use Rattle.rest.proofs.clean_edges.Goals as goal

pub shrink-requires : goal.shrink-requires
shrink-requires c =
    let k = before_end c.args.adj.now c.args.start c.args.end c.loop-neighbor.neighbor-index c.loop-neighbor-test.true in
    omega (arith, c.requires.0.inside (c.args.start + c.loop-neighbor.neighbor-index) (omega arith) k, edge_at c.args.adj.now c.args.start c.args.end c.loop-neighbor.neighbor-index c.loop-neighbor-test.true)

pub bounds-sat-e : goal.bounds-sat-e
bounds-sat-e c =
    let k = before_end c.args.adj.now c.args.start c.args.end c.loop-neighbor.neighbor-index c.loop-neighbor-test.true in
    omega (arith, c.requires.0.inside (c.args.start + c.loop-neighbor.neighbor-index) (omega arith) k, edge_at c.args.adj.now c.args.start c.args.end c.loop-neighbor.neighbor-index c.loop-neighbor-test.true)

pub loop-neighbor-preserved : goal.loop-neighbor-preserved
unfolding Ieee.of_bits
loop-neighbor-preserved c =
    let i = c.loop-neighbor.neighbor-index in
    let adj = c.args.adj.now in
    let k = before_end adj c.args.start c.args.end i c.loop-neighbor-test.true in
    let e = edge_at adj c.args.start c.args.end i c.loop-neighbor-test.true in
    let next : c.args.start + (i + 1) ≡ c.args.start + i + 1 = omega arith in
    let low = c.requires.0.inside (c.args.start + i) (omega arith) k in
    rw next (
      c.shrink.auto.growth ∙ c.loop-neighbor.invariant.0,
      simp length-set c.loop-neighbor.invariant.1,
      rw (c.shrink.ensures, e) (clear_turn (near adj) (c.args.start + i) c.args.end k c.requires.0.ends c.loop-neighbor.growth zero64 nan (omega (arith, low)) _ c.loop-neighbor.invariant.2),
      rw e (clear_turn (near adj) (c.args.start + i) c.args.end k c.requires.0.ends c.loop-neighbor.sat false false (omega (arith, low)) _ c.loop-neighbor.invariant.3),
    )

pub returns : goal.returns
returns c = let q : c.args.start + c.loop-neighbor.neighbor-index ≡ c.args.end = omega (arith, c.requires.0.rising, c.requires.0.ends) in record {
  growth_is = λ e. sym (clear_end (near c.args.adj.now) c.args.end c.loop-neighbor.growth zero64 nan e) ∙ (rw q at (c.loop-neighbor.invariant.2 e));
  sat_is = λ e. sym (clear_end (near c.args.adj.now) c.args.end c.loop-neighbor.sat false false e) ∙ (rw q at (c.loop-neighbor.invariant.3 e));
}
