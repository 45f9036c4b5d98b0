use native.Mathlib.Omega.{arith}
use mathlib.Core.Path.{◌≡◌, refl, sym, ◌∙◌}
use mathlib.Core.List.{[], ◌∷◌}
use lib.ListN.{get_or, take}
use lib.Ieee.{nan}
use Rattle.cells.specs.Tables.{touched, cnt, fresh, link_column}
use Rattle.cells.proofs.Stores.{kept_fresh}
use Rattle.columns.proofs.Columns.{map_set, column_length, keep_none, keep_more, keep_then}
use Rattle.growth_state.proofs.Laws.{byte_low}
use Rattle.growing.specs.Growing.{moved_by}
use Rattle.growing.proofs.Laws.{edge_is, count_is, edge_in, row_in, grow_turn, grow_end, ripe_turn, ripe_end}
use Rattle.growing.proofs.grow.Goals as goal

pub loop-i-init : goal.loop-i-init
loop-i-init c = record { few = omega arith; rest = keep_more (2 ∷ []) refl (keep_none c.args.links.now); grows = refl; ripe = refl }

pub bounds-links-i : goal.bounds-links-i
bounds-links-i c = row_in c.loop-i.invariant.rest c.loop-i.i c.requires.growing c.loop-i-test.true

pub bounds-growth-x : goal.bounds-growth-x
bounds-growth-x c = omega (arith, edge_in c.loop-i.invariant.rest c.loop-i.i c.requires.growing c.loop-i-test.true)

pub bounds-growth-x-in-loop-i : goal.bounds-growth-x-in-loop-i
bounds-growth-x-in-loop-i c = omega (arith, edge_in c.loop-i.invariant.rest c.loop-i.i c.requires.growing c.loop-i-test.true)

pub bounds-edge_weight-x : goal.bounds-edge_weight-x
bounds-edge_weight-x c = edge_in c.loop-i.invariant.rest c.loop-i.i c.requires.growing c.loop-i-test.true

pub bounds-links-k : goal.bounds-links-k
bounds-links-k c = omega (arith, row_in c.loop-i.invariant.rest c.loop-i.i c.requires.growing c.loop-i-test.true, c.loop-i.invariant.few)

pub loop-i-preserved : goal.loop-i-preserved
loop-i-preserved c =
    let i = c.loop-i.i in
    let links = c.args.links.now in
    let es = touched links in
    let ns = cnt links in
    let g = c.requires.growing in
    let s = c.loop-i.invariant.rest in
    let now : c.moved-now.result ≡ moved_by c.args.step (get_or c.loop-i.growth (get_or es i 0) nan) (get_or ns i 0) = rw (edge_is s i, count_is s i) c.moved-now.ensures in
    record {
      few = simp byte_low (omega arith);
      rest = keep_then s (kept_fresh c.loop-i.links c.loop-i.k _ _);
      grows = rw (now, ← edge_is s i) (sym (grow_turn es ns i c.args.m c.loop-i-test.true g.touches g.cnts c.args.step c.loop-i.growth) ∙ c.loop-i.invariant.grows);
      ripe = rw (map_set, ← edge_is s i) (ripe_turn es ns i c.args.m c.loop-i-test.true g.touches g.cnts c.args.step c.args.edge_weight.now c.loop-i.growth c.loop-i.k (fresh c.loop-i.links)
          (omega (arith, row_in s i g c.loop-i-test.true, column_length link_column 2 c.loop-i.links)) c.moved-now.result now c.reaches-done.result (rw (edge_is s i) c.reaches-done.ensures) ∙ c.loop-i.invariant.ripe);
    }

pub returns : goal.returns
returns c = let q : c.loop-i.i ≡ c.args.m = omega arith in (
  record {
    grows = sym (grow_end c.args.step c.loop-i.growth (touched c.args.links.now) (cnt c.args.links.now) c.args.m) ∙ (rw q at c.loop-i.invariant.grows);
    few = omega arith;
    ripe = sym (ripe_end c.args.step c.args.edge_weight.now c.loop-i.growth (take c.loop-i.k (fresh c.loop-i.links)) (touched c.args.links.now) (cnt c.args.links.now) c.args.m) ∙ (rw q at c.loop-i.invariant.ripe);
  },
  c.loop-i.invariant.rest,
)
