use Prim.Native.Nat.{ℕ, ◌<◌}
use native.Mathlib.Omega.{arith}
use mathlib.Core.Path.{◌≡◌, refl, sym, ◌∙◌}
use mathlib.Core.List.{List, [], ◌∷◌}
use lib.ListN.{length, get_or, take}
use lib.Ieee.{of_bits}
use lib.Seq.{get_or-take, length-take-le}
use Rattle.cells.specs.declared.Link.{Link}
use Rattle.cells.specs.Tables.{touched, cnt, link_column, SameLinks}
use Rattle.columns.proofs.Columns.{column_length, keep_none, keep_more}
use Rattle.growing.specs.Growing.{Growing}
use Rattle.growing.proofs.Laws.{empty, edge_is, count_is, edge_in, least_turn, least_end}
use Rattle.growing.proofs.least.Goals as goal

same : (links : List Link) → SameLinks (2 ∷ []) links links
same links = keep_more (2 ∷ []) refl (keep_none links)

many : {m E : ℕ} (links : List Link) → Growing (touched links) (cnt links) m E → length (take m links) ≡ m
many {m} links g = length-take-le m links (omega (arith, g.touches, column_length link_column 0 links))

inside : {m E : ℕ} (links : List Link) → Growing (touched links) (cnt links) m E → (i : ℕ) → i < length (take m links) → (get_or (take m links) i empty).touched < E
inside {m} links g i h =
    let k : i < m = omega (arith, many links g) in
    rw (get_or-take m links i empty k) (edge_in (same links) i g k)

pub loop-link-init : goal.loop-link-init
unfolding of_bits
loop-link-init c = refl

pub bounds-edge_weight-x : goal.bounds-edge_weight-x
bounds-edge_weight-x c = inside c.args.links.now c.requires.growing c.loop-link.link-index c.loop-link-test.true

pub bounds-growth-x : goal.bounds-growth-x
bounds-growth-x c = rw c.requires.growth_len (inside c.args.links.now c.requires.growing c.loop-link.link-index c.loop-link-test.true)

pub loop-link-preserved : goal.loop-link-preserved
loop-link-preserved c =
    let i = c.loop-link.link-index in
    let links = c.args.links.now in
    let k : i < c.args.m = omega (arith, many links c.requires.growing) in
    rw (c.lesser-b.ensures, c.step_at.ensures, get_or-take c.args.m links i empty k, ← edge_is (same links) i, ← count_is (same links) i)
    (sym (least_turn (touched links) (cnt links) i c.args.m k c.requires.growing.touches c.requires.growing.cnts c.args.edge_weight.now c.args.growth.now c.loop-link.b) ∙ c.loop-link.invariant)

pub returns : goal.returns
returns c =
    let q : c.loop-link.link-index ≡ c.args.m = omega (arith, many c.args.links.now c.requires.growing) in
    sym (least_end c.args.edge_weight.now c.args.growth.now c.loop-link.b (touched c.args.links.now) (cnt c.args.links.now) c.args.m) ∙ (rw q at c.loop-link.invariant)
