use Prim.Native.Nat.{ℕ, ◌+◌}
use mathlib.Core.Path.{◌≡◌, sym, ap, ◌∙◌}
use mathlib.Core.Bool.{Bool, true}
use native.Mathlib.Omega.{arith}
use lib.ListN.{length, set, length-set, length-take}
use lib.Seq.{slice}
use mathlib.Core.List.{List}
use Rattle.forest.specs.Forest.{labels}
use Rattle.steps.specs.Growth.{merge_all}
use Rattle.adjacency.specs.Adjacent.{weighted}
use Rattle.columns.proofs.Columns.{column_length, keep_then, keep_length, in_first, first_at}
use Rattle.cells.specs.declared.Link.{Link}
use Rattle.cells.specs.Tables.{link_column, parents, fresh}
use Rattle.cells.proofs.Stores.{no_link}
use Rattle.clusters.specs.Joins.{all_set}
use Rattle.clusters.proofs.Laws.{set_turn, merge_turn, set_end, merge_end}
use Rattle.clusters.proofs.merge.Goals as goal

pub saturate-m-requires-clause-e_in_bounds : goal.saturate-m-requires-clause-e_in_bounds
saturate-m-requires-clause-e_in_bounds c =
    let h = in_first c.args.links.now c.args.k _ c.loop-link-test.true in
    rw (first_at c.args.links.now c.args.k c.loop-link.link-index c.loop-link-test.true (λ (r : Link). r.fresh) no_link) (c.requires.merging.inside c.loop-link.link-index h)

pub loop-link-preserved : goal.loop-link-preserved
loop-link-preserved c =
    let h = in_first c.args.links.now c.args.k _ c.loop-link-test.true in
    let e = sym (first_at c.args.links.now c.args.k c.loop-link.link-index c.loop-link-test.true (λ (r : Link). r.fresh) no_link) in (
      record { ends = c.loop-link.invariant.0.ends; sats = ap length c.saturate-m.ensures.0.sat_is ∙ simp length-set c.loop-link.invariant.0.sats; lists = c.saturate-m.ensures.0.lists; down = c.saturate-m.ensures.0.down; odds = keep_length c.saturate-m.ensures.2 2 ∙ c.loop-link.invariant.0.odds; exits = keep_length c.saturate-m.ensures.1 1 ∙ c.loop-link.invariant.0.exits },
      ap (λ (l : List Bool). all_set l (slice (c.loop-link.link-index + 1) c.args.k (fresh c.args.links.now))) (c.saturate-m.ensures.0.sat_is ∙ ap (λ x. set c.loop-link.sat x true) (sym e)) ∙ sym (set_turn (fresh c.args.links.now) c.loop-link.link-index c.args.k h c.requires.merging.freshes c.loop-link.sat) ∙ c.loop-link.invariant.1,
      (λ ws lit. (rw (← e) at (ap (λ (l : List ℕ). merge_all (weighted c.args.g.now.detectors c.args.g.now.edge_u.now c.args.g.now.edge_v.now ws) lit l (slice (c.loop-link.link-index + 1) c.args.k (fresh c.args.links.now))) (c.saturate-m.ensures.0.labels_are ws lit))) ∙ sym (merge_turn (fresh c.args.links.now) c.loop-link.link-index c.args.k h c.requires.merging.freshes (weighted c.args.g.now.detectors c.args.g.now.edge_u.now c.args.g.now.edge_v.now ws) lit (labels c.args.g.now.detectors (parents c.loop-link.tree))) ∙ c.loop-link.invariant.2 ws lit),
      (λ y t. c.saturate-m.ensures.0.more y (c.loop-link.invariant.3 y t)),
      (λ cv. c.saturate-m.ensures.0.covers (c.loop-link.invariant.4 cv)),
      (λ ws ok few lit k. c.saturate-m.ensures.0.keeps ws ok few lit (c.loop-link.invariant.5 ws ok few lit k)),
      keep_then c.loop-link.invariant.6 c.saturate-m.ensures.1,
      keep_then c.loop-link.invariant.7 c.saturate-m.ensures.2,
      keep_then c.loop-link.invariant.8 c.saturate-m.ensures.3,
    )

pub returns : goal.returns
returns c =
    let q : c.loop-link.link-index ≡ c.args.k = omega (arith, length-take c.args.k c.args.links.now, column_length link_column 2 c.args.links.now, c.requires.merging.freshes) in (
      record {
        sat_is = sym (set_end (fresh c.args.links.now) c.args.k c.loop-link.sat) ∙ (rw q at c.loop-link.invariant.1);
        down = c.loop-link.invariant.0.down;
        labels_are = λ ws lit. sym (merge_end (fresh c.args.links.now) c.args.k (weighted c.args.g.now.detectors c.args.g.now.edge_u.now c.args.g.now.edge_v.now ws) lit (labels c.args.g.now.detectors (parents c.loop-link.tree))) ∙ (rw q at (c.loop-link.invariant.2 ws lit));
        lists = c.loop-link.invariant.0.lists;
        more = c.loop-link.invariant.3;
        covers = c.loop-link.invariant.4;
        keeps = c.loop-link.invariant.5;
      },
      c.loop-link.invariant.6,
      c.loop-link.invariant.7,
      c.loop-link.invariant.8,
    )
