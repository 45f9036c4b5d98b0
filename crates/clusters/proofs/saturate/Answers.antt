use mathlib.Core.Path.{refl, ◌∙◌}
use mathlib.Core.List.{[], ◌∷◌}
use native.Mathlib.Omega.{arith}
use Rattle.columns.proofs.Columns.{keep_then, keep_more, keep_length}
use Rattle.cells.specs.Tables.{parents, exits, odds, knowns}
use Rattle.adjacency.proofs.Laws.{u_in, v_in}
use Rattle.clusters.proofs.Laws.{saturate_single, saturate_pair}
use Rattle.clusters.proofs.saturate.Goals as goal

pub returns-then-b : goal.returns-then-b
returns-then-b c =
    (rw (c.activate-m.ensures.1.rest 2 refl) (saturate_single c.args.g.now.detectors c.args.g.now.edge_u.now c.args.g.now.edge_v.now c.requires.ready.ends c.args.e c.requires.e_in_bounds c.args.sat.now (knowns c.args.flags.now) (omega arith) (parents c.args.tree.now) c.requires.ready.down (odds c.args.flags.now) (exits c.args.tree.now) _ _ _ c.activate-m.ensures.0 c.if-b.true _ _ c.leave.ensures.0), c.leave.ensures.1, keep_more (1 ∷ 2 ∷ []) refl c.activate-m.ensures.1, c.activate-m.ensures.2)

pub activate-k-requires-clause-x_lt_d : goal.activate-k-requires-clause-x_lt_d
activate-k-requires-clause-x_lt_d c = (v_in c.args.g.now.detectors c.args.g.now.edge_u.now c.args.g.now.edge_v.now c.requires.ready.ends c.args.e c.requires.e_in_bounds c.if-b.false).1

pub union-requires : goal.union-requires
union-requires c =
    record {
      joining = record {
        down = c.requires.ready.down;
        odds = keep_length (keep_then c.activate-m.ensures.1 c.activate-k.ensures.1) 2 ∙ c.requires.ready.odds;
        exits = c.requires.ready.exits;
        small = omega (arith, c.requires.ready.ends.small);
        first = u_in c.args.g.now.detectors c.args.g.now.edge_u.now c.args.g.now.edge_v.now c.requires.ready.ends c.args.e c.requires.e_in_bounds;
        second = (v_in c.args.g.now.detectors c.args.g.now.edge_u.now c.args.g.now.edge_v.now c.requires.ready.ends c.args.e c.requires.e_in_bounds c.if-b.false).1;
      };
    }

pub returns : goal.returns
returns c =
    let k = keep_then c.activate-m.ensures.1 c.activate-k.ensures.1 in
    (rw (c.union.ensures.2.rest 1 refl) (saturate_pair c.args.g.now.detectors c.args.g.now.edge_u.now c.args.g.now.edge_v.now c.requires.ready.ends c.args.e c.requires.e_in_bounds c.args.sat.now (knowns c.args.flags.now) (omega arith) (parents c.args.tree.now) c.requires.ready.down (odds c.args.flags.now) (exits c.args.tree.now) _ _ _ c.activate-m.ensures.0 c.if-b.false _ _ _ c.activate-k.ensures.0 _ _ _ (rw (k.rest 2 refl) at c.union.ensures.0)), c.union.ensures.1, keep_then (keep_more (1 ∷ 2 ∷ []) refl k) (keep_more (1 ∷ 2 ∷ []) refl c.union.ensures.2), keep_then c.activate-m.ensures.2 c.activate-k.ensures.2)
