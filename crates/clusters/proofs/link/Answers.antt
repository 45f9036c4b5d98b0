use mathlib.Core.Path.{refl, ◌∙◌}
use mathlib.Core.Bool.{xor}
use mathlib.Core.List.{[], ◌∷◌}
use lib.ListN.{set}
use Rattle.columns.proofs.Columns.{column_at, keep_then, keep_more, map_set}
use Rattle.cells.specs.Tables.{node_column, flag_column}
use Rattle.cells.proofs.Stores.{kept_parent, kept_exit, kept_odd}
use Rattle.clusters.proofs.link.Goals as goal

pub returns : goal.returns
unfolding xor
returns c =
    let up = kept_parent c.args.tree.now c.args.hi c.args.lo _ in
    let out = kept_exit (set c.args.tree.now c.args.hi _) c.args.lo c.min.result _ in (
      record {
        parents = out.rest 0 refl ∙ map_set _ c.args.tree.now c.args.hi _;
        odds = map_set _ c.args.flags.now c.args.lo _ ∙ rw (← column_at flag_column 2 c.args.flags.now c.args.lo _, ← column_at flag_column 2 c.args.flags.now c.args.hi _);
        exits = map_set _ (set c.args.tree.now c.args.hi _) c.args.lo _ ∙ rw (c.min.ensures, ← column_at node_column 1 (set c.args.tree.now c.args.hi _) c.args.lo _, ← column_at node_column 1 (set c.args.tree.now c.args.hi _) c.args.hi _, up.rest 1 refl);
      },
      keep_then (keep_more (0 ∷ 1 ∷ []) refl up) (keep_more (0 ∷ 1 ∷ []) refl out),
      kept_odd c.args.flags.now c.args.lo _ _,
    )
