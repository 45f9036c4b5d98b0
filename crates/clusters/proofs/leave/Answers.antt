use mathlib.Core.Path.{refl, ◌∙◌}
use mathlib.Core.List.{[], ◌∷◌}
use Rattle.columns.proofs.Columns.{column_at, keep_then, keep_more, map_set}
use Rattle.cells.specs.Tables.{node_column}
use Rattle.cells.proofs.Stores.{kept_exit}
use Rattle.clusters.proofs.leave.Goals as goal

pub returns : goal.returns
returns c =
    let k = kept_exit c.find-r.new.tree c.find-r.result c.min.result _ in (
      rw (k.rest 0 refl) (record {
        down = c.find-r.ensures.0.down;
        labels_are = c.find-r.ensures.0.kept;
        exit_is = map_set _ c.find-r.new.tree c.find-r.result _ ∙ rw (c.min.ensures, ← c.find-r.ensures.1.rest 1 refl, ← column_at node_column 1 c.find-r.new.tree c.find-r.result _, ← c.find-r.ensures.0.is);
      }),
      keep_then (keep_more (0 ∷ 1 ∷ []) refl c.find-r.ensures.1) (keep_more (0 ∷ 1 ∷ []) refl k),
    )
