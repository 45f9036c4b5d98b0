use mathlib.Core.Path.{refl}
use mathlib.Core.List.{[], ◌∷◌}
use native.Mathlib.Omega.{arith}
use Rattle.columns.proofs.Columns.{keep_none, keep_then, keep_more}
use Rattle.cells.specs.Tables.{odds, exits}
use Rattle.clusters.proofs.Laws.{joined_lt, joined_gt, joined_eq}
use Rattle.clusters.proofs.union.Goals as goal

pub returns-then-x-y : goal.returns-then-x-y
returns-then-x-y c =
    let k = keep_then c.find-x.ensures.1 c.find-y.ensures.1 in
    (rw (c.link.ensures.0.parents, c.link.ensures.0.odds, c.link.ensures.0.exits, k.rest 1 refl) (joined_lt c.requires.joining.down c.requires.joining.first c.requires.joining.second c.find-x.ensures.0 c.find-y.ensures.0 (odds c.args.flags.now) (exits c.args.tree.now) c.if-x-y.true), keep_then (keep_more (0 ∷ 1 ∷ []) refl k) c.link.ensures.1, c.link.ensures.2)

pub returns-then-y-x : goal.returns-then-y-x
returns-then-y-x c =
    let k = keep_then c.find-x.ensures.1 c.find-y.ensures.1 in
    (rw (c.link-then-y-x.ensures.0.parents, c.link-then-y-x.ensures.0.odds, c.link-then-y-x.ensures.0.exits, k.rest 1 refl) (joined_gt c.requires.joining.down c.requires.joining.first c.requires.joining.second c.find-x.ensures.0 c.find-y.ensures.0 (odds c.args.flags.now) (exits c.args.tree.now) c.if-y-x.true), keep_then (keep_more (0 ∷ 1 ∷ []) refl k) c.link-then-y-x.ensures.1, c.link-then-y-x.ensures.2)

pub returns-else-y-x : goal.returns-else-y-x
returns-else-y-x c =
    let k = keep_then c.find-x.ensures.1 c.find-y.ensures.1 in
    (rw (k.rest 1 refl) (joined_eq c.requires.joining.down c.requires.joining.first c.requires.joining.second c.find-x.ensures.0 c.find-y.ensures.0 (odds c.args.flags.now) (exits c.args.tree.now) (omega arith)), keep_more (0 ∷ 1 ∷ []) refl k, keep_more (2 ∷ []) refl (keep_none c.args.flags.now))
