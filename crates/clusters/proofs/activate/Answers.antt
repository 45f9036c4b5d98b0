use mathlib.Core.Path.{refl, ◌∙◌}
use mathlib.Core.Bool.{true}
use mathlib.Core.List.{[], ◌∷◌}
use native.Mathlib.Omega.{arith}
use Rattle.columns.proofs.Columns.{column_at, column_length, keep_none, keep_more, map_set}
use Rattle.cells.specs.Tables.{flag_column, stack_column}
use Rattle.cells.proofs.Stores.{kept_known, kept_seen}
use Rattle.clusters.proofs.Laws.{activate_old, activate_new, activate_room}
use Rattle.clusters.proofs.activate.Goals as goal

pub bounds-stacks-n : goal.bounds-stacks-n
bounds-stacks-n c =
    omega (arith, activate_room c.requires.listed c.args.x c.requires.x_lt_d (column_at flag_column 1 c.args.flags.now c.args.x _ ∙ c.if-flags-i.false), column_length stack_column 1 c.args.stacks.now)

pub returns-then-flags-i : goal.returns-then-flags-i
returns-then-flags-i c =
    (activate_old c.requires.listed c.args.x c.requires.x_lt_d (column_at flag_column 1 c.args.flags.now c.args.x _ ∙ c.if-flags-i.true), keep_more (1 ∷ []) refl (keep_none c.args.flags.now), keep_more (1 ∷ []) refl (keep_none c.args.stacks.now))

pub returns : goal.returns
returns c =
    (rw (map_set, map_set) (activate_new c.requires.listed c.args.x c.requires.x_lt_d (column_at flag_column 1 c.args.flags.now c.args.x _ ∙ c.if-flags-i.false)), kept_known c.args.flags.now c.args.x true _, kept_seen c.args.stacks.now c.args.n c.args.x _)
