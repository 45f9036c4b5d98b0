-- `peeling::close` meets its contract. Assumes nothing.
use mathlib.Core.Path.{◌∙◌}
use mathlib.Core.Bool.{false}
use Rattle.columns.proofs.Columns.{map_set}
use Rattle.cells.specs.Tables.{lits}
use Rattle.cells.proofs.Stores.{kept_lit, read_lit}
use Rattle.peeling.proofs.Unwinding.{close_lit}
use Rattle.peeling.proofs.close.Goals as goal

pub returns-clause-closed : goal.returns-clause-closed
returns-clause-closed c =
    rw map_set (close_lit c.args.e c.args.s (lits c.args.flags.now) c.args.list.now c.args.listed c.if-e-eq-BOUNDARY.false (read_lit c.args.flags.now c.args.s ∙ c.if-not-flags-i.false) c.requires.1)

pub returns-clause-same_flags : goal.returns-clause-same_flags
returns-clause-same_flags c = kept_lit c.args.flags.now c.args.s false _
