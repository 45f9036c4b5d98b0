-- `batch_rows::decode_rows` meets its contract. The invariant: the answer and the rows from the next shot on are the whole answer and all rows, and the tables are at rest.
use Prim.Native.Nat.{◌-◌}
use mathlib.Core.Path.{◌≡◌}
use lib.ListN.{length}
use Rattle.lists.specs.Lists.{from, below}
use Rattle.cells.specs.Lent.{SameSlices}
use Rattle.lent_graph.specs.Graph.{whole_graph}
use Rattle.batch_rows.specs.Ready.{ReadyIn}
use Rattle.batch_rows.specs.Rows.{check_shots_of, rows_of}
use Rattle.batch_rows.proofs.decode_rows.Given as goal

abbrev pub invariant-loop-shot : goal.invariant-loop-shot
invariant-loop-shot l = (check_shots_of (whole_graph l.g) l.rows (from (l.shots - l.shot) l.shot) ≡ check_shots_of (whole_graph l.g) l.rows (below l.shots))
    × (rows_of (whole_graph l.g) l.rows (from (l.shots - l.shot) l.shot) l.out ≡ rows_of (whole_graph l.g) l.rows (below l.shots) l.initial.out)
    × ReadyIn l.g l.t
    × (length l.out ≡ length l.initial.out)
    × (length l.list ≡ length l.initial.list)
    × SameSlices l.initial.t l.t
