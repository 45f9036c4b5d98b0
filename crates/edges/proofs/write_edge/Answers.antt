-- `edges::write_edge` meets its contract: a store in each table, and the row as it is lent.
use mathlib.Core.Path.{refl, ap}
use lib.ListN.{set}
use Rattle.bits.specs.Rows.{words}
use Rattle.edges.proofs.Slices.{same_slices, put_is}
use Rattle.edges.proofs.write_edge.Goals as goal

pub returns-clause-written : goal.returns-clause-written
returns-clause-written c =
    same_slices refl refl (ap (set c.args.edges.now.edge_weight.now c.args.e) c.weight.ensures) (put_is c.args.e c.words-n.result (words c.args.observables) c.args.edges.now.edge_obs.now _ _ c.words-n.ensures c.write_row.ensures) refl
