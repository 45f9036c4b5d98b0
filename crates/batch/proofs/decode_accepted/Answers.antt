-- `batch::decode_accepted` meets its contract: the edges at each detector are worked out, and the shots decoded over them.
use mathlib.Core.Path.{refl, sym}
use native.Mathlib.Omega.{arith}
use lib.ListN.{length}
use Rattle.scratch.specs.Scratch.{lengths_in}
use Rattle.lent_graph.specs.Graph.{lent}
use Rattle.own_slices.proofs.Laws.{to_tabulate, longer}
use Rattle.batch.specs.Batch.{handed}
use Rattle.batch.proofs.Calls.{accepts, scratch, given_rows}
use Rattle.batch.proofs.decode_accepted.Goals as goal

pub tabulate-requires : goal.tabulate-requires
tabulate-requires c =
    let h = handed (lent c.args.g.now) c.args.rows.now c.args.shots c.args.g.now.detectors c.args.out.now (length c.args.list.now) (lengths_in c.args.s.now) in
    let s = scratch h (sym c.requires) in
    to_tabulate (accepts h (sym c.requires)) c.args.s.now.adj_offsets.now c.args.s.now.adj.now s.adj_offsets s.adj

pub reset_and_decode_rows-requires : goal.reset_and_decode_rows-requires
reset_and_decode_rows-requires c =
    let h = handed (lent c.args.g.now) c.args.rows.now c.args.shots c.args.g.now.detectors c.args.out.now (length c.args.list.now) (lengths_in c.args.s.now) in
    let s = scratch h (sym c.requires) in record {
      longer = longer (accepts h (sym c.requires)) c.tabulate.new.adj_offsets c.tabulate.new.adj (omega (arith, s.adj_offsets, c.tabulate.auto.adj_offsets)) c.tabulate.ensures;
      given_rows = given_rows h (sym c.requires) c.args.list.now refl;
      spaces = record { trees = s.tree; flagged = s.flags; growths = s.growth; sats = s.sat };
      detectors_in_bounds = (s.stacks, s.links);
    }
