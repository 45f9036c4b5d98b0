-- `decoder::decode_shot` meets its contract: a refusal and a blank shot leave all as it was, and another shot is decoded over the edges at each detector.
use Rattle.std.specs.Prelude.{Ok, Err}
use mathlib.Core.Path.{sym, ◌∙◌}
use native.Mathlib.Omega.{arith}
use Rattle.std.proofs.lemmas.Result.{err_from_is_err_and}
use Rattle.scratch.specs.Scratch.{lengths_in}
use Rattle.lent_graph.specs.Graph.{lent}
use Rattle.own_slices.proofs.Laws.{to_tabulate, longer}
use Rattle.decoder.specs.Answer.{handed}
use Rattle.decoder.proofs.Laws.{own, given}
use Rattle.decoder.proofs.Answered.{own_is, checked, accepts, refused, blanked, decodes}
use Rattle.decoder.proofs.decode_shot.Goals as goal

pub returns-in_err-check_call-clause-decodes : goal.returns-in_err-check_call-clause-decodes
returns-in_err-check_call-clause-decodes c =
    let h = handed (lent c.args.g.now) c.args.shot.now c.args.width c.args.row.now c.args.list.now (lengths_in c.args.s.now) in
    let no = checked h c.own_long-long.result (Err c.in_err-check_call.field-0.0) (own_is h c.lengths-have.ensures c.own_long-long.ensures) c.in_err-check_call.ensures in
    let e = err_from_is_err_and c.from_residual.result c.from_residual.ensures.1 in
    rw (e.1, e.2) (refused h c.in_err-check_call.field-0.0 no)

pub returns-then-is_blank-clause-decodes : goal.returns-then-is_blank-clause-decodes
returns-then-is_blank-clause-decodes c =
    let h = handed (lent c.args.g.now) c.args.shot.now c.args.width c.args.row.now c.args.list.now (lengths_in c.args.s.now) in
    let yes = checked h c.own_long-long.result (Ok tt) (own_is h c.lengths-have.ensures c.own_long-long.ensures) c.in_ok-check_call.ensures in
    blanked h yes (sym c.is_blank.ensures ∙ c.if-is_blank.true)

pub tabulate-requires : goal.tabulate-requires
tabulate-requires c =
    let h = handed (lent c.args.g.now) c.args.shot.now c.args.width c.args.row.now c.args.list.now (lengths_in c.args.s.now) in
    let yes = checked h c.own_long-long.result (Ok tt) (own_is h c.lengths-have.ensures c.own_long-long.ensures) c.in_ok-check_call.ensures in
    let k = accepts h yes in
    let o = own h k.own_long in
    to_tabulate k c.args.s.now.adj_offsets.now c.args.s.now.adj.now o.2.adj_offsets o.2.adj

pub reset_and_decode-requires : goal.reset_and_decode-requires
reset_and_decode-requires c =
    let h = handed (lent c.args.g.now) c.args.shot.now c.args.width c.args.row.now c.args.list.now (lengths_in c.args.s.now) in
    let yes = checked h c.own_long-long.result (Ok tt) (own_is h c.lengths-have.ensures c.own_long-long.ensures) c.in_ok-check_call.ensures in
    let k = accepts h yes in
    let o = own h k.own_long in record {
      longer = longer k c.tabulate.new.adj_offsets c.tabulate.new.adj (omega (arith, o.2.adj_offsets, c.tabulate.auto.adj_offsets)) c.tabulate.ensures;
      given = given k c.args.row.now c.args.list.now o.0 o.1;
      spaces = record { trees = o.2.tree; flagged = o.2.flags; growths = o.2.growth; sats = o.2.sat };
      detectors_in_bounds = (o.2.stacks, o.2.links);
    }

pub returns-clause-decodes : goal.returns-clause-decodes
returns-clause-decodes c =
    let h = handed (lent c.args.g.now) c.args.shot.now c.args.width c.args.row.now c.args.list.now (lengths_in c.args.s.now) in
    let yes = checked h c.own_long-long.result (Ok tt) (own_is h c.lengths-have.ensures c.own_long-long.ensures) c.in_ok-check_call.ensures in
    decodes h yes c.reset_and_decode.ensures.answers c.reset_and_decode.ensures.lists c.reset_and_decode.ensures.rows
