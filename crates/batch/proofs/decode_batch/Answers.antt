-- `batch::decode_batch` meets its contract: a refusal leaves the output as it was, and an accepted call is decoded.
use Rattle.std.specs.Prelude.{Ok, Err}
use lib.ListN.{length}
use Rattle.std.proofs.lemmas.Result.{err_from_is_err_and}
use Rattle.scratch.specs.Scratch.{lengths_in}
use Rattle.lent_graph.specs.Graph.{lent}
use Rattle.batch.specs.Batch.{handed}
use Rattle.batch.proofs.Calls.{own_is, checks_by, refused, by_width, decoded}
use Rattle.batch.proofs.decode_batch.Goals as goal

pub returns-in_err-check_call-clause-decodes : goal.returns-in_err-check_call-clause-decodes
returns-in_err-check_call-clause-decodes c =
    let h = handed (lent c.args.g.now) c.args.rows.now c.args.shots c.args.width c.args.out.now (length c.args.list.now) (lengths_in c.args.s.now) in
    let no = checks_by h c.own_long-long.result (Err c.in_err-check_call.field-0.0) (own_is h c.lengths-have.ensures c.own_long-long.ensures) c.in_err-check_call.ensures in
    let e = err_from_is_err_and c.from_residual.result c.from_residual.ensures.1 in
    rw (e.1, e.2) (refused h no)

pub decode_accepted-requires : goal.decode_accepted-requires
decode_accepted-requires c =
    let h = handed (lent c.args.g.now) c.args.rows.now c.args.shots c.args.width c.args.out.now (length c.args.list.now) (lengths_in c.args.s.now) in
    by_width h (checks_by h c.own_long-long.result (Ok tt) (own_is h c.lengths-have.ensures c.own_long-long.ensures) c.in_ok-check_call.ensures)

pub returns-clause-decodes : goal.returns-clause-decodes
returns-clause-decodes c =
    let h = handed (lent c.args.g.now) c.args.rows.now c.args.shots c.args.width c.args.out.now (length c.args.list.now) (lengths_in c.args.s.now) in
    let yes = checks_by h c.own_long-long.result (Ok tt) (own_is h c.lengths-have.ensures c.own_long-long.ensures) c.in_ok-check_call.ensures in
    decoded h yes (c.decode_accepted.ensures.answers, c.decode_accepted.ensures.rows)
