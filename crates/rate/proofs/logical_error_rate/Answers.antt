-- `rate::logical_error_rate` meets its contract: a refusal leaves the output as it was; an accepted call is decoded, and its rows are compared.
use Rattle.std.specs.Prelude.{Ok}
use mathlib.Core.Path.{sym, ◌∙◌}
use lib.ListN.{length}
use Rattle.scratch.specs.Scratch.{lengths_in}
use Rattle.lent_graph.specs.Graph.{lent}
use Rattle.batch.specs.Batch.{handed}
use Rattle.batch.proofs.Calls.{own_is, by_width}
use Rattle.rate.specs.Rate.{compared}
use Rattle.rate.proofs.Calls.{checks_by, refused, batch_accepted, comparable, rated}
use Rattle.rate.proofs.logical_error_rate.Goals as goal

pub returns-in-Err-clause-rates : goal.returns-in-Err-clause-rates
returns-in-Err-clause-rates c =
    refused _ (checks_by _ c.own_long-long.result _ (own_is _ c.lengths-have.ensures c.own_long-long.ensures) (sym c.in-Err.is ∙ c.check_rate-checked.ensures))

pub decode_accepted-decoded-requires : goal.decode_accepted-decoded-requires
decode_accepted-decoded-requires c =
    let b = handed (lent c.args.g.now) c.args.rows.now c.args.shots c.args.width c.args.out.now (length c.args.list.now) (lengths_in c.args.s.now) in
    let k = compared b c.args.truth.now c.args.true_shots c.args.true_width in
    let yes = checks_by k c.own_long-long.result (Ok tt) (own_is b c.lengths-have.ensures c.own_long-long.ensures) (sym c.in_default.is ∙ c.check_rate-checked.ensures) in
    by_width b (batch_accepted k yes)

pub rate_answer-requires : goal.rate_answer-requires
rate_answer-requires c =
    let b = handed (lent c.args.g.now) c.args.rows.now c.args.shots c.args.width c.args.out.now (length c.args.list.now) (lengths_in c.args.s.now) in
    let k = compared b c.args.truth.now c.args.true_shots c.args.true_width in
    let yes = checks_by k c.own_long-long.result (Ok tt) (own_is b c.lengths-have.ensures c.own_long-long.ensures) (sym c.in_default.is ∙ c.check_rate-checked.ensures) in
    comparable k yes (c.decode_accepted-decoded.ensures.answers, c.decode_accepted-decoded.ensures.rows) c.decode_accepted-decoded.auto.out

pub returns-clause-rates : goal.returns-clause-rates
returns-clause-rates c =
    let b = handed (lent c.args.g.now) c.args.rows.now c.args.shots c.args.width c.args.out.now (length c.args.list.now) (lengths_in c.args.s.now) in
    let k = compared b c.args.truth.now c.args.true_shots c.args.true_width in
    let yes = checks_by k c.own_long-long.result (Ok tt) (own_is b c.lengths-have.ensures c.own_long-long.ensures) (sym c.in_default.is ∙ c.check_rate-checked.ensures) in
    rated k yes (c.decode_accepted-decoded.ensures.answers, c.decode_accepted-decoded.ensures.rows) c.rate_answer.ensures
