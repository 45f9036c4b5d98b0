-- `shot_reply::decode_told`: the three answers of the decoder.
use Rattle.std.proofs.lemmas.Result.{err_from_is_err_and}
use Rattle.lent_graph.specs.Graph.{lent}
use Rattle.shot_reply.specs.Outcome.{handed_for}
use Rattle.shot_reply.proofs.Outcomes.{told_refused, told_stuck, told_list, list_long}
use Rattle.shot_reply.proofs.decode_told.Goals as goal

pub returns-in_err-found : goal.returns-in_err-found
returns-in_err-found c =
    let e = err_from_is_err_and c.from_residual.result c.from_residual.ensures.1 in
    rw (e.1, e.2) (told_refused (handed_for (lent c.args.g.now) c.args.shot.now c.args.row.now c.args.list.now) c.args.truth.now c.args.out.now _ _ _ c.in_err-found.ensures)

pub slice_bounds-tell-end : goal.slice_bounds-tell-end
slice_bounds-tell-end c =
    list_long (handed_for (lent c.args.g.now) c.args.shot.now c.args.row.now c.args.list.now) c.args.truth.now c.args.out.now _ _ _ _ (rw c.in-Decoded.is at c.in_ok-found.ensures)

pub returns-in-Stuck : goal.returns-in-Stuck
returns-in-Stuck c =
    told_stuck (handed_for (lent c.args.g.now) c.args.shot.now c.args.row.now c.args.list.now) c.args.truth.now c.args.out.now _ _ _ _ (rw c.in-Stuck.is at c.in_ok-found.ensures)

pub returns-in-Decoded : goal.returns-in-Decoded
returns-in-Decoded c =
    told_list (handed_for (lent c.args.g.now) c.args.shot.now c.args.row.now c.args.list.now) c.args.truth.now c.args.out.now _ _ _ _ (rw c.in-Decoded.is at c.in_ok-found.ensures) _ _ c.tell.ensures
