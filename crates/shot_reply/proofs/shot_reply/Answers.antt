-- `shot_reply::shot_reply`: both packings, then the shot.
use Rattle.std.proofs.lemmas.Result.{err_from_is_err_and}
use Rattle.shot_reply.proofs.Outcomes.{row_refused, truth_refused, both_packed}
use Rattle.shot_reply.proofs.shot_reply.Goals as goal

pub returns-in_err-try_from_shot_major : goal.returns-in_err-try_from_shot_major
returns-in_err-try_from_shot_major c =
    let p = err_from_is_err_and c.from_residual.result c.from_residual.ensures.1 in
    rw (p.1, p.2) (row_refused c.args.g.now c.args.shot.now c.args.truth.now c.args.out.now _ c.in_err-try_from_shot_major.ensures)

pub returns-in_err-try_from_shot_major-2 : goal.returns-in_err-try_from_shot_major-2
returns-in_err-try_from_shot_major-2 c =
    let r = c.from_residual-in_err-try_from_shot_major-2 in
    let p = err_from_is_err_and r.result r.ensures.1 in
    rw (p.1, p.2) (truth_refused c.args.g.now c.args.shot.now c.args.truth.now c.args.out.now _ _ c.in_ok-try_from_shot_major.ensures c.in_err-try_from_shot_major-2.ensures)

pub returns : goal.returns
returns c =
    both_packed c.args.g.now c.args.shot.now c.args.truth.now c.args.out.now _ _ c.in_ok-try_from_shot_major.ensures c.in_ok-try_from_shot_major-2.ensures c.requires.0 _ _ c.decode_told.ensures
