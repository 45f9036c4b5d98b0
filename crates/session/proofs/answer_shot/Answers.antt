-- `session::answer_shot`: the shot on the parts of the tables that are in use.
use native.Mathlib.Omega.{arith}
use lib.ListN.{length-take}
use Rattle.session.proofs.Shots.{fits, by_full, by_decoded_lem, by_refused}
use Rattle.session.proofs.answer_shot.Goals as goal

pub returns-then-n-eq-MAX_SHOTS : goal.returns-then-n-eq-MAX_SHOTS
returns-then-n-eq-MAX_SHOTS c =
    by_full c.args.n c.args.state c.args.row.now c.args.truth.now c.args.edges.now c.if-n-eq-MAX_SHOTS.true c.args.out.now _ _ c.refuse.ensures

pub slice_bounds-shot_reply-end : goal.slice_bounds-shot_reply-end
slice_bounds-shot_reply-end c = omega (arith, (fits c.args.n c.args.state c.args.row.now c.args.truth.now c.args.edges.now c.requires.1).row, c.words-row_words.ensures)

pub slice_bounds-shot_reply-end-2 : goal.slice_bounds-shot_reply-end-2
slice_bounds-shot_reply-end-2 c = omega (arith, (fits c.args.n c.args.state c.args.row.now c.args.truth.now c.args.edges.now c.requires.1).truth, c.words-truth_words.ensures)

pub shot_reply-decoded-requires : goal.shot_reply-decoded-requires
shot_reply-decoded-requires c = (omega (arith, (fits c.args.n c.args.state c.args.row.now c.args.truth.now c.args.edges.now c.requires.1).truths, c.words-truth_words.ensures, length-take c.words-truth_words.result c.args.truth.now), c.requires.0)

pub returns-in-Err : goal.returns-in-Err
returns-in-Err c =
    by_refused c.args.n c.args.state c.args.row.now c.args.truth.now c.args.edges.now _ _ c.words-row_words.ensures c.words-truth_words.ensures c.if-n-eq-MAX_SHOTS.false c.args.out.now _ _ (rw c.in-Err.is at c.shot_reply-decoded.ensures) _ _ c.refuse-in-Err.ensures

pub returns-in-Ok : goal.returns-in-Ok
returns-in-Ok c =
    by_decoded_lem c.args.n c.args.state c.args.row.now c.args.truth.now c.args.edges.now _ _ c.words-row_words.ensures c.words-truth_words.ensures c.if-n-eq-MAX_SHOTS.false c.args.out.now _ _ (rw c.in-Ok.is at c.shot_reply-decoded.ensures) _ c.counted.ensures
