-- `marker::mark` meets its contract: the check's refusal, or the judge's answer on sub-slices that are as long as the counts need.
use Rattle.std.specs.Prelude.{Ok}
use Rattle.std.proofs.lemmas.Result.{err_from_is_err_and}
use mathlib.Core.Path.{ap}
use native.Mathlib.Omega.{arith}
use Rattle.marking.specs.declared.Marking.{Marking}
use Rattle.lent_graph.specs.Graph.{lent}
use Rattle.marker.proofs.Marks.{Accepted, accepted_by, rooms, ready, untouched, in_table, written}
use Rattle.marker.proofs.mark.Goals as goal
use Rattle.marker.proofs.mark.Goals.{In_ok-check_call}

ok : (c : In_ok-check_call) → Accepted (lent c.args.g.now) c.args.row.now c.args.marks.now c.args.wrong.now c.args.shot.now c.args.width
ok c = accepted_by _ _ _ _ _ _ c.long-enough.result c.long-enough.ensures c.in_ok-check_call.ensures

pub slice_bounds-judge-end : goal.slice_bounds-judge-end
slice_bounds-judge-end c = omega (arith, c.words-m.ensures, (rooms _ _ _ _ _ _ (ok (goal.at.slice_bounds-judge-end c).In_ok-check_call)).1)

pub slice_bounds-judge-end-2 : goal.slice_bounds-judge-end-2
slice_bounds-judge-end-2 c = omega (arith, c.words-n.ensures, (rooms _ _ _ _ _ _ (ok (goal.at.slice_bounds-judge-end-2 c).In_ok-check_call)).2)

pub judge-requires : goal.judge-requires
judge-requires c = ready _ _ _ _ _ _ (ok (goal.at.judge-requires c).In_ok-check_call) _ _ c.words-m.ensures c.words-n.ensures

pub returns-in_err-judged : goal.returns-in_err-judged
returns-in_err-judged c =
    let p = err_from_is_err_and c.from_residual-in_err-judged.result c.from_residual-in_err-judged.ensures.1 in
    rw (p.1, p.2) (untouched _ _ _ _ _ _ (ok (goal.at.returns-in_err-judged c).In_ok-check_call) c.args.list.now _ c.in_err-judged.ensures (λ h. cc))

pub slice_bounds-write_row-end : goal.slice_bounds-write_row-end
slice_bounds-write_row-end c = omega (arith, c.words-w.ensures, (rooms _ _ _ _ _ _ (ok (goal.at.slice_bounds-write_row-end c).In_ok-check_call)).0)

pub write_row-requires : goal.write_row-requires
write_row-requires c =
    in_table _ _ _ _ _ _ (ok (goal.at.write_row-requires c).In_ok-check_call) c.args.list.now _ c.in_ok-judged.ensures (ap (λ (m : Marking). Ok m) c.in-Pass.is) _ c.words-w.ensures

pub returns-in-Pass : goal.returns-in-Pass
returns-in-Pass c =
    written _ _ _ _ _ _ (ok (goal.at.returns-in-Pass c).In_ok-check_call) c.args.list.now _ c.in_ok-judged.ensures (ap (λ (m : Marking). Ok m) c.in-Pass.is) _ c.words-w.ensures _ c.write_row.ensures

pub returns-in_default : goal.returns-in_default
returns-in_default c =
    untouched _ _ _ _ _ _ (ok (goal.at.returns-in_default c).In_ok-check_call) c.args.list.now _ c.in_ok-judged.ensures (λ h. c.in_default.not-Pass (cc))
