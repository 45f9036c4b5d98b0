-- `shot_reply::write_shot`: one line, and the other past it.
use Prim.Native.Nat.{ℕ, ◌+◌, ◌-◌}
use mathlib.Core.Path.{sym, ap, ◌∙◌}
use native.Mathlib.Omega.{arith}
use lib.ListN.{length, length-append}
use Rattle.replies.specs.Replies.{line_of, row_reply, list_reply}
use Rattle.shot_reply.specs.Outcome.{shot_text}
use Rattle.shot_reply.proofs.Texts.{two_lines, row_long, list_long}
use Rattle.shot_reply.proofs.write_shot.Goals as goal

pub slice_bounds-write_list-count : goal.slice_bounds-write_list-count
slice_bounds-write_list-count c = omega (arith, c.write_row-n.ensures.0, (row_long c.args.row.now), c.write_row-n.auto.out)

pub slice_bounds-write_list-start : goal.slice_bounds-write_list-start
slice_bounds-write_list-start c = omega (arith, c.write_row-n.ensures.0, (row_long c.args.row.now), c.write_row-n.auto.out)

pub write_list-requires : goal.write_list-requires
write_list-requires c = omega (arith, c.write_row-n.ensures.0, (row_long c.args.row.now), c.write_row-n.auto.out)

pub overflow_add-result : goal.overflow_add-result
overflow_add-result c = omega (arith, c.write_row-n.ensures.0, (row_long c.args.row.now), c.write_list.ensures.0, list_long c.args.list.now)

pub returns : goal.returns
unfolding shot_text
returns c = (
  ap (λ (k : ℕ). k + c.write_list.result) c.write_row-n.ensures.0 ∙ ap (λ (k : ℕ). length (line_of (row_reply c.args.row.now)) + k) c.write_list.ensures.0 ∙ sym (length-append (line_of (row_reply c.args.row.now)) (line_of (list_reply c.args.list.now))),
  two_lines (line_of (row_reply c.args.row.now)) (line_of (list_reply c.args.list.now)) c.args.out.now _ _ _ c.write_row-n.ensures.0 c.write_row-n.ensures.1 c.write_list.ensures.1,
)
