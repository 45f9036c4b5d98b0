-- The marker's answer and the row that it leaves: docs/RULES.md, "Marking" and "Refusals".
use Rattle.codes.specs.Order.{Checked}
use Rattle.std.specs.Prelude.{ℕ, ◌≡◌, List, Bool, ◌&&◌, leb, length, Result, Ok, Err}
use Rattle.bits.specs.Rows.{words}
use Rattle.codes.specs.Codes.{Sheet, refusal_row}
use Rattle.codes.specs.declared.Refusal.{Refusal}
use Rattle.steps.specs.Marker.{Marked, mark}
use Rattle.steps.specs.Call.{lit_of, row_marked}
use Rattle.steps.specs.Found.{by_steps, Found}
use Rattle.lent_graph.specs.Call.{Lent, graph_in, check_call}
use Rattle.marking.specs.declared.Marking.{Marking}
use Rattle.marking.specs.Answer.{sheet_of, marked_row, marking_of}

-- D, O, edges, and as many words of row, of marks and of wrong detectors: each is as long as the counts need
unfoldable pub marker_long : ℕ → ℕ → ℕ → ℕ → ℕ → ℕ → Bool
unfolding words
marker_long d o edges row marks wrong = leb (words o) row && (leb (words edges) marks && leb (words d) wrong)

-- what a call of the marker checks, of one shot: the graph, 8, 9, 10
abbrev pub check_mark : Lent → List ℕ → List ℕ → List ℕ → List ℕ → ℕ → Checked
check_mark l row marks wrong shot width = check_call l (marker_long l.detectors l.observables l.edges (length row) (length marks) (length wrong)) shot 1 width

-- the marker on a lent graph, a shot and a list
abbrev pub mark_in : Lent → List ℕ → List ℕ → Marked
mark_in l shot list = mark (graph_in l) (lit_of l.detectors shot) list

-- on the sheet: the first refusal of the check, else what the marker comes to
abbrev pub call_row : Checked → Marked → Sheet
call_row (Ok tt) m = marked_row m
call_row (Err r) m = refusal_row r

-- a refusal of the check is the answer, else it is the marker's
abbrev pub answer_of : Checked → Marked → Result Marking Refusal
answer_of (Ok tt) m = marking_of m
answer_of (Err r) m = Err r

-- the row after a refusal is as it was, else as the marker leaves it
abbrev pub row_after : Checked → List ℕ → Marked → List ℕ
row_after (Ok tt) was m = row_marked was m
row_after (Err r) was m = was

-- all that the call promises of a lent graph, a shot and its width, a list, and the slices row, marks and wrong: its answer, every word of the row, and demand 3 of the graph and the shot that it was handed. What marks and wrong hold after it is free.
pub record Marks (l : Lent) (shot : List ℕ) (width : ℕ) (list row marks wrong : List ℕ) (r : Result Marking Refusal) (left : List ℕ) : Type 0 where
  pub sheet : sheet_of r ≡ call_row (check_mark l row marks wrong shot width) (mark_in l shot list)
  pub answers : r ≡ answer_of (check_mark l row marks wrong shot width) (mark_in l shot list)
  pub rows : left ≡ row_after (check_mark l row marks wrong shot width) row (mark_in l shot list)
  pub found : check_mark l row marks wrong shot width ≡ Ok tt → Found by_steps (graph_in l) (lit_of l.detectors shot)
