-- The marker's part of demand 3, from its promise.
use Rattle.std.specs.Prelude.{Result, Ok, Err}
use Rattle.codes.specs.Order.{Checked}
use Prim.Native.Nat.{ℕ}
use mathlib.Core.Path.{◌≡◌, refl, sym, ap, ◌∙◌, subst}
use mathlib.Core.List.{List, ◌++◌}
use mathlib.Core.Bool.{Bool, true}
use lib.ListN.{length, take, drop}
use lib.Seq.{take-append_seam, drop-append_seam}
use Rattle.lists.proofs.Truth.{case-of}
use Rattle.bits.specs.Rows.{words}
use Rattle.codes.specs.declared.Refusal.{Refusal}
use Rattle.codes.specs.declared.Refusal.TheVariants as refusal
use Rattle.steps.specs.Graph.{Graph}
use Rattle.steps.specs.Rows.{row_of}
use Rattle.steps.specs.Marker.{Marked, pass, differs, unfit, fit}
use Rattle.steps.specs.Call.{graph_of, lit_of, row_marked}
use Rattle.steps.specs.Found.{Found, by_steps}
use Rattle.lent_graph.specs.Call.{Lent, graph_in}
use Rattle.marking.specs.declared.Marking.{Marking}
use Rattle.marking.specs.declared.Marking.TheVariants as marking
use Rattle.marking.specs.Answer.{marking_of}
use Rattle.marker.specs.Answer.{answer_of, row_after, mark_in}
use Rattle.demand3.specs.Stated.{Judges, MarkerStated}

-- ---- what an answer tells of the verdict

passes : (x : Marked) → Ok marking.Pass ≡ marking_of x → (row : List ℕ) × (x ≡ pass row)
passes (pass row) h = (row, refl)
passes (differs d) h = cc
passes unfit h = cc

differing : (x : Marked) (d : ℕ) → Ok (marking.Differs d) ≡ marking_of x → x ≡ differs d
differing (pass row) d h = cc
differing (differs e) d h = cc
differing unfit d h = cc

refusing : (x : Marked) → Err refusal.Edge ≡ marking_of x → x ≡ unfit
refusing (pass row) h = cc
refusing (differs e) h = cc
refusing unfit h = refl

-- ---- the row

-- a row written at the front of a slice
pub front : (row was : List ℕ) (n : ℕ) → length row ≡ n → (take n (row ++ drop (length row) was) ≡ row) × (drop n (row ++ drop (length row) was) ≡ drop n was)
front row was n h = subst (λ (k : ℕ). (take k (row ++ drop (length row) was) ≡ row) × (drop k (row ++ drop (length row) was) ≡ drop k was)) h (take-append_seam row (drop (length row) was), drop-append_seam row (drop (length row) was))

module _ (l : Lent) (shot list was : List ℕ) (f : Found by_steps (graph_in l) (lit_of l.detectors shot)) where
  abbrev g : Graph
  g = graph_in l

  abbrev lit : List Bool
  lit = lit_of l.detectors shot

  abbrev x : Marked
  x = mark_in l shot list

  -- a list that passes is fit
  fit_passed : (row : List ℕ) → x ≡ pass row → fit g list ≡ true
  fit_passed row h = case-of (fit g list) (λ t. t) (λ u. absurd (let p : unfit ≡ pass row = sym (f.refused list u) ∙ h in cc))

  -- the row of a list that passes
  pub passed_row : (row : List ℕ) → x ≡ pass row → row ≡ row_of g list
  passed_row row h = (f.judged list (fit_passed row h)).row row h

  judged : (m : Result Marking Refusal) (left : List ℕ) → m ≡ marking_of x → left ≡ row_marked was x → Judges l shot list was m left
  unfolding row_marked graph_of
  judged m left a b = record {
    exactly = (
      (λ p. let (row, e) = passes x (sym p ∙ a) in let t = fit_passed row e in (t, (f.judged list t).exactly.0 (row, e))),
      (λ q. let (row, e) = (f.judged list q.0).exactly.1 q.1 in a ∙ ap marking_of e),
    );
    row_is = λ p. let (row, e) = passes x (sym p ∙ a) in ap (λ (s : List ℕ). take (words l.observables) s) (b ∙ ap (row_marked was) e) ∙ (front row was (words l.observables) (size row e)).0 ∙ passed_row row e;
    past_row = by x refl;
    refused = (
      (λ p. let e = refusing x (sym p ∙ a) in case-of (fit g list) (λ t. absurd ((f.judged list t).taken e)) (λ u. u)),
      (λ u. a ∙ ap marking_of (f.refused list u)),
    );
    differs = λ d p.
        let e = differing x d (sym p ∙ a) in
        (f.judged list (case-of (fit g list) (λ t. t) (λ u. absurd (let q : unfit ≡ differs d = sym (f.refused list u) ∙ e in cc)))).wrong d e;
    untouched = λ n. same n x refl;
  }
    where
      size : (row : List ℕ) → x ≡ pass row → length row ≡ words l.observables
      size row e = ap length (passed_row row e) ∙ (f.xored list).size

      by : (y : Marked) → x ≡ y → drop (words l.observables) left ≡ drop (words l.observables) was
      by (pass row) e = ap (λ (s : List ℕ). drop (words l.observables) s) (b ∙ ap (row_marked was) e) ∙ (front row was (words l.observables) (size row e)).1
      by (differs d) e = ap (λ (s : List ℕ). drop (words l.observables) s) (b ∙ ap (row_marked was) e)
      by unfit e = ap (λ (s : List ℕ). drop (words l.observables) s) (b ∙ ap (row_marked was) e)

      same : (m ≡ Ok marking.Pass → ⊥) → (y : Marked) → x ≡ y → left ≡ was
      same n (pass row) e = absurd (n (a ∙ ap marking_of e))
      same n (differs d) e = b ∙ ap (row_marked was) e
      same n unfit e = b ∙ ap (row_marked was) e

-- ---- the statement

pub marker_stated : MarkerStated
marker_stated l shot width list row marks wrong m left k ok =
    judged l shot list row (k.found ok) m left
    (k.answers ∙ ap (λ (c : Checked). answer_of c (mark_in l shot list)) ok)
    (k.rows ∙ ap (λ (c : Checked). row_after c row (mark_in l shot list)) ok)
