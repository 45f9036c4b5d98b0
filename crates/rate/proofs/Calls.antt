-- What the call answers and leaves, by its checks, by the shots decoded and by the failures counted.
use Rattle.std.specs.Prelude.{Ok, Err}
use Rattle.failures.specs.declared.ErrorRate.{ErrorRate}
use Rattle.failures.specs.declared.ErrorRate.TheVariants as error_rate
use Prim.Native.Nat.{ℕ, ◌<◌}
use native.Mathlib.Omega.{arith}
use mathlib.Core.Path.{◌≡◌, refl, sym, ap, ◌∙◌}
use mathlib.Core.List.{List}
use mathlib.Core.Bool.{Bool, true}
use lib.Ieee.{Float}
use lib.ListN.{length}
use Rattle.lists.specs.Lists.{below}
use Rattle.lists.proofs.Members.{member_below}
use Rattle.lists.proofs.Filters.{filter_in}
use Rattle.bits.specs.Rows.{words, is_clear}
use Rattle.codes.specs.declared.Refusal.{Refusal}
use Rattle.codes.specs.Order.{Checked, and_then}
use Rattle.packed.specs.Packed.{row_at}
use Rattle.packed.specs.Laws.{Sound}
use Rattle.packed.proofs.Laws.{accepted_sound}
use Rattle.steps.specs.Call.{graph_of}
use Rattle.batch_rows.specs.Row.{shot_at, row_for}
use Rattle.batch_rows.specs.Rows.{check_shots_of, rows_of}
use Rattle.batch_rows.proofs.Laws.{row_alone}
use Rattle.batch.specs.Batch as batch
use Rattle.batch.specs.Batch.{own_long}
use Rattle.batch.proofs.Calls.{accepts, rows_long}
use Rattle.failures.specs.Failures.{differs, failures_in, rate_of, sheet_of, call_row, answer_of, Comparable}
use Rattle.rate.specs.Checks.{check_rate}
use Rattle.rate.proofs.Accepts.{Passed, rate_accepted}
use Rattle.rate.specs.Rate.{Compared, graph_of_call, checks, shape, failed, failures, outcome, Rates}
use Rattle.rate.proofs.Clear.{left_clear}

-- where decoding refuses, no rate is looked at
same_answer : (decoded then : Checked) {x y : Float} → (decoded ≡ Ok tt → x ≡ y) → answer_of (and_then decoded then) x ≡ answer_of (and_then decoded then) y
same_answer (Ok tt) then f = ap (answer_of then) (f refl)
same_answer (Err r) then f = refl

-- the answer on the sheet
on_sheet : (c : Checked) (rate : Float) → sheet_of (answer_of c rate) ≡ call_row c rate
on_sheet (Err r) rate = refl
on_sheet (Ok tt) rate = refl

module _ (c : Compared) where
  abbrev O : ℕ
  O = c.batch.graph.observables

  abbrev Shots : ℕ
  Shots = c.batch.shots

  -- the check of the call is the one that was made
  pub checks_by : (long : Bool) (r : Checked) → long ≡ own_long c.batch
      → r ≡ check_rate c.batch.graph long c.batch.rows c.batch.shots c.batch.width c.truth c.true_shots c.true_width → r ≡ checks c
  unfolding checks
  checks_by long r p q = q ∙ ap (λ (b : Bool). check_rate c.batch.graph b c.batch.rows c.batch.shots c.batch.width c.truth c.true_shots c.true_width) p

  pub refused : {r : Refusal} → Err r ≡ checks c → Rates c (error_rate.Refused r) c.batch.out
  refused e = record { sheet = rw (sym e) refl; answers = rw (sym e) refl; rows = rw (sym e) refl }

  module _ (a : (Ok tt) ≡ checks c) where
    pub passed : Passed c.batch.graph (own_long c.batch) c.batch.rows c.batch.shots c.batch.width c.truth c.true_shots c.true_width
    unfolding checks
    passed = rate_accepted c.batch.graph (own_long c.batch) c.batch.rows c.batch.shots c.batch.width c.truth c.true_shots c.true_width (sym a)

    -- a batch of the same shots is accepted
    pub batch_accepted : (Ok tt) ≡ batch.checks c.batch
    unfolding batch.checks
    batch_accepted = sym passed.call

    -- what decoding came to, and the rows that it left
    module _ {decoded : Checked} {out : List ℕ} (k : (decoded ≡ check_shots_of (graph_of_call c) c.batch.rows (below c.batch.shots)) × (out ≡ rows_of (graph_of_call c) c.batch.rows (below c.batch.shots) c.batch.out)) where
      done : decoded ≡ Ok tt → (s : ℕ) → s < Shots → row_at (words O) out s ≡ row_for (graph_of_call c) c.batch.rows s
      unfolding graph_of
      done d s l = ap (λ (t : List ℕ). row_at (words O) t s) k.1 ∙ (row_alone (graph_of_call c) c.batch.rows Shots c.batch.out (rows_long c.batch batch_accepted) (sym k.0 ∙ d)).row s l

      done_clear : (s : ℕ) → is_clear O (row_for (graph_of_call c) c.batch.rows s) ≡ true
      unfolding graph_of
      done_clear s = left_clear (graph_of_call c) (accepts c.batch batch_accepted).graph (shot_at (graph_of_call c) c.batch.rows s)

      pub comparable : length out ≡ length c.batch.out → decoded ≡ Ok tt → c.true_shots ≡ c.batch.shots → c.true_width ≡ c.batch.graph.observables → Comparable c.batch.graph.observables c.batch.shots out c.truth
      comparable e d p q =
          let t : Sound c.truth Shots O = rw (p, q) at (accepted_sound c.truth c.true_shots c.true_width passed.packing) in
          record {
            few = t.few;
            few_observables = (accepts c.batch batch_accepted).few_observables;
            outs = omega (arith, rows_long c.batch batch_accepted);
            trues = omega (arith, t.long);
            out_clear = λ s l. ap (is_clear O) (done d s l) ∙ done_clear s;
            true_clear = t.clear;
          }

      same_failures : decoded ≡ Ok tt → failures_in O Shots out c.truth ≡ failures c
      unfolding failures_in failures
      same_failures d = ap length (filter_in (λ s. differs O (row_at (words O) out s) (row_at (words O) c.truth s)) (failed c) (below Shots)
          (λ s m. ap (λ (x : List ℕ). differs O x (row_at (words O) c.truth s)) (done d s (member_below s Shots m))))

      pub rated : {r : ErrorRate} → r ≡ answer_of (and_then decoded (shape c)) (rate_of c.batch.graph.observables (failures_in c.batch.graph.observables c.batch.shots out c.truth) c.batch.shots) → Rates c r out
      rated {r} e =
          let p : r ≡ answer_of (outcome c) (rate_of O (failures c) Shots) = rw (sym a) (e ∙ same_answer decoded (shape c) (λ d. ap (λ (n : ℕ). rate_of O n Shots) (same_failures d))
          ∙ ap (λ (x : Checked). answer_of (and_then x (shape c)) (rate_of O (failures c) Shots)) k.0) in
          record { sheet = ap sheet_of p ∙ on_sheet (outcome c) (rate_of O (failures c) Shots); answers = p; rows = rw (sym a) k.1 }
