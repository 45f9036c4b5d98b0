-- The call put together: the tests of its own slices, what an accepted batch has, and what it answers and leaves.
use Rattle.codes.specs.Order.{Checked}
use Rattle.std.specs.Prelude.{Ok, Err}
use Prim.Native.Nat.{ℕ, ◌*◌, ◌≤◌}
use native.Mathlib.Omega.{arith}
use mathlib.Core.Path.{◌≡◌, refl, sym, ap, ◌∙◌, subst}
use mathlib.Core.List.{List}
use mathlib.Core.Bool.{Bool, true, ◌&&◌}
use lib.Dec.{leb}
use lib.ListN.{length}
use borrow.Author.Tests.{leb-true}
use Rattle.lists.specs.Lists.{below}
use Rattle.lists.proofs.Truth.{and_left, and_right}
use Rattle.bits.specs.Rows.{words}
use Rattle.codes.specs.Codes.{checked_row}
use Rattle.codes.specs.declared.Refusal.{Refusal}
use Rattle.scratch.specs.declared.Lengths.{Lengths}
use Rattle.scratch.specs.Scratch.{scratch_long}
use Rattle.scratch.specs.Laws.{Long}
use Rattle.scratch.proofs.Laws.{scratch_long_lem}
use Rattle.lent_graph.specs.Call.{graph_in, check_call}
use Rattle.lent_graph.specs.Accepts.{Accepts}
use Rattle.lent_graph.proofs.Accepts.{call_accepted}
use Rattle.own_slices.specs.Long.{slices_long}
use Rattle.batch_rows.specs.Rows.{check_shots_of, rows_of, GivenRows}
use Rattle.batch.specs.Batch.{Handed, own_long, checks, Decodes}

module _ (h : Handed) where
  -- the tests are those of the call's own slices
  pub own_is : {long : Bool} {have : Lengths} → have ≡ h.scratch
      → long ≡ slices_long h.graph.detectors h.graph.observables h.graph.edges h.shots (length h.out) h.list have → long ≡ own_long h
  unfolding own_long
  own_is e p = rw e at p

  -- the check of the call is the one that was made
  pub checks_by : (long : Bool) (c : Checked) → long ≡ own_long h → c ≡ check_call h.graph long h.rows h.shots h.width → c ≡ checks h
  unfolding checks
  checks_by long c p q = q ∙ ap (λ (b : Bool). check_call h.graph b h.rows h.shots h.width) p

  pub refused : {r : Refusal} → Err r ≡ checks h → Decodes h (Err r) h.out
  refused e = record { sheet = rw (sym e) refl; answers = rw (sym e) refl; rows = rw (sym e) refl }

  -- what an accepted call has
  module _ (a : (Ok tt) ≡ checks h) where
    pub accepts : Accepts h.graph (own_long h) h.rows h.shots h.width
    unfolding checks
    accepts = call_accepted h.graph (own_long h) h.rows h.shots h.width (sym a)

    -- its width is the number of detectors
    pub by_width : checks (record h { width = h.graph.detectors }) ≡ Ok tt
    by_width = subst (λ (w : ℕ). checks (record h { width = w }) ≡ Ok tt) accepts.wide (sym a)

    own : own_long h ≡ true
    own = accepts.own_long

    pub rows_long : h.shots * words h.graph.observables ≤ length h.out
    unfolding own_long
    rows_long = leb-true _ _ (and_left (leb (h.shots * words h.graph.observables) (length h.out)) (leb h.graph.detectors h.list && scratch_long h.graph.detectors h.graph.edges h.scratch) own)

    lists_long : (leb h.graph.detectors h.list && scratch_long h.graph.detectors h.graph.edges h.scratch) ≡ true
    unfolding own_long
    lists_long = and_right (leb (h.shots * words h.graph.observables) (length h.out)) (leb h.graph.detectors h.list && scratch_long h.graph.detectors h.graph.edges h.scratch) own

    pub list_long : h.graph.detectors ≤ h.list
    list_long = leb-true _ _ (and_left (leb h.graph.detectors h.list) (scratch_long h.graph.detectors h.graph.edges h.scratch) lists_long)

    pub scratch : Long h.graph.detectors h.graph.edges h.scratch
    scratch = scratch_long_lem h.graph.detectors h.graph.edges h.scratch (and_right (leb h.graph.detectors h.list) (scratch_long h.graph.detectors h.graph.edges h.scratch) lists_long)

    pub given_rows : (list : List ℕ) → length list ≡ h.list → GivenRows h.graph.detectors h.graph.observables h.shots h.rows h.out list
    given_rows list e = record {
      few = accepts.few_shots;
      few_detectors = accepts.few_detectors;
      few_observables = accepts.few_observables;
      long = accepts.rows_long;
      clear = accepts.row_clear;
      outs = rows_long;
      lists = omega (arith, list_long);
    }

    pub decoded : {r : Checked} {out : List ℕ} → (r ≡ check_shots_of (graph_in h.graph) h.rows (below h.shots)) × (out ≡ rows_of (graph_in h.graph) h.rows (below h.shots) h.out) → Decodes h r out
    decoded k = record { sheet = rw (sym a) (ap checked_row k.0); answers = rw (sym a) k.0; rows = rw (sym a) k.1 }
