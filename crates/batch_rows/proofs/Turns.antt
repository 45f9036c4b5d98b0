-- A turn of the batch: the answer from the next shot on is the answer from this one on.
use Rattle.std.specs.Prelude.{Ok, Err}
use Prim.Native.Nat.{ℕ, ◌+◌, ◌-◌, ◌≤◌, ◌<◌}
use native.Mathlib.Omega.{arith}
use mathlib.Core.Path.{◌≡◌, sym, ap, ◌∙◌}
use mathlib.Core.List.{List}
use mathlib.Core.Bool.{Bool}
use lib.Ieee.{Float}
use lib.ListN.{length}
use Rattle.lists.specs.Lists.{from}
use Rattle.lists.proofs.Ranges.{left_one, left_none}
use Rattle.bits.specs.Rows.{words}
use Rattle.codes.specs.declared.Refusal.TheVariants.{Stuck}
use Rattle.steps.specs.Graph.{Graph}
use Rattle.steps.specs.Shot.{Decoded, impossible, corrected}
use Rattle.steps.specs.Call.{graph_of}
use Rattle.cells.specs.declared.Node.{Node}
use Rattle.cells.specs.declared.Flags.{Flags}
use Rattle.cells.specs.declared.Stack.{Stack}
use Rattle.cells.specs.declared.Link.{Link}
use Rattle.cells.specs.Tables.{parents, exits, lits, knowns, odds, hots, frees}
use Rattle.rest.specs.Clean.{Clean}
use Rattle.shot.specs.declared.Shot.{Shot}
use Rattle.shot.specs.declared.Shot.TheVariants as shot
use Rattle.shot.specs.Shots.{graph_in, shot_of}
use Rattle.batch_rows.specs.Ready.{Ready}
use Rattle.batch_rows.specs.Row.{put_row, shot_at, row_for, GivenRow}
use Rattle.batch_rows.proofs.Put.{row_inside}
use Rattle.batch_rows.specs.Rows.{check_shots_of, rows_of, GivenRows}

-- ---- what a shot's answer says of the steps

pub stuck_is : (x : Decoded) {n d : ℕ} → shot.Stuck n d ≡ shot_of x → x ≡ impossible n d
stuck_is (impossible n d) e = cc
stuck_is (corrected n list) e = absurd (let z : ◌≡◌ {A = ℕ} 0 1 = cc in omega arith)

pub decoded_is : (x : Decoded) {n len : ℕ} → shot.Decoded n len ≡ shot_of x → (list : List ℕ) × (x ≡ corrected n list)
decoded_is (impossible n d) e = absurd (let z : ◌≡◌ {A = ℕ} 0 1 = cc in omega arith)
decoded_is (corrected n list) e = (list, cc)

module _ (g : Graph) (rows out : List ℕ) (shots s : ℕ) where
  pub end_answer : shots ≤ s → (Ok tt) ≡ check_shots_of g rows (from (shots - s) s)
  unfolding check_shots_of
  end_answer h = rw (left_none shots s h)

  pub end_rows : shots ≤ s → out ≡ rows_of g rows (from (shots - s) s) out
  unfolding rows_of
  end_rows h = rw (left_none shots s h)

  module _ (h : s < shots) where
    stop_answer : {n d : ℕ} → shot_at g rows s ≡ impossible n d → Err (Stuck s d) ≡ check_shots_of g rows (from (shots - s) s)
    unfolding check_shots_of
    stop_answer e = rw (left_one shots s h, e)

    stop_rows : {n d : ℕ} → shot_at g rows s ≡ impossible n d → put_row (words g.observables) s (row_for g rows s) out ≡ rows_of g rows (from (shots - s) s) out
    unfolding rows_of
    stop_rows e = rw (left_one shots s h, e)

    go_answer : {n : ℕ} {list : List ℕ} → shot_at g rows s ≡ corrected n list → check_shots_of g rows (from (shots - (s + 1)) (s + 1)) ≡ check_shots_of g rows (from (shots - s) s)
    unfolding check_shots_of
    go_answer e = rw (left_one shots s h, e)

    go_rows : {n : ℕ} {list : List ℕ} → shot_at g rows s ≡ corrected n list
        → rows_of g rows (from (shots - (s + 1)) (s + 1)) (put_row (words g.observables) s (row_for g rows s) out) ≡ rows_of g rows (from (shots - s) s) out
    unfolding rows_of
    go_rows e = rw (left_one shots s h, e)

-- ---- a turn of the loop

module _ (d o : ℕ) (u v : List ℕ) (weight : List Float) (obs rows out out' : List ℕ) (shots s : ℕ) (h : s < shots) where
  abbrev H : Graph
  H = graph_in d o u v weight obs

  -- what shot s comes to, and the output with its row
  abbrev Found : Shot → Type 0
  Found found = (found ≡ shot_of (shot_at H rows s)) × (out' ≡ put_row (words o) s (row_for H rows s) out)

  now_is : out' ≡ put_row (words o) s (row_for H rows s) out → out' ≡ put_row (words H.observables) s (row_for H rows s) out
  unfolding graph_of
  now_is e = e

  pub stops : {n k : ℕ} {found : Shot} → found ≡ shot.Stuck n k → Found found → (Err (Stuck s k) ≡ check_shots_of H rows (from (shots - s) s)) × (out' ≡ rows_of H rows (from (shots - s) s) out)
  stops a f =
      let e = stuck_is (shot_at H rows s) (sym a ∙ f.0) in
      (stop_answer H rows out shots s h e, now_is f.1 ∙ stop_rows H rows out shots s h e)

  pub goes_on : {n k : ℕ} {found : Shot} → found ≡ shot.Decoded n k → Found found
      → (check_shots_of H rows (from (shots - (s + 1)) (s + 1)) ≡ check_shots_of H rows (from (shots - s) s))
      × (rows_of H rows (from (shots - (s + 1)) (s + 1)) out' ≡ rows_of H rows (from (shots - s) s) out)
  goes_on a f =
      let (list, e) = decoded_is (shot_at H rows s) (sym a ∙ f.0) in
      (go_answer H rows out shots s h e, ap (rows_of H rows (from (shots - (s + 1)) (s + 1))) (now_is f.1) ∙ go_rows H rows out shots s h e)

-- what shot s of a batch is given
pub given_row : {d o shots s : ℕ} {rows first list : List ℕ} → GivenRows d o shots rows first list → s < shots → (out list' : List ℕ) → length out ≡ length first → length list' ≡ length list
    → GivenRow d o s rows out list'
given_row {d} {o} {shots} {s} k h out list' a b = record {
  few = omega (arith, k.few);
  few_detectors = k.few_detectors;
  few_observables = k.few_observables;
  words_end = omega (arith, k.long, row_inside s shots (words d) h);
  clear = k.clear s h;
  row_end = omega (arith, k.outs, row_inside s shots (words o) h);
  lists = omega (arith, k.lists);
}

-- ---- what a shot asks and leaves to the next

-- tables at rest after a shot, with as many rows
pub ready_on : {d E : ℕ} {tree : List Node} {flags : List Flags} {stacks : List Stack} {links : List Link} {growth : List Float} {sat : List Bool} → Ready d E tree flags stacks links growth sat
    → {tree' : List Node} {flags' : List Flags} {stacks' : List Stack} {links' : List Link} {growth' : List Float} {sat' : List Bool}
    → Clean d E (lits flags') growth' sat' (knowns flags') (parents tree') (odds flags') (exits tree') (hots flags') (frees flags')
    → length stacks' ≡ length stacks → length links' ≡ length links → Ready d E tree' flags' stacks' links' growth' sat'
ready_on k c p q = record {
  rested = record { clean = c };
  stack_rows = omega (arith, k.stack_rows, p);
  link_rows = omega (arith, k.link_rows, q);
}
