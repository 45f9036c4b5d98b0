-- The kept mechanisms in the output tables.
use Prim.Native.Nat.{ℕ, ◌≤◌}
use native.Mathlib.Omega.{arith}
use mathlib.Core.Path.{◌≡◌, sym, ap, ◌∙◌}
use mathlib.Core.List.{List}
use mathlib.Core.Bool.{true}
use lib.ListN.{length, take}
use lib.Ieee.{Float, nan}
use borrow.Author.Tests.{leb-true}
use Rattle.lists.proofs.Truth.{and_left, and_right}
use lib.Dec.{leb}
use Rattle.dem.specs.Tables.{Tables, model_of, entries_in, components_in, lists_hold, tables_hold, tables_of, tables_written, written}
use Rattle.dem.specs.Positions.{tables, total}
use Rattle.dem.specs.Decompose.{kept_of}
use Rattle.dem.proofs.Positions.{reached_of, components_sum}
use Rattle.kept.specs.Columns.{kept_column, kept_parts, kept_tables}
use Rattle.kept.proofs.Kept.{kept_tables_lem}
use Rattle.suggested.proofs.Models.{lengths}

module _ (n : ℕ) (t : Tables) (hold : tables_hold n t ≡ true) where
  abbrev ds : List ℕ
  ds = t.detector_counts

  abbrev part : ℕ → ℕ
  part i = total (take i t.component_counts)

  pub all_copied : (was : Tables) (o1 : List Float) (o2 o3 o4 o5 o6 o7 : List ℕ)
      → o1 ≡ written (kept_column nan n ds t.probability) was.probability → o2 ≡ written (kept_column 0 n ds ds) was.detector_counts
      → o3 ≡ written (kept_column 0 n ds t.observable_counts) was.observable_counts → o4 ≡ written (kept_column 0 n ds t.component_counts) was.component_counts
      → o5 ≡ written (kept_parts n ds part t.component_detectors) was.component_detectors
      → o6 ≡ written (kept_parts n ds part t.component_observables) was.component_observables
      → o7 ≡ written (kept_parts n ds (λ i. entries_in i t) t.entries) was.entries
      → tables o1 o2 o3 o4 o5 o6 o7 ≡ tables_written (kept_of (model_of n t)) was
  unfolding tables_written kept_tables
  all_copied was o1 o2 o3 o4 o5 o6 o7 e1 e2 e3 e4 e5 e6 e7 = rw (e1, e2, e3, e4, e5, e6, e7, kept_tables_lem n t (reached_of n t hold))

  pub kept_count : length (kept_column nan n ds t.probability) ≡ length (kept_of (model_of n t))
  unfolding kept_tables
  kept_count = sym (ap (λ (u : Tables). length u.probability) (kept_tables_lem n t (reached_of n t hold))) ∙ (lengths (kept_of (model_of n t))).probability

  pub component_count : length (kept_parts n ds part t.component_detectors) ≡ length (tables_of (kept_of (model_of n t))).component_detectors
  unfolding kept_tables
  component_count = sym (ap (λ (u : Tables). length u.component_detectors) (kept_tables_lem n t (reached_of n t hold)))

  pub entry_count : length (kept_parts n ds (λ i. entries_in i t) t.entries) ≡ length (tables_of (kept_of (model_of n t))).entries
  unfolding kept_tables
  entry_count = sym (ap (λ (u : Tables). length u.entries) (kept_tables_lem n t (reached_of n t hold)))

  -- the same of an answer
  pub kept_counted : (r : ℕ) → r ≡ length (kept_column nan n ds t.probability) → r ≡ length (kept_of (model_of n t))
  kept_counted r e = e ∙ kept_count

  pub component_counted : (r : ℕ) → r ≡ length (kept_parts n ds part t.component_detectors) → r ≡ length (tables_of (kept_of (model_of n t))).component_detectors
  component_counted r e = e ∙ component_count

  pub entry_counted : (r : ℕ) → r ≡ length (kept_parts n ds (λ i. entries_in i t) t.entries) → r ≡ length (tables_of (kept_of (model_of n t))).entries
  entry_counted r e = e ∙ entry_count

pub parts_fit : (n : ℕ) (t : Tables) (k : ℕ) → components_in n t ≤ k → total (take n t.component_counts) ≤ k
parts_fit n t k l = omega (arith, l, components_sum n t)

pub lists_long : (c e : ℕ) (t : Tables) → lists_hold c e t ≡ true → (c ≤ length t.component_detectors) × (c ≤ length t.component_observables) × (e ≤ length t.entries)
unfolding lists_hold
lists_long c e t h =
    let a = leb c (length t.component_detectors) in
    let b = leb c (length t.component_observables) in
    let d = leb e (length t.entries) in
    let q = and_right a _ h in
    (leb-true _ _ (and_left a _ h), leb-true _ _ (and_left b d q), leb-true _ _ (and_right b d q))
