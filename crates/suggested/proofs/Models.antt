-- Models that change: p added to a mechanism, or a mechanism appended.
use Rattle.std.specs.Prelude.{Option, None, Some}
use Prim.Native.Nat.{ℕ, zero, suc, ◌+◌, ◌<◌}
use native.Mathlib.Nat.{add-zero}
use native.Mathlib.Omega.{arith}
use mathlib.Core.Path.{◌≡◌, refl, sym, ap, ◌∙◌}
use mathlib.Core.List.{List, [], ◌∷◌, ◌++◌}
use mathlib.Core.Bool.{Bool, true, false}
use lib.ListN.{length, get_or, drop, length-set, get_or-append}
use lib.Seq.{set-append_left}
use lib.Ieee.{Float, nan}
use Rattle.lists.proofs.Truth.{case-of}
use Rattle.dem.specs.Model.{Symptom, ErrorMechanism}
use Rattle.dem.specs.Tables.{tables_of, written, symptom_entries}
use Rattle.dem.specs.Positions.{tables}
use Rattle.dem.specs.Decompose.{plus, add_at, same_symptom, or_else, last_equal, entries_of}
use Rattle.cover.specs.Search.{highest}
use Rattle.probability.specs.Probability.{raised_at}

-- ---- p added

pub raised_tables : (p : Float) (k : ℕ) (ms : List ErrorMechanism) → tables_of (add_at p k ms)
    ≡ tables (raised_at p k (tables_of ms).probability) (tables_of ms).detector_counts (tables_of ms).observable_counts (tables_of ms).component_counts
    (tables_of ms).component_detectors (tables_of ms).component_observables (tables_of ms).entries
unfolding add_at tables_of raised_at
raised_tables p k [] = refl
raised_tables p zero (m ∷ ms) = refl
raised_tables p (suc k) (m ∷ ms) = rw (raised_tables p k ms)

pub raised_length : (p : Float) (k : ℕ) (ms : List ErrorMechanism) → length (add_at p k ms) ≡ length ms
unfolding add_at
raised_length p k [] = refl
raised_length p zero (m ∷ ms) = refl
raised_length p (suc k) (m ∷ ms) = ap suc (raised_length p k ms)

pub raised_entries : (p : Float) (k : ℕ) (ms : List ErrorMechanism) → entries_of (add_at p k ms) ≡ entries_of ms
unfolding add_at entries_of
raised_entries p k [] = refl
raised_entries p zero (m ∷ ms) = refl
raised_entries p (suc k) (m ∷ ms) = ap (λ (n : ℕ). length (symptom_entries (m.symptom ∷ m.components)) + n) (raised_entries p k ms)

pub raised_symptom : (p : Float) (k : ℕ) (ms : List ErrorMechanism) (i : ℕ) (z : ErrorMechanism) → (get_or (add_at p k ms) i z).symptom ≡ (get_or ms i z).symptom
unfolding add_at
raised_symptom p k [] i z = refl
raised_symptom p zero (m ∷ ms) zero z = refl
raised_symptom p zero (m ∷ ms) (suc i) z = refl
raised_symptom p (suc k) (m ∷ ms) zero z = refl
raised_symptom p (suc k) (m ∷ ms) (suc i) z = raised_symptom p k ms i z

pub raised_written : (p : Float) (k : ℕ) (new was : List Float) → k < length new → raised_at p k (written new was) ≡ written (raised_at p k new) was
unfolding raised_at
raised_written p k new was h =
    rw (get_or-append new (drop (length new) was) nan k h, set-append_left new (drop (length new) was) k (plus (get_or new k nan) p) h, length-set new k (plus (get_or new k nan) p))

-- ---- the columns' lengths

pub record Lengths (ms : List ErrorMechanism) : Type 0 where
  pub probability : length (tables_of ms).probability ≡ length ms
  pub detector_counts : length (tables_of ms).detector_counts ≡ length ms
  pub observable_counts : length (tables_of ms).observable_counts ≡ length ms
  pub component_counts : length (tables_of ms).component_counts ≡ length ms

pub lengths : (ms : List ErrorMechanism) → Lengths ms
unfolding tables_of
lengths [] = record { probability = refl; detector_counts = refl; observable_counts = refl; component_counts = refl }
lengths (m ∷ ms) =
    let h = lengths ms in
    record { probability = ap suc h.probability; detector_counts = ap suc h.detector_counts; observable_counts = ap suc h.observable_counts; component_counts = ap suc h.component_counts }

pub entries_append : (a b : List ErrorMechanism) → entries_of (a ++ b) ≡ entries_of a + entries_of b
unfolding entries_of
entries_append [] b = omega arith
entries_append (m ∷ a) b = let h = entries_append a b in omega arith

-- ---- the last equal mechanism

stepped : Bool → Option ℕ → Option ℕ
stepped true None = Some 0
stepped false None = None
stepped b (Some k) = Some (suc k)

highest_front : (q : ℕ → Bool) (n : ℕ) → highest q (suc n) ≡ stepped (q 0) (highest (λ k. q (suc k)) n)
unfolding highest stepped
highest_front q zero = case-of (q 0) (λ t. rw t) (λ f. rw f)
highest_front q (suc n) = case-of (q (suc n)) (λ t. rw t) (λ f. let h = highest_front q n in rw f h)

shifted : ℕ → Option ℕ → Option ℕ
shifted at None = None
shifted at (Some k) = Some (at + k)

or_else_lem : (b : Bool) (at : ℕ) (x : Option ℕ) → or_else (shifted (suc at) x) b at ≡ shifted at (stepped b x)
unfolding shifted stepped
or_else_lem true at None = ap Some (sym (add-zero at))
or_else_lem false at None = refl
or_else_lem b at (Some k) = ap Some (omega arith)

last_from : (s : Symptom) (z : ErrorMechanism) (ms : List ErrorMechanism) (at : ℕ) → last_equal s at ms ≡ shifted at (highest (λ k. same_symptom (get_or ms k z).symptom s) (length ms))
unfolding last_equal highest shifted
last_from s z [] at = refl
last_from s z (m ∷ ms) at =
    ap (λ o. or_else o (same_symptom m.symptom s) at) (last_from s z ms (suc at))
    ∙ or_else_lem (same_symptom m.symptom s) at (highest (λ k. same_symptom (get_or ms k z).symptom s) (length ms))
    ∙ ap (shifted at) (sym (highest_front (λ k. same_symptom (get_or (m ∷ ms) k z).symptom s) (length ms)))

pub last_is : (s : Symptom) (z : ErrorMechanism) (ms : List ErrorMechanism) → last_equal s 0 ms ≡ highest (λ k. same_symptom (get_or ms k z).symptom s) (length ms)
unfolding shifted
last_is s z ms = last_from s z ms 0 ∙ unshifted (highest (λ k. same_symptom (get_or ms k z).symptom s) (length ms))
  where
    unshifted : (x : Option ℕ) → shifted 0 x ≡ x
    unshifted None = refl
    unshifted (Some k) = ap Some (omega arith)
