-- The laws of models in tables.
use Rattle.std.specs.Prelude.{Ok}
use Prim.Native.Nat.{ℕ, zero, suc, ◌+◌, ◌-◌, ◌<◌, ◌≤◌}
use native.Mathlib.Nat.{not-suc-le-zero, le_of_suc-le-suc}
use native.Mathlib.Omega.{arith}
use mathlib.Core.Path.{◌≡◌, refl, sym, ap, ◌∙◌}
use mathlib.Core.List.{◌++◌}
use mathlib.Core.Bool.{true, not}
use lib.ListN.{length, get_or}
use Rattle.codes.specs.declared.Refusal.TheVariants.{Short}
use Rattle.codes.specs.Order.{refuse_if, and_then}
use Rattle.codes.specs.Limits.{max_mechanisms, check_counts}
use Rattle.dem.specs.Model.{ErrorMechanism, check_model}
use Rattle.dem.specs.Tables.{Tables, first_of, rest_of, model_of, components_in, entries_in, tables_hold, tables_of, tables_written}
use Rattle.dem.specs.Positions.{place_of, tables_from, Counted}
use Rattle.dem.specs.Check.{check_all}
use Rattle.dem.specs.Laws.{ModelFits, Reached, Laws}
use Rattle.dem.proofs.Positions.{from_zero, from_suc, model_split, first_from, place_next, components_le, entries_le, reached_of, hold_of, inside_of, components_sum, place_alone}
use Rattle.dem.proofs.Reading.{read_back, reached_written, ends_written, read_alone, reached_alone}
use Rattle.dem.proofs.Accepted.{model_fits}
use Rattle.codes.proofs.Checks.{then_accepted, unless_accepted, counts_within}

pub count : (n : ℕ) (t : Tables) → length (model_of n t) ≡ n
unfolding model_of
count zero t = refl
count (suc n) t = ap suc (count n (rest_of t))

pub split : (i n : ℕ) (t : Tables) → i ≤ n → model_of n t ≡ model_of i t ++ model_of (n - i) (tables_from i t)
split i n t h = let e : n ≡ i + (n - i) = omega arith in ap (λ (k : ℕ). model_of k t) e ∙ model_split i (n - i) t

pub at : (i n : ℕ) (t : Tables) (z : ErrorMechanism) → i < n → get_or (model_of n t) i z ≡ first_of (tables_from i t)
unfolding model_of
at i zero t z h = absurd (not-suc-le-zero h)
at zero (suc n) t z h = ap first_of (sym (from_zero t))
at (suc i) (suc n) t z h = at i n (rest_of t) z (le_of_suc-le-suc h) ∙ ap first_of (from_suc i t)

pub reached : (i n : ℕ) (t : Tables) → i ≤ n → tables_hold n t ≡ true → Reached i t
reached i n t h k =
    let w = reached_of n t k in
    record {
      probability = omega (arith, w.probability);
      detectors = omega (arith, w.detectors);
      observables = omega (arith, w.observables);
      components = omega (arith, w.components);
      component_detectors = omega (arith, components_le i n t h, w.component_detectors);
      component_observables = omega (arith, components_le i n t h, w.component_observables);
      entries = omega (arith, entries_le i n t h, w.entries);
    }

pub place_first : (t : Tables) → place_of 0 t ≡ record { component = 0; entry = 0 }
unfolding components_in entries_in
place_first t = refl

pub counted : (n : ℕ) (t : Tables) → n ≤ max_mechanisms → tables_hold n t ≡ true
    → Counted n t.detector_counts t.observable_counts t.component_counts t.component_detectors t.component_observables
counted n t few h =
    let w = reached_of n t h in
    let e = components_sum n t in
    record {
      few = few;
      detectors = w.detectors;
      observables = w.observables;
      components = w.components;
      component_detectors = omega (arith, e, w.component_detectors);
      component_observables = omega (arith, e, w.component_observables);
    }

pub checked : (D O n : ℕ) (t : Tables) → check_all D O n t ≡ Ok tt → ModelFits D O n t
checked D O n t h =
    let (limits, p) = then_accepted (check_counts D O n) (and_then (refuse_if (not (tables_hold n t)) Short) (check_model D O 0 (model_of n t))) h in
    let (held, model) = then_accepted (refuse_if (not (tables_hold n t)) Short) (check_model D O 0 (model_of n t)) p in
    let few = counts_within D O n limits in
    record {
      detectors = few.0;
      observables = few.1;
      mechanisms = few.2;
      holds = unless_accepted (tables_hold n t) Short held;
      fits = λ k z l. model_fits D O 0 (model_of n t) model k z (rw (count n t) l);
    }

pub laws : Laws
laws = record {
  read_back = read_back;
  written_holds = λ ms was. hold_of (length ms) (tables_written ms was) (reached_written ms was);
  written_ends = ends_written;
  read_alone = read_alone;
  alone_holds = λ ms. hold_of (length ms) (tables_of ms) (reached_alone ms);
  count = count;
  split = split;
  at = at;
  at_place = first_from;
  place_first = place_first;
  place_next = place_next;
  inside = λ i n t h k. inside_of i n t h (reached_of n t k);
  reached = reached;
  counted = counted;
  place_alone = place_alone;
  accepted = model_fits;
  checked = checked;
}
