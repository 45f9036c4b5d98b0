-- The laws of positions.
use Rattle.std.specs.Prelude.{Ok}
use Prim.Native.Nat.{ℕ, zero, suc, ◌+◌, ◌-◌, ◌<◌, ◌≤◌}
use native.Mathlib.Nat.{add-zero, zero-add, suc-add}
use native.Mathlib.Numerals.{add-one}
use native.Mathlib.Omega.{arith}
use mathlib.Core.Path.{◌≡◌, refl, sym, ap, ap₂, ◌∙◌}
use mathlib.Core.List.{List, [], ◌∷◌, ◌++◌}
use mathlib.Core.Bool.{true, ◌&&◌}
use lib.ListN.{length, get_or, take, drop}
use lib.Seq.{drop-nil, drop-drop}
use lib.Ieee.{nan}
use lib.Dec.{leb}
use borrow.Author.Tests.{leb-true, le-leb}
use Rattle.std.proofs.lemmas.Bool.{and_parts}
use Rattle.dem.specs.declared.Mechanism.{Mechanism}
use Rattle.dem.specs.declared.Place.{Place}
use Rattle.codes.specs.Order.{Checked, and_then}
use Rattle.dem.specs.Model.{ErrorMechanism, check_mechanism, check_model}
use Rattle.dem.specs.Tables.{Tables, first_of, first_entries, rest_of, model_of, components_in, entries_in, columns_hold, lists_hold, tables_hold}
use Rattle.dem.specs.Positions.{head_of, tables_at, mechanism_at, place_past, Inside, place_of, tables_from, columns, total}
use Rattle.dem.specs.Laws.{Reached}
use Rattle.dem.proofs.Checks.{first_of_lem}
use Rattle.dem.proofs.Sums.{total_first, total_none, total_add, entries_total}

-- the place past a mechanism, by the sums of its components' counts
pub past_sums : (h : Mechanism) (p : Place) (cds cos : List ℕ)
    → (place_past h p cds cos).entry
    ≡ p.entry + (h.detectors + h.observables + (total (take h.components (drop p.component cds)) + total (take h.components (drop p.component cos))))
unfolding place_past first_entries
past_sums h p cds cos = rw (entries_total h.components (drop p.component cds) (drop p.component cos))

-- ---- the tables from mechanism i on

drop_suc : {A : Type 0} (i : ℕ) (xs : List A) → drop i (drop 1 xs) ≡ drop (suc i) xs
drop_suc i [] = drop-nil i
drop_suc i (x ∷ xs) = refl

pub from_zero : (t : Tables) → tables_from 0 t ≡ t
unfolding components_in entries_in
from_zero t = refl

pub from_suc : (i : ℕ) (t : Tables) → tables_from i (rest_of t) ≡ tables_from (suc i) t
unfolding components_in entries_in rest_of
from_suc i t =
    rw (
      drop_suc i t.probability,
      drop_suc i t.detector_counts,
      drop_suc i t.observable_counts,
      drop_suc i t.component_counts,
      drop-drop (components_in i (rest_of t)) (get_or t.component_counts 0 0) t.component_detectors,
      drop-drop (components_in i (rest_of t)) (get_or t.component_counts 0 0) t.component_observables,
      drop-drop (entries_in i (rest_of t)) (first_entries t) t.entries,
    )

pub rest_from : (i : ℕ) (t : Tables) → rest_of (tables_from i t) ≡ tables_from (suc i) t
rest_from zero t = ap rest_of (from_zero t) ∙ sym (from_zero (rest_of t)) ∙ from_suc 0 t
rest_from (suc i) t = ap rest_of (sym (from_suc i t)) ∙ rest_from i (rest_of t) ∙ from_suc (suc i) t

pub model_split : (i n : ℕ) (t : Tables) → model_of (i + n) t ≡ model_of i t ++ model_of n (tables_from i t)
unfolding model_of
model_split zero n t = ap₂ model_of (zero-add n) (sym (from_zero t))
model_split (suc i) n t = rw (suc-add i n) (ap {B = List ErrorMechanism} (λ ms. first_of t ∷ ms) (model_split i n (rest_of t) ∙ ap (λ u. model_of i (rest_of t) ++ model_of n u) (from_suc i t)))

pub components_split : (i n : ℕ) (t : Tables) → components_in (i + n) t ≡ components_in i t + components_in n (tables_from i t)
unfolding components_in
components_split zero n t = ap₂ components_in (zero-add n) (sym (from_zero t)) ∙ sym (zero-add (components_in n (tables_from 0 t)))
components_split (suc i) n t =
    rw (suc-add i n, ← from_suc i t) (omega (arith, components_split i n (rest_of t)))

pub entries_split : (i n : ℕ) (t : Tables) → entries_in (i + n) t ≡ entries_in i t + entries_in n (tables_from i t)
unfolding entries_in
entries_split zero n t = ap₂ entries_in (zero-add n) (sym (from_zero t)) ∙ sym (zero-add (entries_in n (tables_from 0 t)))
entries_split (suc i) n t =
    rw (suc-add i n, ← from_suc i t) (omega (arith, entries_split i n (rest_of t)))

-- ---- mechanism i

pub first_from : (i : ℕ) (t : Tables)
    → first_of (tables_from i t) ≡ mechanism_at (head_of i t) (place_of i t) t.component_detectors t.component_observables t.entries
unfolding mechanism_at first_of
first_from i t =
    rw (first_of_lem i t.probability nan, first_of_lem i t.detector_counts 0, first_of_lem i t.observable_counts 0, first_of_lem i t.component_counts 0)

takes_from : (i : ℕ) (t : Tables)
    → first_entries (tables_from i t) ≡ first_entries (tables_at (head_of i t) (place_of i t) t.component_detectors t.component_observables [])
unfolding first_entries
takes_from i t = rw (first_of_lem i t.detector_counts 0, first_of_lem i t.observable_counts 0, first_of_lem i t.component_counts 0)

components_next : (i : ℕ) (t : Tables) → components_in (i + 1) t ≡ components_in i t + get_or t.component_counts i 0
unfolding components_in
components_next i t = components_split i 1 t ∙ rw (first_of_lem i t.component_counts 0, add-zero (get_or t.component_counts i 0))

entries_next : (i : ℕ) (t : Tables)
    → entries_in (i + 1) t ≡ entries_in i t + first_entries (tables_at (head_of i t) (place_of i t) t.component_detectors t.component_observables [])
unfolding entries_in
entries_next i t = entries_split i 1 t ∙ rw (takes_from i t, add-zero (first_entries (tables_at (head_of i t) (place_of i t) t.component_detectors t.component_observables [])))

-- its place, and the next one's
pub place_next : (i : ℕ) (t : Tables) → place_past (head_of i t) (place_of i t) t.component_detectors t.component_observables ≡ place_of (i + 1) t
unfolding place_past
place_next i t = rw (components_next i t, entries_next i t)

up_to : (i n : ℕ) → i ≤ n → i + (n - i) ≡ n
up_to i n h = omega arith

pub components_le : (i n : ℕ) (t : Tables) → i ≤ n → components_in i t ≤ components_in n t
components_le i n t h = let e = ap (λ (k : ℕ). components_in k t) (up_to i n h) in omega (arith, e, components_split i (n - i) t)

pub entries_le : (i n : ℕ) (t : Tables) → i ≤ n → entries_in i t ≤ entries_in n t
entries_le i n t h = let e = ap (λ (k : ℕ). entries_in k t) (up_to i n h) in omega (arith, e, entries_split i (n - i) t)

-- ---- tables that hold n mechanisms

module _ (n : ℕ) (t : Tables) where
  pub lengths : columns_hold n t ≡ true
      → (n ≤ length t.probability) × (n ≤ length t.detector_counts) × (n ≤ length t.observable_counts) × (n ≤ length t.component_counts)
  unfolding columns_hold
  lengths h =
      let (a, p) = and_parts _ _ h in
      let (b, q) = and_parts _ _ p in
      let (c, d) = and_parts _ _ q in
      (leb-true _ _ a, leb-true _ _ b, leb-true _ _ c, leb-true _ _ d)

pub reached_of : (n : ℕ) (t : Tables) → tables_hold n t ≡ true → Reached n t
unfolding tables_hold lists_hold
reached_of n t h =
    let (p, q) = and_parts _ _ h in
    let (e, r) = and_parts _ _ q in
    let (f, g) = and_parts _ _ r in
    let k = lengths n t p in
    record {
      probability = k.0;
      detectors = k.1;
      observables = k.2;
      components = k.3;
      component_detectors = leb-true _ _ e;
      component_observables = leb-true _ _ f;
      entries = leb-true _ _ g;
    }

pub hold_of : (n : ℕ) (t : Tables) → Reached n t → tables_hold n t ≡ true
unfolding tables_hold columns_hold lists_hold
hold_of n t h =
    rw (
      le-leb _ _ h.probability,
      le-leb _ _ h.detectors,
      le-leb _ _ h.observables,
      le-leb _ _ h.components,
      le-leb _ _ h.component_detectors,
      le-leb _ _ h.component_observables,
      le-leb _ _ h.entries,
    )

-- the lists of mechanism i lie inside them
pub inside_of : (i n : ℕ) (t : Tables) → i < n → Reached n t → Inside (head_of i t) (place_of i t) t.component_detectors t.component_observables t.entries
unfolding first_entries
inside_of i n t h k = record {
  detectors = omega (arith, components_next i t, components_le (i + 1) n t (omega arith), k.component_detectors);
  observables = omega (arith, components_next i t, components_le (i + 1) n t (omega arith), k.component_observables);
  entries = omega (arith, entries_next i t, entries_le (i + 1) n t (omega arith), k.entries);
}

-- and so does the place past them
pub past_inside : (h : Mechanism) (p : Place) (cds cos es : List ℕ) → Inside h p cds cos es → (place_past h p cds cos).entry ≤ length es
unfolding place_past first_entries
past_inside h p cds cos es w = omega (arith, w.entries)

-- the same of the head and the place that a loop has come to
pub inside_here : (i n : ℕ) (t : Tables) (h : Mechanism) (p : Place) → i < n → tables_hold n t ≡ true → h ≡ head_of i t → p ≡ place_of i t
    → Inside h p t.component_detectors t.component_observables t.entries
inside_here i n t h p l held eh ep = rw (eh, ep) (inside_of i n t l (reached_of n t held))

-- ---- the check, from mechanism i on

pub model_next : (i n : ℕ) (t : Tables) → i < n
    → model_of (n - i) (tables_from i t)
    ≡ mechanism_at (head_of i t) (place_of i t) t.component_detectors t.component_observables t.entries ∷ model_of (n - (i + 1)) (tables_from (i + 1) t)
unfolding model_of
model_next i n t h =
    let k = n - (i + 1) in
    let e : n - i ≡ suc k = omega arith in
    let rest : rest_of (tables_from i t) ≡ tables_from (i + 1) t = rest_from i t ∙ ap (λ (z : ℕ). tables_from z t) (sym (add-one i)) in
    ap (λ (z : ℕ). model_of z (tables_from i t)) e ∙ ap₂ {C = List ErrorMechanism} (λ m ms. m ∷ ms) (first_from i t) (ap (model_of k) rest)

pub check_next : (D O i n : ℕ) (t : Tables) → i < n
    → check_model D O i (model_of (n - i) (tables_from i t))
    ≡ and_then (check_mechanism D O i (mechanism_at (head_of i t) (place_of i t) t.component_detectors t.component_observables t.entries))
    (check_model D O (i + 1) (model_of (n - (i + 1)) (tables_from (i + 1) t)))
unfolding check_model
check_next D O i n t h = ap (check_model D O i) (model_next i n t h) ∙ rw (add-one i)

pub check_first : (D O n : ℕ) (t : Tables) → check_model D O 0 (model_of (n - 0) (tables_from 0 t)) ≡ check_model D O 0 (model_of n t)
check_first D O n t = ap₂ (λ (k : ℕ) (u : Tables). check_model D O 0 (model_of k u)) (omega arith) (from_zero t)

pub check_last : (D O i n : ℕ) (t : Tables) → n ≤ i → check_model D O i (model_of (n - i) (tables_from i t)) ≡ Ok tt
unfolding check_model model_of
check_last D O i n t h = let e : n - i ≡ 0 = omega arith in rw e

-- a turn of the loop
pub check_turn : (D O i n : ℕ) (t : Tables) (h : Mechanism) (p : Place) (c : Checked)
    → i < n → h ≡ head_of i t → p ≡ place_of i t → c ≡ check_mechanism D O i (mechanism_at h p t.component_detectors t.component_observables t.entries)
    → check_model D O i (model_of (n - i) (tables_from i t)) ≡ and_then c (check_model D O (i + 1) (model_of (n - (i + 1)) (tables_from (i + 1) t)))
check_turn D O i n t h p c l eh ep ec = check_next D O i n t l ∙ rw (ec, eh, ep)

-- ---- by sums

pub components_sum : (n : ℕ) (t : Tables) → components_in n t ≡ total (take n t.component_counts)
unfolding components_in rest_of total
components_sum zero t = refl
components_sum (suc n) t = rw (total_first n t.component_counts) (ap (λ k. get_or t.component_counts 0 0 + k) (components_sum n (rest_of t)))

-- the entries: the mechanisms' own, and their components'
entries_sum : (n : ℕ) (t : Tables) → entries_in n t
    ≡ total (take n t.detector_counts) + total (take n t.observable_counts)
    + (total (take (components_in n t) t.component_detectors) + total (take (components_in n t) t.component_observables))
unfolding entries_in components_in first_entries rest_of
entries_sum zero t = simp total_none
entries_sum (suc n) t =
    let c = get_or t.component_counts 0 0 in
    omega (
      arith,
      entries_sum n (rest_of t),
      entries_total c t.component_detectors t.component_observables,
      total_first n t.detector_counts,
      total_first n t.observable_counts,
      total_add c (components_in n (rest_of t)) t.component_detectors,
      total_add c (components_in n (rest_of t)) t.component_observables,
    )

-- from the front of each column
pub totals_are : (n : ℕ) (t : Tables) (a b c d e : ℕ)
    → a ≡ total (take (n - 0) t.component_counts) → b ≡ total (take (n - 0) t.detector_counts) → c ≡ total (take (n - 0) t.observable_counts)
    → d ≡ total (take (a - 0) t.component_detectors) → e ≡ total (take (a - 0) t.component_observables)
    → ◌≡◌ {A = Place} (record { component = a; entry = b + c + (d + e) }) (place_of n t)
totals_are n t a b c d e pa pb pc pd pe =
    let z : n - 0 ≡ n = omega arith in
    let y : a - 0 ≡ a = omega arith in
    let q : a ≡ components_in n t = (rw z at pa) ∙ sym (components_sum n t) in
    ap₂ {C = Place} (λ (c : ℕ) (e : ℕ). record { component = c; entry = e }) q
    (rw (rw z at pb, rw z at pc, rw (y, q) at pd, rw (y, q) at pe) (sym (entries_sum n t)))

-- ---- the test, part by part

pub tables_parts : (n : ℕ) (t : Tables) → tables_hold n t
    ≡ (columns_hold n t
    && (leb (total (take n t.component_counts)) (length t.component_detectors)
    && (leb (total (take n t.component_counts)) (length t.component_observables) && leb (entries_in n t) (length t.entries))))
unfolding tables_hold lists_hold
tables_parts n t = rw (components_sum n t)

-- positions go by the five columns alone
pub place_alone : (n : ℕ) (t : Tables)
    → place_of n (columns t.detector_counts t.observable_counts t.component_counts t.component_detectors t.component_observables) ≡ place_of n t
place_alone n t =
    let u = columns t.detector_counts t.observable_counts t.component_counts t.component_detectors t.component_observables in
    let q : components_in n u ≡ components_in n t = components_sum n u ∙ sym (components_sum n t) in
    ap₂ {C = Place} (λ (c : ℕ) (e : ℕ). record { component = c; entry = e }) q (entries_sum n u ∙ rw q (sym (entries_sum n t)))
