-- The tables of the kept mechanisms are what is copied.
use Prim.Native.Nat.{ℕ, zero, suc, ◌+◌, ◌-◌, ◌≤◌}
use native.Mathlib.Nat.{not-suc-le-zero}
use native.Mathlib.Numerals.{add-one}
use native.Mathlib.Omega.{arith}
use mathlib.Core.Path.{◌≡◌, refl, sym, ap, ap₂, ◌∙◌}
use mathlib.Core.List.{List, [], ◌∷◌, ◌++◌, append_assoc, append-nil}
use mathlib.Core.Bool.{Bool, true, false, cond}
use lib.ListN.{length, get_or, take, drop, length-drop}
use lib.Seq.{take-add, length-take-le}
use lib.Dec.{leb}
use lib.Ieee.{nan}
use Rattle.lists.specs.Lists.{filter}
use Rattle.lists.proofs.Ranges.{filter_append}
use Rattle.dem.specs.declared.Place.{Place}
use Rattle.dem.specs.Model.{ErrorMechanism}
use Rattle.dem.specs.Tables.{Tables, components_of, component_entries, first_of, first_entries, model_of, components_in, entries_in, symptom_entries, component_detectors, component_observables, tables_of}
use Rattle.dem.specs.Positions.{tables, total, head_of, mechanism_at, place_past, Inside, place_of}
use Rattle.dem.specs.Laws.{Reached}
use Rattle.dem.specs.Decompose.{is_graphlike, kept_of}
use Rattle.dem.proofs.Positions.{first_from, model_split, place_next, components_sum, inside_of, hold_of}
use Rattle.dem.proofs.Laws.{reached}
use Rattle.kept.proofs.Sums.{sum_next}
use Rattle.kept.specs.Columns.{kept_by, kept_parts, kept_tables}

-- n components that lie inside the tables
pub record Whole (n : ℕ) (ds os es : List ℕ) : Type 0 where
  pub counted : length (components_of n ds os es) ≡ n
  pub detectors : component_detectors (components_of n ds os es) ≡ take n ds
  pub observables : component_observables (components_of n ds os es) ≡ take n os
  pub entries : symptom_entries (components_of n ds os es) ≡ take (component_entries n ds os) es

pub whole : (n : ℕ) (ds os es : List ℕ) → n ≤ length ds → n ≤ length os → component_entries n ds os ≤ length es → Whole n ds os es
unfolding components_of component_entries component_detectors component_observables symptom_entries
whole zero ds os es a b c = record { counted = refl; detectors = refl; observables = refl; entries = refl }
whole (suc n) [] os es a b c = absurd (not-suc-le-zero a)
whole (suc n) (x ∷ ds) [] es a b c = absurd (not-suc-le-zero b)
whole (suc n) (x ∷ ds) (y ∷ os) es a b c =
    let k = component_entries n ds os in
    let h = whole n ds os (drop (x + y) es) (omega arith) (omega arith) (omega (arith, length-drop (x + y) es)) in
    let p : length (take x es) ≡ x = length-take-le x es (omega arith) in
    let q : length (take y (drop x es)) ≡ y = length-take-le y (drop x es) (omega (arith, length-drop x es)) in
    record {
      counted = ap suc h.counted;
      detectors = ap₂ {C = List ℕ} (λ (a : ℕ) (l : List ℕ). a ∷ l) p h.detectors;
      observables = ap₂ {C = List ℕ} (λ (a : ℕ) (l : List ℕ). a ∷ l) q h.observables;
      entries = ap (λ (l : List ℕ). take x es ++ (take y (drop x es) ++ l)) h.entries
          ∙ sym (append_assoc (take x es) (take y (drop x es)) (take k (drop (x + y) es)))
          ∙ ap (λ (l : List ℕ). l ++ take k (drop (x + y) es)) (sym (take-add x y es))
          ∙ sym (take-add (x + y) k es);
    }

-- ---- one mechanism

abbrev pub onto : Tables → Tables → Tables
onto t u =
    tables (t.probability ++ u.probability) (t.detector_counts ++ u.detector_counts) (t.observable_counts ++ u.observable_counts)
    (t.component_counts ++ u.component_counts) (t.component_detectors ++ u.component_detectors) (t.component_observables ++ u.component_observables)
    (t.entries ++ u.entries)

pub tables_append : (a b : List ErrorMechanism) → tables_of (a ++ b) ≡ onto (tables_of a) (tables_of b)
unfolding tables_of
tables_append [] b = refl
tables_append (m ∷ a) b =
    let ds = m.symptom.detectors in
    let os = m.symptom.observables in
    let es = symptom_entries m.components in
    let t = tables_of a in
    let u = tables_of b in
    rw (
      tables_append a b,
      append_assoc (component_detectors m.components) t.component_detectors u.component_detectors,
      append_assoc (component_observables m.components) t.component_observables u.component_observables,
      append_assoc ds (os ++ (es ++ t.entries)) u.entries,
      append_assoc os (es ++ t.entries) u.entries,
      append_assoc es t.entries u.entries,
    )

module _ (n : ℕ) (t : Tables) (r : Reached (suc n) t) where
  abbrev pub here : ErrorMechanism
  here = mechanism_at (head_of n t) (place_of n t) t.component_detectors t.component_observables t.entries

  abbrev d : ℕ
  d = get_or t.detector_counts n 0

  abbrev o : ℕ
  o = get_or t.observable_counts n 0

  abbrev c : ℕ
  c = get_or t.component_counts n 0

  abbrev cds : List ℕ
  cds = drop (components_in n t) t.component_detectors

  abbrev cos : List ℕ
  cos = drop (components_in n t) t.component_observables

  abbrev es : List ℕ
  es = drop (entries_in n t) t.entries

  abbrev k : ℕ
  k = component_entries c cds cos

  inside : Inside (head_of n t) (place_of n t) t.component_detectors t.component_observables t.entries
  inside = inside_of n (suc n) t (omega arith) r

  fits : (d + o) + k ≤ length es
  fits = omega (arith, length-drop (entries_in n t) t.entries, inside.entries)

  parts : Whole c cds cos (drop (d + o) es)
  parts =
      whole c cds cos (drop (d + o) es) (omega (arith, inside.detectors, length-drop (components_in n t) t.component_detectors))
      (omega (arith, inside.observables, length-drop (components_in n t) t.component_observables))
      (omega (arith, fits, length-drop (d + o) es))

  pub many_detectors : length here.symptom.detectors ≡ d
  unfolding mechanism_at first_of
  many_detectors = length-take-le d es (omega (arith, fits))

  pub many_observables : length here.symptom.observables ≡ o
  unfolding mechanism_at first_of
  many_observables = length-take-le o (drop d es) (omega (arith, fits, length-drop d es))

  pub its_components : length here.components ≡ c
  unfolding mechanism_at first_of
  its_components = parts.counted

  pub its_detectors : component_detectors here.components ≡ take c cds
  unfolding mechanism_at first_of
  its_detectors = parts.detectors

  pub its_observables : component_observables here.components ≡ take c cos
  unfolding mechanism_at first_of
  its_observables = parts.observables

  pub its_entries : here.symptom.detectors ++ (here.symptom.observables ++ symptom_entries here.components) ≡ take ((d + o) + k) es
  unfolding mechanism_at first_of
  its_entries =
      ap (λ (l : List ℕ). take d es ++ (take o (drop d es) ++ l)) parts.entries
      ∙ sym (append_assoc (take d es) (take o (drop d es)) (take k (drop (d + o) es)))
      ∙ ap (λ (l : List ℕ). l ++ take k (drop (d + o) es)) (sym (take-add d o es))
      ∙ sym (take-add (d + o) k es)

  pub its_probability : here.probability ≡ get_or t.probability n nan
  unfolding mechanism_at first_of
  its_probability = refl

  abbrev part : ℕ
  part = total (take (suc n) t.component_counts) - total (take n t.component_counts)

  part_is : part ≡ c
  part_is =
      let e = ap (λ (z : ℕ). total (take z t.component_counts)) (add-one n) in
      omega (arith, e, sum_next t.component_counts n)

  ends_at : entries_in (suc n) t - entries_in n t ≡ (d + o) + k
  unfolding place_past first_entries
  ends_at =
      let e = ap (λ (p : Place). p.entry) (place_next n t) in
      let f = ap (λ (z : ℕ). entries_in z t) (add-one n) in
      omega (arith, e, f)

  -- its tables
  one : tables_of (here ∷ []) ≡ tables (get_or t.probability n nan ∷ []) (d ∷ []) (o ∷ []) (c ∷ []) (take c cds) (take c cos) (take ((d + o) + k) es)
  unfolding tables_of
  one =
      rw (
        append-nil (component_detectors here.components),
        append-nil (component_observables here.components),
        append-nil (symptom_entries here.components),
        its_probability,
        many_detectors,
        many_observables,
        its_components,
        its_detectors,
        its_observables,
        its_entries,
      )

  -- and those of it where it is kept
  one_if : (b : Bool) → tables_of (cond b (here ∷ []) [])
      ≡ tables (cond b (get_or t.probability n nan ∷ []) []) (cond b (d ∷ []) []) (cond b (o ∷ []) []) (cond b (c ∷ []) []) (cond b (take c cds) [])
      (cond b (take c cos) []) (cond b (take ((d + o) + k) es) [])
  unfolding tables_of
  one_if true = one
  one_if false = refl

  kept_here : kept_of (here ∷ []) ≡ cond (leb d 2) (here ∷ []) []
  unfolding kept_of filter
  kept_here = ap (λ (z : ℕ). cond (leb z 2) (here ∷ []) []) many_detectors

  model_here : model_of (suc n) t ≡ model_of n t ++ (here ∷ [])
  unfolding model_of
  model_here =
      ap (λ (z : ℕ). model_of z t) (sym (add-one n)) ∙ model_split n 1 t ∙ ap (λ (m : ErrorMechanism). model_of n t ++ (m ∷ [])) (first_from n t)

  kept_next : kept_of (model_of (suc n) t) ≡ kept_of (model_of n t) ++ cond (leb d 2) (here ∷ []) []
  unfolding kept_of
  kept_next =
      ap kept_of model_here ∙ filter_append is_graphlike (model_of n t) (here ∷ [])
      ∙ ap (λ (l : List ErrorMechanism). kept_of (model_of n t) ++ l) kept_here

none : (t : Tables) → tables_of (kept_of (model_of 0 t)) ≡ kept_tables 0 t
unfolding tables_of kept_of model_of kept_tables kept_by kept_parts filter
none t = refl

before : (n : ℕ) (t : Tables) → Reached (suc n) t → Reached n t
before n t r = reached n (suc n) t (omega arith) (hold_of (suc n) t r)

pub kept_tables_lem : (n : ℕ) (t : Tables) → Reached n t → tables_of (kept_of (model_of n t)) ≡ kept_tables n t
unfolding kept_tables kept_by kept_parts
kept_tables_lem zero t r = none t
kept_tables_lem (suc n) t r =
    ap tables_of (kept_next n t r) ∙ tables_append (kept_of (model_of n t)) _
    ∙ ap₂ onto (kept_tables_lem n t (before n t r)) (one_if n t r (leb (get_or t.detector_counts n 0) 2))
    ∙ rw (part_is n t r, ends_at n t r, components_sum n t)
