-- What was written is read back.
use Prim.Native.Nat.{ℕ, suc, ◌+◌}
use native.Mathlib.Nat.{add_assoc}
use native.Mathlib.Omega.{arith}
use mathlib.Core.Path.{◌≡◌, refl, ap, ap₂, ◌∙◌}
use mathlib.Core.List.{List, [], ◌∷◌, ◌++◌, append_assoc, append-nil}
use lib.ListN.{length, drop, length-append}
use lib.Seq.{take-append_seam, drop-append_seam, drop-append-add, drop_at}
use Rattle.dem.specs.declared.Place.{Place}
use Rattle.dem.specs.Model.{Symptom, ErrorMechanism}
use Rattle.dem.specs.Tables.{Tables, components_of, component_entries, first_of, first_entries, rest_of, model_of, components_in, entries_in, symptom_entries, component_detectors, component_observables, tables_of, tables_written}
use Rattle.dem.specs.Positions.{tables, place_of}
use Rattle.dem.specs.Laws.{Reached}

-- ---- components

module _ (xs ys : List ℕ) where
  components_read : (cs : List Symptom) (zs : List ℕ) → components_of (length cs) (component_detectors cs ++ xs) (component_observables cs ++ ys) (symptom_entries cs ++ zs) ≡ cs
  unfolding components_of component_detectors component_observables symptom_entries
  components_read [] zs = refl
  components_read (s ∷ cs) zs =
      let ds = s.detectors in
      let os = s.observables in
      let es = symptom_entries cs in
      rw (
        append_assoc ds (os ++ es) zs,
        append_assoc os es zs,
        take-append_seam ds (os ++ (es ++ zs)),
        drop-append-add ds (os ++ (es ++ zs)) (length os),
        drop-append_seam ds (os ++ (es ++ zs)),
        take-append_seam os (es ++ zs),
        drop-append_seam os (es ++ zs),
        components_read cs zs,
      )

  components_take : (cs : List Symptom) → component_entries (length cs) (component_detectors cs ++ xs) (component_observables cs ++ ys) ≡ length (symptom_entries cs)
  unfolding component_entries component_detectors component_observables symptom_entries
  components_take [] = refl
  components_take (s ∷ cs) =
      rw (components_take cs, length-append s.detectors (s.observables ++ symptom_entries cs), length-append s.observables (symptom_entries cs))
      (omega arith)

length_detectors : (cs : List Symptom) → length (component_detectors cs) ≡ length cs
unfolding component_detectors
length_detectors [] = refl
length_detectors (s ∷ cs) = ap suc (length_detectors cs)

length_observables : (cs : List Symptom) → length (component_observables cs) ≡ length cs
unfolding component_observables
length_observables [] = refl
length_observables (s ∷ cs) = ap suc (length_observables cs)

-- ---- a mechanism in front of tables

abbrev front : ErrorMechanism → Tables → Tables
front m t =
    tables (m.probability ∷ t.probability) (length m.symptom.detectors ∷ t.detector_counts) (length m.symptom.observables ∷ t.observable_counts)
    (length m.components ∷ t.component_counts) (component_detectors m.components ++ t.component_detectors)
    (component_observables m.components ++ t.component_observables)
    (m.symptom.detectors ++ (m.symptom.observables ++ (symptom_entries m.components ++ t.entries)))

module _ (m : ErrorMechanism) (t : Tables) where
  first_front : first_of (front m t) ≡ m
  unfolding first_of
  first_front =
      let ds = m.symptom.detectors in
      let os = m.symptom.observables in
      let es = symptom_entries m.components ++ t.entries in
      rw (
        take-append_seam ds (os ++ es),
        drop-append-add ds (os ++ es) (length os),
        drop-append_seam ds (os ++ es),
        take-append_seam os es,
        drop-append_seam os es,
        components_read t.component_detectors t.component_observables m.components t.entries,
      )

  takes_front : first_entries (front m t) ≡ length m.symptom.detectors + (length m.symptom.observables + length (symptom_entries m.components))
  unfolding first_entries
  takes_front =
      rw (components_take t.component_detectors t.component_observables m.components)
      (add_assoc (length m.symptom.detectors) (length m.symptom.observables) (length (symptom_entries m.components)))

  rest_front : rest_of (front m t) ≡ t
  unfolding rest_of
  rest_front =
      let ds = m.symptom.detectors in
      let os = m.symptom.observables in
      let es = symptom_entries m.components in
      rw (
        takes_front,
        drop_at (component_detectors m.components) t.component_detectors (length m.components) (length_detectors m.components),
        drop_at (component_observables m.components) t.component_observables (length m.components) (length_observables m.components),
        drop-append-add ds (os ++ (es ++ t.entries)) (length os + length es),
        drop-append-add os (es ++ t.entries) (length es),
        drop-append_seam es t.entries,
      )

-- ---- tables in front of others

abbrev onto : Tables → Tables → Tables
onto t u =
    tables (t.probability ++ u.probability) (t.detector_counts ++ u.detector_counts) (t.observable_counts ++ u.observable_counts)
    (t.component_counts ++ u.component_counts) (t.component_detectors ++ u.component_detectors) (t.component_observables ++ u.component_observables)
    (t.entries ++ u.entries)

onto_front : (m : ErrorMechanism) (t u : Tables) → onto (front m t) u ≡ front m (onto t u)
onto_front m t u =
    let ds = m.symptom.detectors in
    let os = m.symptom.observables in
    let es = symptom_entries m.components in
    rw (
      append_assoc (component_detectors m.components) t.component_detectors u.component_detectors,
      append_assoc (component_observables m.components) t.component_observables u.component_observables,
      append_assoc ds (os ++ (es ++ t.entries)) u.entries,
      append_assoc os (es ++ t.entries) u.entries,
      append_assoc es t.entries u.entries,
    )

of_cons : (m : ErrorMechanism) (ms : List ErrorMechanism) → tables_of (m ∷ ms) ≡ front m (tables_of ms)
unfolding tables_of
of_cons m ms = refl

onto_cons : (m : ErrorMechanism) (ms : List ErrorMechanism) (u : Tables) → onto (tables_of (m ∷ ms)) u ≡ front m (onto (tables_of ms) u)
onto_cons m ms u = ap (λ t. onto t u) (of_cons m ms) ∙ onto_front m (tables_of ms) u

-- ---- a model in front of tables

read_front : (n : ℕ) (m : ErrorMechanism) (t : Tables) → model_of (suc n) (front m t) ≡ m ∷ model_of n t
unfolding model_of
read_front n m t = ap₂ {C = List ErrorMechanism} (λ k ks. k ∷ ks) (first_front m t) (ap (model_of n) (rest_front m t))

read_onto : (ms : List ErrorMechanism) (u : Tables) → model_of (length ms) (onto (tables_of ms) u) ≡ ms
unfolding model_of
read_onto [] u = refl
read_onto (m ∷ ms) u =
    ap (model_of (suc (length ms))) (onto_cons m ms u) ∙ read_front (length ms) m (onto (tables_of ms) u)
    ∙ ap {B = List ErrorMechanism} (λ ks. m ∷ ks) (read_onto ms u)

-- ---- its size

components_front : (n : ℕ) (m : ErrorMechanism) (t : Tables) → components_in (suc n) (front m t) ≡ length m.components + components_in n t
unfolding components_in
components_front n m t = ap (λ u. length m.components + components_in n u) (rest_front m t)

entries_front : (n : ℕ) (m : ErrorMechanism) (t : Tables)
    → entries_in (suc n) (front m t) ≡ length m.symptom.detectors + (length m.symptom.observables + length (symptom_entries m.components)) + entries_in n t
unfolding entries_in
entries_front n m t = ap₂ (λ (a : ℕ) (u : Tables). a + entries_in n u) (takes_front m t) (rest_front m t)

reached_front : (n : ℕ) (m : ErrorMechanism) (t : Tables) → Reached n t → Reached (suc n) (front m t)
reached_front n m t h =
    let ds = m.symptom.detectors in
    let os = m.symptom.observables in
    let es = symptom_entries m.components in
    record {
      probability = omega (arith, h.probability);
      detectors = omega (arith, h.detectors);
      observables = omega (arith, h.observables);
      components = omega (arith, h.components);
      component_detectors = omega (
        arith,
        components_front n m t,
        length-append (component_detectors m.components) t.component_detectors,
        length_detectors m.components,
        h.component_detectors,
      );
      component_observables = omega (
        arith,
        components_front n m t,
        length-append (component_observables m.components) t.component_observables,
        length_observables m.components,
        h.component_observables,
      );
      entries = omega (
        arith,
        entries_front n m t,
        length-append ds (os ++ (es ++ t.entries)),
        length-append os (es ++ t.entries),
        length-append es t.entries,
        h.entries,
      );
    }

reached_onto : (ms : List ErrorMechanism) (u : Tables) → Reached (length ms) (onto (tables_of ms) u)
unfolding components_in entries_in
reached_onto [] u = record {
  probability = omega arith;
  detectors = omega arith;
  observables = omega arith;
  components = omega arith;
  component_detectors = omega arith;
  component_observables = omega arith;
  entries = omega arith;
}
reached_onto (m ∷ ms) u = rw (onto_cons m ms u) (reached_front (length ms) m (onto (tables_of ms) u) (reached_onto ms u))

ends_onto : (ms : List ErrorMechanism) (u : Tables)
    → (components_in (length ms) (onto (tables_of ms) u) ≡ length (tables_of ms).component_detectors)
    × (entries_in (length ms) (onto (tables_of ms) u) ≡ length (tables_of ms).entries)
unfolding components_in entries_in tables_of
ends_onto [] u = (refl, refl)
ends_onto (m ∷ ms) u =
    let ds = m.symptom.detectors in
    let os = m.symptom.observables in
    let es = symptom_entries m.components in
    let t = tables_of ms in
    let ih = ends_onto ms u in (
      ap (components_in (suc (length ms))) (onto_cons m ms u)
          ∙ omega (
            arith,
            components_front (length ms) m (onto t u),
            length-append (component_detectors m.components) t.component_detectors,
            length_detectors m.components,
            ih.0,
          ),
      ap (entries_in (suc (length ms))) (onto_cons m ms u)
          ∙ omega (
            arith,
            entries_front (length ms) m (onto t u),
            length-append ds (os ++ (es ++ t.entries)),
            length-append os (es ++ t.entries),
            length-append es t.entries,
            ih.1,
          ),
    )

-- ---- what is written in front of the old contents, and the tables of a model alone

past_it : List ErrorMechanism → Tables → Tables
past_it ms was =
    let t = tables_of ms in
    tables (drop (length t.probability) was.probability) (drop (length t.detector_counts) was.detector_counts)
    (drop (length t.observable_counts) was.observable_counts) (drop (length t.component_counts) was.component_counts)
    (drop (length t.component_detectors) was.component_detectors) (drop (length t.component_observables) was.component_observables)
    (drop (length t.entries) was.entries)

written_is : (ms : List ErrorMechanism) (was : Tables) → tables_written ms was ≡ onto (tables_of ms) (past_it ms was)
unfolding tables_written past_it
written_is ms was = refl

alone_is : (t : Tables) → t ≡ onto t (tables [] [] [] [] [] [] [])
alone_is t =
    rw (
      append-nil t.probability,
      append-nil t.detector_counts,
      append-nil t.observable_counts,
      append-nil t.component_counts,
      append-nil t.component_detectors,
      append-nil t.component_observables,
      append-nil t.entries,
    )

module _ (ms : List ErrorMechanism) where
  pub read_alone : model_of (length ms) (tables_of ms) ≡ ms
  read_alone = ap (model_of (length ms)) (alone_is (tables_of ms)) ∙ read_onto ms (tables [] [] [] [] [] [] [])

  pub reached_alone : Reached (length ms) (tables_of ms)
  reached_alone = rw (alone_is (tables_of ms)) (reached_onto ms (tables [] [] [] [] [] [] []))

  module _ (was : Tables) where
    pub read_back : model_of (length ms) (tables_written ms was) ≡ ms
    read_back = ap (model_of (length ms)) (written_is ms was) ∙ read_onto ms (past_it ms was)

    pub reached_written : Reached (length ms) (tables_written ms was)
    reached_written = rw (written_is ms was) (reached_onto ms (past_it ms was))

    pub ends_written : place_of (length ms) (tables_written ms was) ≡ record { component = length (tables_of ms).component_detectors; entry = length (tables_of ms).entries }
    ends_written =
        let e = ends_onto ms (past_it ms was) in
        ap (place_of (length ms)) (written_is ms was) ∙ ap₂ {C = Place} (λ (c : ℕ) (e : ℕ). record { component = c; entry = e }) e.0 e.1
