-- The tables of a model with a mechanism more, or with a component more.
use Prim.Native.Nat.{ℕ, suc, ◌+◌, ◌-◌, ◌<◌}
use native.Mathlib.Omega.{arith}
use mathlib.Core.Path.{◌≡◌, refl, sym, ap, ◌∙◌}
use mathlib.Core.List.{List, [], ◌∷◌, ◌++◌, map, append_assoc, append-nil}
use lib.ListN.{length, get_or, set, length-append}
use Rattle.dem.specs.Model.{Symptom}
use Rattle.dem.specs.Tables.{tables_of, symptom_entries, component_detectors, component_observables}
use Rattle.frames.specs.Input.{Given, tables_read, with_component}

-- ---- a mechanism more

abbrev pub fresh : ℕ → Symptom → Given
fresh p y = record { bits = p; symptom = y; components = [] }

module _ (p : ℕ) (y : Symptom) where
  pub bits_fresh : (gs : List Given) → map (λ g. g.bits) (gs ++ (fresh p y ∷ [])) ≡ map (λ g. g.bits) gs ++ (p ∷ [])
  bits_fresh [] = refl
  bits_fresh (g ∷ gs) = ap {B = List ℕ} (λ r. g.bits ∷ r) (bits_fresh gs)

  pub detectors_fresh : (gs : List Given) → (tables_read (gs ++ (fresh p y ∷ []))).detector_counts ≡ (tables_read gs).detector_counts ++ (length y.detectors ∷ [])
  unfolding tables_of
  detectors_fresh [] = refl
  detectors_fresh (g ∷ gs) = ap {B = List ℕ} (λ r. length g.symptom.detectors ∷ r) (detectors_fresh gs)

  pub observables_fresh : (gs : List Given) → (tables_read (gs ++ (fresh p y ∷ []))).observable_counts ≡ (tables_read gs).observable_counts ++ (length y.observables ∷ [])
  unfolding tables_of
  observables_fresh [] = refl
  observables_fresh (g ∷ gs) = ap {B = List ℕ} (λ r. length g.symptom.observables ∷ r) (observables_fresh gs)

  pub components_fresh : (gs : List Given) → (tables_read (gs ++ (fresh p y ∷ []))).component_counts ≡ (tables_read gs).component_counts ++ (0 ∷ [])
  unfolding tables_of
  components_fresh [] = refl
  components_fresh (g ∷ gs) = ap {B = List ℕ} (λ r. length g.components ∷ r) (components_fresh gs)

  pub theirs_fresh : (gs : List Given) → (tables_read (gs ++ (fresh p y ∷ []))).component_detectors ≡ (tables_read gs).component_detectors
  unfolding tables_of
  theirs_fresh [] = refl
  theirs_fresh (g ∷ gs) = ap (λ r. component_detectors g.components ++ r) (theirs_fresh gs)

  pub theirs_fresh' : (gs : List Given) → (tables_read (gs ++ (fresh p y ∷ []))).component_observables ≡ (tables_read gs).component_observables
  unfolding tables_of
  theirs_fresh' [] = refl
  theirs_fresh' (g ∷ gs) = ap (λ r. component_observables g.components ++ r) (theirs_fresh' gs)

  pub entries_fresh : (gs : List Given) → (tables_read (gs ++ (fresh p y ∷ []))).entries ≡ (tables_read gs).entries ++ (y.detectors ++ y.observables)
  unfolding tables_of
  entries_fresh [] = ap (λ r. y.detectors ++ r) (append-nil y.observables)
  entries_fresh (g ∷ gs) =
      let ds = g.symptom.detectors in
      let os = g.symptom.observables in
      let es = symptom_entries g.components in
      let rest = (tables_read gs).entries in
      let new = y.detectors ++ y.observables in
      ap (λ r. ds ++ (os ++ (es ++ r))) (entries_fresh gs)
      ∙ sym (append_assoc ds (os ++ (es ++ rest)) new ∙ ap (λ r. ds ++ r) (append_assoc os (es ++ rest) new ∙ ap (λ r. os ++ r) (append_assoc es rest new)))

-- ---- a component more

detectors_more : (cs : List Symptom) (y : Symptom) → component_detectors (cs ++ (y ∷ [])) ≡ component_detectors cs ++ (length y.detectors ∷ [])
unfolding component_detectors
detectors_more [] y = refl
detectors_more (c ∷ cs) y = ap {B = List ℕ} (λ r. length c.detectors ∷ r) (detectors_more cs y)

observables_more : (cs : List Symptom) (y : Symptom) → component_observables (cs ++ (y ∷ [])) ≡ component_observables cs ++ (length y.observables ∷ [])
unfolding component_observables
observables_more [] y = refl
observables_more (c ∷ cs) y = ap {B = List ℕ} (λ r. length c.observables ∷ r) (observables_more cs y)

entries_more : (cs : List Symptom) (y : Symptom) → symptom_entries (cs ++ (y ∷ [])) ≡ symptom_entries cs ++ (y.detectors ++ y.observables)
unfolding symptom_entries
entries_more [] y = ap (λ r. y.detectors ++ r) (append-nil y.observables)
entries_more (c ∷ cs) y =
    let new = y.detectors ++ y.observables in
    ap (λ r. c.detectors ++ (c.observables ++ r)) (entries_more cs y)
    ∙ sym (append_assoc c.detectors (c.observables ++ symptom_entries cs) new ∙ ap (λ r. c.detectors ++ r) (append_assoc c.observables (symptom_entries cs) new))

-- a suffix behind an empty one
onto_nil : (a b : List ℕ) → (a ++ b) ++ [] ≡ (a ++ []) ++ b
onto_nil a b = append-nil (a ++ b) ∙ ap (λ r. r ++ b) (sym (append-nil a))

module _ (y : Symptom) where
  pub length_with : (gs : List Given) → length (with_component y gs) ≡ length gs
  unfolding with_component
  length_with [] = refl
  length_with (g ∷ []) = refl
  length_with (g ∷ h ∷ gs) = ap suc (length_with (h ∷ gs))

  pub bits_with : (gs : List Given) → map (λ g. g.bits) (with_component y gs) ≡ map (λ g. g.bits) gs
  unfolding with_component
  bits_with [] = refl
  bits_with (g ∷ []) = refl
  bits_with (g ∷ h ∷ gs) = ap {B = List ℕ} (λ r. g.bits ∷ r) (bits_with (h ∷ gs))

  pub detectors_with : (gs : List Given) → (tables_read (with_component y gs)).detector_counts ≡ (tables_read gs).detector_counts
  unfolding with_component tables_of
  detectors_with [] = refl
  detectors_with (g ∷ []) = refl
  detectors_with (g ∷ h ∷ gs) = ap {B = List ℕ} (λ r. length g.symptom.detectors ∷ r) (detectors_with (h ∷ gs))

  pub observables_with : (gs : List Given) → (tables_read (with_component y gs)).observable_counts ≡ (tables_read gs).observable_counts
  unfolding with_component tables_of
  observables_with [] = refl
  observables_with (g ∷ []) = refl
  observables_with (g ∷ h ∷ gs) = ap {B = List ℕ} (λ r. length g.symptom.observables ∷ r) (observables_with (h ∷ gs))

  pub components_with : (gs : List Given) → (tables_read (with_component y gs)).component_counts
      ≡ set (tables_read gs).component_counts (length gs - 1) (get_or (tables_read gs).component_counts (length gs - 1) 0 + 1)
  unfolding with_component tables_of
  components_with [] = refl
  components_with (g ∷ []) = ap {B = List ℕ} (λ k. k ∷ []) (length-append g.components (y ∷ []))
  components_with (g ∷ h ∷ gs) =
      let e : length (g ∷ h ∷ gs) - 1 ≡ suc (length (h ∷ gs) - 1) = omega arith in
      let counts = (tables_read (g ∷ h ∷ gs)).component_counts in
      ap {B = List ℕ} (λ r. length g.components ∷ r) (components_with (h ∷ gs))
      ∙ sym (ap (λ (k : ℕ). set counts k (get_or counts k 0 + 1)) e)

  pub theirs_with : (gs : List Given) → 0 < length gs → (tables_read (with_component y gs)).component_detectors ≡ (tables_read gs).component_detectors ++ (length y.detectors ∷ [])
  unfolding with_component tables_of
  theirs_with [] h = absurd (omega arith)
  theirs_with (g ∷ []) h = ap (λ r. r ++ []) (detectors_more g.components y) ∙ onto_nil (component_detectors g.components) (length y.detectors ∷ [])
  theirs_with (g ∷ k ∷ gs) h =
      ap (λ r. component_detectors g.components ++ r) (theirs_with (k ∷ gs) (omega arith))
      ∙ sym (append_assoc (component_detectors g.components) (tables_read (k ∷ gs)).component_detectors (length y.detectors ∷ []))

  pub theirs_with' : (gs : List Given) → 0 < length gs → (tables_read (with_component y gs)).component_observables ≡ (tables_read gs).component_observables ++ (length y.observables ∷ [])
  unfolding with_component tables_of
  theirs_with' [] h = absurd (omega arith)
  theirs_with' (g ∷ []) h = ap (λ r. r ++ []) (observables_more g.components y) ∙ onto_nil (component_observables g.components) (length y.observables ∷ [])
  theirs_with' (g ∷ k ∷ gs) h =
      ap (λ r. component_observables g.components ++ r) (theirs_with' (k ∷ gs) (omega arith))
      ∙ sym (append_assoc (component_observables g.components) (tables_read (k ∷ gs)).component_observables (length y.observables ∷ []))

  pub entries_with : (gs : List Given) → 0 < length gs → (tables_read (with_component y gs)).entries ≡ (tables_read gs).entries ++ (y.detectors ++ y.observables)
  unfolding with_component tables_of
  entries_with [] h = absurd (omega arith)
  entries_with (g ∷ []) h =
      let ds = g.symptom.detectors in
      let os = g.symptom.observables in
      let es = symptom_entries g.components in
      let new = y.detectors ++ y.observables in
      ap (λ r. ds ++ (os ++ r)) (ap (λ r. r ++ []) (entries_more g.components y) ∙ onto_nil es new)
      ∙ sym (append_assoc ds (os ++ (es ++ [])) new ∙ ap (λ r. ds ++ r) (append_assoc os (es ++ []) new))
  entries_with (g ∷ k ∷ gs) h =
      let ds = g.symptom.detectors in
      let os = g.symptom.observables in
      let es = symptom_entries g.components in
      let rest = (tables_read (k ∷ gs)).entries in
      let new = y.detectors ++ y.observables in
      ap (λ r. ds ++ (os ++ (es ++ r))) (entries_with (k ∷ gs) (omega arith))
      ∙ sym (append_assoc ds (os ++ (es ++ rest)) new ∙ ap (λ r. ds ++ r) (append_assoc os (es ++ rest) new ∙ ap (λ r. os ++ r) (append_assoc es rest new)))
