-- Every component, in order.
use Rattle.std.specs.Prelude.{Option}
use Rattle.std.specs.Prelude.{Some, None}
use Prim.Native.Nat.{ℕ, suc, ◌+◌, ◌-◌, ◌<◌, ◌≤◌}
use native.Mathlib.Omega.{arith}
use mathlib.Core.Path.{◌≡◌, refl, sym, ap, ◌∙◌, subst}
use mathlib.Core.List.{List, [], ◌∷◌, ◌++◌}
use mathlib.Core.Bool.{true, false, not, ◌&&◌, ◌||◌}
use lib.Dec.{leb}
use lib.IntN.{pos}
use lib.Ieee.{Float, fin}
use lib.ListN.{length, get_or, drop, length-append, length-drop}
use lib.Seq.{drop-drop, length-take-le}
use borrow.Author.Tests.{leb-true, not-false}
use Rattle.lists.specs.Lists.{any}
use Rattle.lists.proofs.Truth.{case-of, and_left, and_right, or_left, or_right}
use Rattle.codes.specs.declared.Refusal.{Refusal}
use Rattle.codes.specs.declared.Refusal.TheVariants.{Limit}
use Rattle.dem.specs.Model.{Symptom, ErrorMechanism, list_fits, symptom_fits, symptoms_fit}
use Rattle.dem.specs.Tables.{Tables, components_of, component_entries}
use Rattle.dem.specs.Decompose.{Places, Split, into, refused, plus, add_at, has_place, add_component, add_next, add_components, last_equal, one_or_two}
use Rattle.dem.proofs.Checks.{first_of_lem, next_of, first_inside, others_inside}
use Rattle.last_equal.specs.declared.Span.{Span}
use Rattle.suggested.specs.declared.Size.{Size}
use Rattle.suggested.specs.declared.Mechanisms.{Mechanisms}
use Rattle.last_equal.specs.Last.{symptom_in, Component}
use Rattle.suggested.specs.Held.{places_of, size_of, components_from, Suggested}
use Rattle.suggested.specs.Lent.{HoldsBy, OutcomeBy}
use Rattle.suggested.proofs.Models.{raised_length}

-- ---- the next component

abbrev pub span_at : ℕ → ℕ → List ℕ → List ℕ → Span
span_at c e cds cos = record { at = e; detectors = get_or cds c 0; observables = get_or cos c 0 }

module _ (n m c e : ℕ) (cds cos es : List ℕ) (h : n ≡ suc m) where
  abbrev size_here : ℕ
  size_here = get_or cds c 0 + get_or cos c 0

  components_turn : components_from n c e cds cos es ≡ symptom_in es (span_at c e cds cos) ∷ components_from m (c + 1) (e + size_here) cds cos es
  unfolding components_of
  components_turn =
      ap (λ (k : ℕ). components_from k c e cds cos es) h
      ∙ rw (first_of_lem c cds 0, first_of_lem c cos 0, next_of c cds, next_of c cos, drop-drop (get_or cds c 0) e es, drop-drop size_here e es)

  entries_turn : component_entries n (drop c cds) (drop c cos) ≡ size_here + component_entries m (drop (c + 1) cds) (drop (c + 1) cos)
  unfolding component_entries
  entries_turn = ap (λ (k : ℕ). component_entries k (drop c cds) (drop c cos)) h ∙ rw (first_of_lem c cds 0, first_of_lem c cos 0, next_of c cds, next_of c cos)

  module _ (D : ℕ) (s : Suggested n c e D cds cos es) where
    rest : List Symptom
    rest = components_from m (c + 1) (e + size_here) cds cos es

    here : Symptom
    here = symptom_in es (span_at c e cds cos)

    fit : (symptom_fits D 128 here && symptoms_fit D 128 rest) ≡ true
    unfolding symptoms_fit here rest
    fit = ap (symptoms_fit D 128) (sym components_turn) ∙ s.checked

    alike : (not (one_or_two here) || any (λ r. not (one_or_two r)) rest) ≡ false
    unfolding any here rest
    alike = ap (any (λ r. not (one_or_two r))) (sym components_turn) ∙ s.one_or_two_is

    inside : e + size_here ≤ length es
    inside = first_inside cds cos es n c e (omega arith) s.within

    some_detector : 0 < get_or cds c 0
    unfolding here
    some_detector =
        let l = leb-true 1 (length here.detectors) (and_left (leb 1 (length here.detectors)) (leb (length here.detectors) 2) (not-false (one_or_two here) (or_left (not (one_or_two here)) (any (λ r. not (one_or_two r)) rest) alike))) in
        omega (arith, l, inside, length-take-le (get_or cds c 0) (drop e es) (omega (arith, inside, length-drop e es)))

    both : (list_fits D here.detectors && list_fits 128 here.observables) ≡ true
    unfolding symptom_fits
    both = and_left _ _ fit

    pub component_here : Component D (span_at c e cds cos) es
    unfolding here
    component_here = record {
      small = omega (arith, s.small);
      some_detectors = some_detector;
      inside = omega (arith, inside);
      detectors = and_left (list_fits D here.detectors) (list_fits 128 here.observables) both;
      observables = and_right (list_fits D here.detectors) (list_fits 128 here.observables) both;
    }

    pub others_suggested : Suggested m (c + 1) (e + size_here) D cds cos es
    unfolding rest
    others_suggested = record {
      within = let q : n - 1 ≡ m = omega arith in rw q at (others_inside cds cos es n c e (omega arith) s.within);
      small = omega (arith, s.small, entries_turn);
      checked = and_right (symptom_fits D 128 here) (symptoms_fit D 128 rest) fit;
      one_or_two_is = or_right (not (one_or_two here)) (any (λ r. not (one_or_two r)) rest) alike;
    }

-- ---- what is left to do

pub stopped : (room : Places) (p : Float) (cs : List Symptom) (r : Refusal) → add_components room p cs (refused r) ≡ refused r
unfolding add_components
stopped room p [] r = refl
stopped room p (c ∷ cs) r = stopped room p cs r

pub none_in : {A : Type 0} (r : Refusal) (ms : List ErrorMechanism) → refused r ≡ into ms → A
none_in r ms e = absurd (let z : ◌≡◌ {A = ℕ} 0 1 = cc in omega arith)

abbrev fresh : Float → Symptom → ErrorMechanism
fresh p s = record { probability = plus (fin false 0 (pos 0)) p; symptom = s; components = [] }

added_few : (room : Places) (p : Float) (s : Symptom) (ms : List ErrorMechanism) (o : Option ℕ) (ms' : List ErrorMechanism) → add_component room p s ms o ≡ into ms' → length ms' ≤ length ms + 1
unfolding add_component
added_few room p s ms (Some k) ms' e = let q : add_at p k ms ≡ ms' = cc in omega (arith, ap length q, raised_length p k ms)
added_few room p s ms None ms' e = case-of (has_place room s ms)
    (λ t. let q = rw t at e in let w : ms ++ (fresh p s ∷ []) ≡ ms' = cc in omega (arith, ap length w, length-append ms (fresh p s ∷ [])))
    (λ f. let q = rw f at e in none_in Limit ms' q)

module _ (room : Size) (p : Float) (all : Split) (was : Tables) (es : List ℕ) where
  -- the model now, and what is left to do from it gives the whole
  pub record Continued (cs : List Symptom) (size : Size) (lent : Mechanisms) : Type 0 where
    pub model : List ErrorMechanism
    pub holds : HoldsBy model was size es lent
    pub left : add_components (places_of room) p cs (into model) ≡ all

  module _ (whole : List Symptom) (s : Symptom) (cs : List Symptom) (t : whole ≡ s ∷ cs) (size : Size) (lent : Mechanisms)
      (k : Continued whole size lent)
      (lent' : Mechanisms) where
    left_here : add_components (places_of room) p (s ∷ cs) (into k.model) ≡ all
    left_here = ap (λ (l : List Symptom). add_components (places_of room) p l (into k.model)) (sym t) ∙ k.left

    next_of_split : (x : Split) (g : Size) → add_next (places_of room) p s (into k.model) ≡ x → OutcomeBy x was (Some g) es lent'
        → Continued cs g lent' × (g.mechanisms ≤ size.mechanisms + 1)
    unfolding add_components
    next_of_split (into ms) g e o =
        let q = o.0 in
        let w : size_of ms ≡ g = cc in
        let few = added_few (places_of room) p s k.model (last_equal s 0 k.model) ms e in (
          record { model = ms; holds = rw (← w) o.1; left = ap (add_components (places_of room) p cs) (sym e) ∙ left_here },
          omega (arith, few, ap (λ (u : Size). u.mechanisms) w, ap (λ (u : Size). u.mechanisms) k.holds.sized),
        )
    next_of_split (refused x) g e o = let q = o.1 in absurd (cc)

    continue_next : (g : Size) → OutcomeBy (add_next (places_of room) p s (into k.model)) was (Some g) es lent'
        → Continued cs g lent' × (g.mechanisms ≤ size.mechanisms + 1)
    continue_next g o = next_of_split (add_next (places_of room) p s (into k.model)) g refl o

    full_of_split : (x : Split) → add_next (places_of room) p s (into k.model) ≡ x → OutcomeBy x was None es lent' → all ≡ refused Limit
    unfolding add_components
    full_of_split (into ms) e o = let q = o.0 in absurd (cc)
    full_of_split (refused x) e o = sym left_here ∙ ap (add_components (places_of room) p cs) e ∙ stopped (places_of room) p cs x ∙ ap refused o.0

    continue_full : OutcomeBy (add_next (places_of room) p s (into k.model)) was None es lent' → OutcomeBy all was None es lent'
    continue_full o =
        subst (λ (x : Split). OutcomeBy x was None es lent') (sym (full_of_split (add_next (places_of room) p s (into k.model)) refl o)) (refl, refl)

  continue_end : (cs : List Symptom) (size : Size) (lent : Mechanisms) → Continued cs size lent → cs ≡ []
      → OutcomeBy all was (Some size) es lent
  unfolding add_components
  continue_end cs size lent k e =
      let q : into k.model ≡ all = ap (λ (l : List Symptom). add_components (places_of room) p l (into k.model)) (sym e) ∙ k.left in
      subst (λ (x : Split). OutcomeBy x was (Some size) es lent) q (ap Some k.holds.sized, rw (← k.holds.sized) k.holds)

-- ---- the turns of the loop, at component c of those before `end`

module _ (room : Size) (p : Float) (all : Split) (was : Tables) (cds cos es : List ℕ) (end c e : ℕ) (size : Size) (lent : Mechanisms)
    (k : Continued room p all was es (components_from (end - c) c e cds cos es) size lent) where
  pub turn_end : end ≤ c → OutcomeBy all was (Some size) es lent
  unfolding components_of
  turn_end h = let z : end - c ≡ 0 = omega arith in continue_end room p all was es _ size lent k (rw z)

  module _ (h : c < end) (lent' : Mechanisms) where
    pub turn_full : OutcomeBy (add_next (places_of room) p (symptom_in es (span_at c e cds cos)) (into k.model)) was None es lent'
        → OutcomeBy all was None es lent'
    turn_full o =
        let t = components_turn (end - c) (end - (c + 1)) c e cds cos es (omega arith) in
        continue_full room p all was es _ _ _ t size lent k lent' o

    pub turn_next : (g : Size) → OutcomeBy (add_next (places_of room) p (symptom_in es (span_at c e cds cos)) (into k.model)) was (Some g) es lent'
        → Continued room p all was es (components_from (end - (c + 1)) (c + 1) (e + (get_or cds c 0 + get_or cos c 0)) cds cos es) g lent' × (g.mechanisms ≤ size.mechanisms + 1)
    turn_next g o =
        let t = components_turn (end - c) (end - (c + 1)) c e cds cos es (omega arith) in
        continue_next room p all was es _ _ _ t size lent k lent' g o
