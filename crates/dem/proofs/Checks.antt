-- The turns of the loops that check lists.
use Prim.Native.Nat.{ℕ, zero, suc, ◌+◌, ◌-◌, ◌<◌, ◌≤◌}
use native.Mathlib.Nat.{add-zero}
use native.Mathlib.Numerals.{add-one}
use native.Mathlib.Omega.{arith}
use mathlib.Core.Path.{◌≡◌, refl, ap, ◌∙◌}
use mathlib.Core.List.{List, ◌∷◌}
use mathlib.Core.Bool.{true, false, not, ◌&&◌}
use lib.ListN.{length, get_or, take, drop, drop_of_length-le}
use lib.Seq.{drop-cons, drop-drop, get_or-drop}
use borrow.Author.Tests.{le-leb, lt-ltb, lt-leb, le-ltb}
use lib.Dec.{leb}
use Rattle.codes.specs.declared.Refusal.TheVariants.{Probability, Index}
use Rattle.codes.specs.Order.{refuse_if, and_then}
use Rattle.codes.specs.Limits.{max_entries}
use Rattle.dem.specs.declared.Mechanism.{Mechanism}
use Rattle.dem.specs.declared.Place.{Place}
use Rattle.dem.specs.Model.{ascending, list_fits, symptom_fits, symptoms_fit, lists_fit, probability_fits, check_mechanism}
use Rattle.dem.specs.Tables.{components_of, component_entries, first_of}
use Rattle.dem.specs.Positions.{symptom_at, mechanism_at, Within}

-- ---- an ascending list

module _ (low bound : ℕ) (xs : List ℕ) (i : ℕ) (h : i < length xs) where
  pub turn_low : get_or xs i 0 < low → ascending low bound (drop i xs) ≡ false
  unfolding ascending
  turn_low k = rw (drop-cons xs i 0 h, lt-leb low (get_or xs i 0) k)

  pub turn_high : low ≤ get_or xs i 0 → bound ≤ get_or xs i 0 → ascending low bound (drop i xs) ≡ false
  unfolding ascending
  turn_high k b = rw (drop-cons xs i 0 h, le-leb low (get_or xs i 0) k, le-ltb (get_or xs i 0) bound b)

  pub turn_next : low ≤ get_or xs i 0 → get_or xs i 0 < bound → ascending low bound (drop i xs) ≡ ascending (get_or xs i 0 + 1) bound (drop (i + 1) xs)
  unfolding ascending
  turn_next k b = rw (add-one i, add-one (get_or xs i 0), drop-cons xs i 0 h, le-leb low (get_or xs i 0) k, lt-ltb (get_or xs i 0) bound b)

pub turn_end : (low bound : ℕ) (xs : List ℕ) (i : ℕ) → length xs ≤ i → ascending low bound (drop i xs) ≡ true
unfolding ascending
turn_end low bound xs i h = rw (drop_of_length-le xs h)

-- ---- the front of what is left of a list

pub first_of_lem : {A : Type 0} (n : ℕ) (xs : List A) (z : A) → get_or (drop n xs) 0 z ≡ get_or xs n z
first_of_lem n xs z = get_or-drop n xs 0 z ∙ ap (λ (k : ℕ). get_or xs k z) (add-zero n)

pub next_of : {A : Type 0} (n : ℕ) (xs : List A) → drop 1 (drop n xs) ≡ drop (n + 1) xs
next_of n xs = drop-drop 1 n xs

-- ---- a symptom's two lists, as parts of the entries
pub symptom_parts : (D O d o at : ℕ) (es : List ℕ)
    → symptom_fits D O (symptom_at d o (drop at es)) ≡ (list_fits D (take (at + d - at) (drop at es)) && list_fits O (take (at + d + o - (at + d)) (drop (at + d) es)))
unfolding symptom_fits
symptom_parts D O d o at es =
    let p : at + d - at ≡ d = omega arith in
    let q : at + d + o - (at + d) ≡ o = omega arith in
    rw (p, q, drop-drop d at es)

-- ---- components

module _ (cds cos : List ℕ) where
  entries_turn : (n c : ℕ) → 0 < n → component_entries n (drop c cds) (drop c cos) ≡ (get_or cds c 0 + get_or cos c 0) + component_entries (n - 1) (drop (c + 1) cds) (drop (c + 1) cos)
  unfolding component_entries
  entries_turn zero c h = absurd (omega arith)
  entries_turn (suc n) c h =
      let p : suc n - 1 ≡ n = omega arith in
      rw (p, first_of_lem c cds 0, first_of_lem c cos 0, next_of c cds, next_of c cos)

  components_turn : (n c e : ℕ) (es : List ℕ) → 0 < n
      → components_of n (drop c cds) (drop c cos) (drop e es)
      ≡ symptom_at (get_or cds c 0) (get_or cos c 0) (drop e es) ∷ components_of (n - 1) (drop (c + 1) cds) (drop (c + 1) cos) (drop (e + (get_or cds c 0 + get_or cos c 0)) es)
  unfolding components_of
  components_turn zero c e es h = absurd (omega arith)
  components_turn (suc n) c e es h =
      let p : suc n - 1 ≡ n = omega arith in
      rw (p, first_of_lem c cds 0, first_of_lem c cos 0, next_of c cds, next_of c cos, drop-drop (get_or cds c 0 + get_or cos c 0) e es)

  module _ (es : List ℕ) where
    pub fit_turn : (D O n c e : ℕ) → 0 < n
        → symptoms_fit D O (components_of n (drop c cds) (drop c cos) (drop e es))
        ≡ (symptom_fits D O (symptom_at (get_or cds c 0) (get_or cos c 0) (drop e es))
        && symptoms_fit D O (components_of (n - 1) (drop (c + 1) cds) (drop (c + 1) cos) (drop (e + (get_or cds c 0 + get_or cos c 0)) es)))
    unfolding symptoms_fit
    fit_turn D O n c e h = rw (components_turn n c e es h)

    -- the first lies inside the tables
    pub first_inside : (n c e : ℕ) → 0 < n → Within n c e cds cos es → e + (get_or cds c 0 + get_or cos c 0) ≤ length es
    first_inside n c e h w = omega (arith, entries_turn n c h, w.entries)

    -- and so do the others
    pub others_inside : (n c e : ℕ) → 0 < n → Within n c e cds cos es → Within (n - 1) (c + 1) (e + (get_or cds c 0 + get_or cos c 0)) cds cos es
    others_inside n c e h w = record {
      detectors = omega (arith, w.detectors);
      observables = omega (arith, w.observables);
      entries = omega (arith, entries_turn n c h, w.entries);
    }

-- ---- a mechanism

length_components : (n : ℕ) (cds cos es : List ℕ) → length (components_of n cds cos es) ≡ n
unfolding components_of
length_components zero cds cos es = refl
length_components (suc n) cds cos es = ap suc (length_components n (drop 1 cds) (drop 1 cos) (drop (get_or cds 0 0 + get_or cos 0 0) es))

module _ (D O : ℕ) (h : Mechanism) (p : Place) (cds cos es : List ℕ) where
  pub lists_parts : lists_fit D O (mechanism_at h p cds cos es)
      ≡ (symptom_fits D O (symptom_at h.detectors h.observables (drop p.entry es))
      && (leb h.components max_entries
      && symptoms_fit D O (components_of h.components (drop p.component cds) (drop p.component cos) (drop (p.entry + (h.detectors + h.observables)) es))))
  unfolding lists_fit mechanism_at first_of
  lists_parts =
      rw (
        length_components h.components (drop p.component cds) (drop p.component cos) (drop (h.detectors + h.observables) (drop p.entry es)),
        drop-drop (h.detectors + h.observables) p.entry es,
      )

  probability_at : (mechanism_at h p cds cos es).probability ≡ h.probability
  unfolding mechanism_at first_of
  probability_at = refl

  pub check_parts : (i : ℕ) → check_mechanism D O i (mechanism_at h p cds cos es)
      ≡ and_then (refuse_if (not (lists_fit D O (mechanism_at h p cds cos es))) (Index i)) (refuse_if (not (probability_fits h.probability)) (Probability i))
  unfolding check_mechanism
  check_parts i = rw probability_at
