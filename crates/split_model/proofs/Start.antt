-- The kept mechanisms by their starts in the entries given.
use Prim.Native.Nat.{ℕ, zero, suc, ◌+◌, ◌-◌, ◌<◌, ◌≤◌}
use native.Mathlib.Numerals.{add-one}
use native.Mathlib.Omega.{arith}
use mathlib.Core.Path.{◌≡◌, refl, sym, ap, ap₂, ◌∙◌, subst}
use mathlib.Core.List.{List, [], ◌∷◌, ◌++◌}
use mathlib.Core.Bool.{Bool, true, false, cond, ◌&&◌}
use lib.ListN.{length, get_or, drop, length-append, get_or-append}
use lib.Seq.{get_or-append_seam, drop-append_seam, drop-drop}
use lib.Dec.{eqb, leb}
use lib.Ieee.{Float}
use borrow.Author.Tests.{eqb-true, eqb-false}
use Rattle.lists.specs.Lists.{filter}
use Rattle.lists.proofs.Truth.{case-of, and_left, and_right}
use Rattle.lists.proofs.Ranges.{filter_append}
use Rattle.dem.specs.Model.{Symptom, ErrorMechanism, list_fits, symptom_fits, lists_fit}
use Rattle.dem.specs.Tables.{Tables, first_of, model_of, entries_in, tables_hold, tables_of, symptom_entries, written}
use Rattle.dem.specs.Positions.{head_of, mechanism_at, place_of, Inside}
use Rattle.dem.specs.Laws.{Reached}
use Rattle.dem.specs.Decompose.{is_graphlike, kept_of, entries_of}
use Rattle.dem.proofs.Positions.{first_from, model_split, inside_of, reached_of, hold_of}
use Rattle.dem.proofs.Laws.{reached, at}
use Rattle.cover.specs.Kept.{detectors_at, symptom_at, Detectors, Observables}
use Rattle.kept.specs.Columns.{kept_by}
use Rattle.kept.proofs.Kept.{many_detectors, many_observables}
use Rattle.last_equal.specs.Last.{Chained}
use Rattle.suggested.specs.Held.{size_of, Holds}
use Rattle.suggested.proofs.Models.{lengths}
use Rattle.split_model.specs.Begun.{columns_of}

abbrev here_of : ℕ → Tables → ErrorMechanism
here_of i t = mechanism_at (head_of i t) (place_of i t) t.component_detectors t.component_observables t.entries

earlier : (n : ℕ) (t : Tables) → Reached (suc n) t → Reached n t
earlier n t r = reached n (suc n) t (omega arith) (hold_of (suc n) t r)

pub kept_next : (n : ℕ) (t : Tables) → Reached (suc n) t → kept_of (model_of (suc n) t) ≡ kept_of (model_of n t) ++ cond (leb (get_or t.detector_counts n 0) 2) (here_of n t ∷ []) []
unfolding kept_of model_of filter
kept_next n t r =
    ap kept_of (ap (λ (z : ℕ). model_of z t) (sym (add-one n)) ∙ model_split n 1 t ∙ ap (λ (m : ErrorMechanism). model_of n t ++ (m ∷ [])) (first_from n t))
    ∙ filter_append is_graphlike (model_of n t) (here_of n t ∷ [])
    ∙ ap (λ (z : ℕ). kept_of (model_of n t) ++ cond (leb z 2) (here_of n t ∷ []) []) (many_detectors n t r)

-- kept mechanism k is mechanism i of the tables given
pub record Place (n : ℕ) (t : Tables) (k : ℕ) : Type 0 where
  pub i : ℕ
  pub below : i < n
  pub start : get_or (kept_by n t.detector_counts (λ j. entries_in j t)) k 0 ≡ entries_in i t
  pub same : (z : ErrorMechanism) → get_or (kept_of (model_of n t)) k z ≡ here_of i t

many : (n : ℕ) (t : Tables) → Reached n t → length (kept_by n t.detector_counts (λ j. entries_in j t)) ≡ length (kept_of (model_of n t))
unfolding kept_by kept_of model_of filter
many zero t r = refl
many (suc n) t r =
    let f : ℕ → ℕ = λ j. entries_in j t in
    let b = leb (get_or t.detector_counts n 0) 2 in
    length-append (kept_by n t.detector_counts f) (cond b (f n ∷ []) [])
    ∙ ap₂ (λ (x : ℕ) (y : ℕ). x + y) (many n t (earlier n t r)) (same b)
    ∙ sym (ap length (kept_next n t r) ∙ length-append (kept_of (model_of n t)) (cond b (here_of n t ∷ []) []))
  where
    same : (b : Bool) → length (cond b (entries_in n t ∷ []) []) ≡ length (cond b (here_of n t ∷ []) [])
    same true = refl
    same false = refl

module _ (n : ℕ) (t : Tables) (r : Reached (suc n) t) where
  abbrev f : ℕ → ℕ
  f j = entries_in j t

  abbrev ds : List ℕ
  ds = t.detector_counts

  abbrev old : List ErrorMechanism
  old = kept_of (model_of n t)

  same_long : length (kept_by n ds f) ≡ length old
  same_long = many n t (earlier n t r)

  place_before : (k : ℕ) → k < length old → Place n t k → Place (suc n) t k
  unfolding kept_by
  place_before k l p = record {
    i = p.i;
    below = omega (arith, p.below);
    start = get_or-append (kept_by n ds f) (cond (leb (get_or ds n 0) 2) (f n ∷ []) []) 0 k (omega (arith, same_long)) ∙ p.start;
    same = λ z. ap (λ (l : List ErrorMechanism). get_or l k z) (kept_next n t r) ∙ get_or-append old (cond (leb (get_or ds n 0) 2) (here_of n t ∷ []) []) z k l ∙ p.same z;
  }

  place_last : (k : ℕ) → k ≡ length old → leb (get_or ds n 0) 2 ≡ true → Place (suc n) t k
  unfolding kept_by
  place_last k e b = record {
    i = n;
    below = omega arith;
    start = ap₂ (λ (c : Bool) (j : ℕ). get_or (kept_by n ds f ++ cond c (f n ∷ []) []) j 0) b (e ∙ sym same_long) ∙ get_or-append_seam (kept_by n ds f) (f n) [] 0;
    same = λ z. ap (λ (l : List ErrorMechanism). get_or l k z) (kept_next n t r)
        ∙ ap₂ (λ (c : Bool) (j : ℕ). get_or (old ++ cond c (here_of n t ∷ []) []) j z) b e ∙ get_or-append_seam old (here_of n t) [] z;
  }

  grown : (b : Bool) → leb (get_or ds n 0) 2 ≡ b → length (kept_of (model_of (suc n) t)) ≡ length old + length (cond b (here_of n t ∷ []) [])
  grown b e = ap length (kept_next n t r) ∙ length-append old (cond (leb (get_or ds n 0) 2) (here_of n t ∷ []) []) ∙ ap (λ (c : Bool). length old + length (cond c (here_of n t ∷ []) [])) e

pub place_of_lem : (n : ℕ) (t : Tables) → Reached n t → (k : ℕ) → k < length (kept_of (model_of n t)) → Place n t k
unfolding kept_of model_of filter
place_of_lem zero t r k l = absurd (omega arith)
place_of_lem (suc n) t r k l = case-of (leb (get_or t.detector_counts n 0) 2)
    (λ b. let g = grown n t r true b in
    case-of (eqb k (length (kept_of (model_of n t))))
    (λ u. place_last n t r k (eqb-true _ _ u) b)
    (λ u. let h : k < length (kept_of (model_of n t)) = omega (arith, eqb-false k (length (kept_of (model_of n t))) u) in place_before n t r k h (place_of_lem n t (earlier n t r) k h)))
    (λ b. let g = grown n t r false b in
    let h : k < length (kept_of (model_of n t)) = omega arith in place_before n t r k h (place_of_lem n t (earlier n t r) k h))

-- ---- the columns of a model, entry by entry

pub count_at : (ms : List ErrorMechanism) (k : ℕ) (z : ErrorMechanism) → k < length ms → get_or (tables_of ms).detector_counts k 0 ≡ length (get_or ms k z).symptom.detectors
unfolding tables_of
count_at [] k z l = absurd (omega arith)
count_at (m ∷ ms) zero z l = refl
count_at (m ∷ ms) (suc k) z l = count_at ms k z (omega arith)

pub other_at : (ms : List ErrorMechanism) (k : ℕ) (z : ErrorMechanism) → k < length ms → get_or (tables_of ms).observable_counts k 0 ≡ length (get_or ms k z).symptom.observables
unfolding tables_of
other_at [] k z l = absurd (omega arith)
other_at (m ∷ ms) zero z l = refl
other_at (m ∷ ms) (suc k) z l = other_at ms k z (omega arith)

-- what is written again is the same
pub written_again : {A : Type 0} (new was : List A) → written new was ≡ written new (written new was)
written_again new was = ap (λ (r : List _). new ++ r) (sym (drop-append_seam new (drop (length new) was)))

-- the entries of a model are those of its tables
pub entries_are : (ms : List ErrorMechanism) → entries_of ms ≡ length (tables_of ms).entries
unfolding entries_of tables_of symptom_entries
entries_are [] = refl
entries_are (m ∷ ms) =
    let d = m.symptom.detectors in
    let o = m.symptom.observables in
    let cs = symptom_entries m.components in
    let rest = (tables_of ms).entries in
    omega (
      arith,
      entries_are ms,
      length-append d (o ++ cs),
      length-append o cs,
      length-append d (o ++ (cs ++ rest)),
      length-append o (cs ++ rest),
      length-append cs rest,
    )

-- ---- the kept mechanisms in the output tables

module _ (n : ℕ) (t : Tables) (hold : tables_hold n t ≡ true) (D : ℕ) (fits : (k : ℕ) (z : ErrorMechanism) → k < n → lists_fit D 128 (get_or (model_of n t) k z) ≡ true)
    (starts counts others starts₀ counts₀ others₀ : List ℕ)
    (es : starts ≡ written (kept_by n t.detector_counts (λ j. entries_in j t)) starts₀)
    (ec : counts ≡ written (tables_of (kept_of (model_of n t))).detector_counts counts₀)
    (eo : others ≡ written (tables_of (kept_of (model_of n t))).observable_counts others₀) where
  abbrev ks : List ErrorMechanism
  ks = kept_of (model_of n t)

  module _ (k : ℕ) (l : k < length ks) where
    p : Place n t k
    p = place_of_lem n t (reached_of n t hold) k l

    at_i : Reached (suc p.i) t
    at_i = reached (suc p.i) n t (omega (arith, p.below)) hold

    inside : Inside (head_of p.i t) (place_of p.i t) t.component_detectors t.component_observables t.entries
    inside = inside_of p.i n t p.below (reached_of n t hold)

    started : get_or starts k 0 ≡ entries_in p.i t
    started =
        ap (λ (x : List ℕ). get_or x k 0) es ∙ get_or-append (kept_by n t.detector_counts (λ j. entries_in j t)) _ 0 k (omega (arith, many n t (reached_of n t hold)))
        ∙ p.start

    counted : get_or counts k 0 ≡ get_or t.detector_counts p.i 0
    counted =
        ap (λ (x : List ℕ). get_or x k 0) ec ∙ get_or-append (tables_of ks).detector_counts _ 0 k (omega (arith, (lengths ks).detector_counts))
        ∙ count_at ks k (here_of 0 t) l ∙ ap (λ (m : ErrorMechanism). length m.symptom.detectors) (p.same (here_of 0 t)) ∙ many_detectors p.i t at_i

    observed : get_or others k 0 ≡ get_or t.observable_counts p.i 0
    observed =
        ap (λ (x : List ℕ). get_or x k 0) eo ∙ get_or-append (tables_of ks).observable_counts _ 0 k (omega (arith, (lengths ks).observable_counts))
        ∙ other_at ks k (here_of 0 t) l ∙ ap (λ (m : ErrorMechanism). length m.symptom.observables) (p.same (here_of 0 t)) ∙ many_observables p.i t at_i

    own : (here_of p.i t).symptom ≡ symptom_at starts counts others t.entries k
    unfolding mechanism_at first_of
    own = rw (started, counted, observed, drop-drop (get_or t.detector_counts p.i 0) (entries_in p.i t) t.entries)

    pub symptom_is : (z : ErrorMechanism) → (get_or ks k z).symptom ≡ symptom_at starts counts others t.entries k
    symptom_is z = ap (λ (m : ErrorMechanism). m.symptom) (p.same z) ∙ own

    pub listed_is : get_or starts k 0 + get_or counts k 0 + get_or others k 0 ≤ length t.entries
    listed_is = omega (arith, started, counted, observed, inside.entries)

    both : (list_fits D (symptom_at starts counts others t.entries k).detectors && list_fits 128 (symptom_at starts counts others t.entries k).observables) ≡ true
    unfolding lists_fit symptom_fits
    both =
        let m = get_or (model_of n t) p.i (here_of 0 t) in
        let e : m ≡ here_of p.i t = at p.i n t (here_of 0 t) p.below ∙ first_from p.i t in
        let s : m.symptom ≡ symptom_at starts counts others t.entries k = ap (λ (w : ErrorMechanism). w.symptom) e ∙ own in
        subst (λ (w : Symptom). (list_fits D w.detectors && list_fits 128 w.observables) ≡ true) s (and_left _ _ (fits p.i (here_of 0 t) p.below))

  module _ (few : n ≤ 16384) (fewer : length ks ≤ n) where
    long_starts : length (kept_by n t.detector_counts (λ j. entries_in j t)) ≡ length ks
    long_starts = many n t (reached_of n t hold)

    pub kept_detectors : Detectors starts counts t.entries (length ks) D
    kept_detectors = record {
      few = omega arith;
      started = omega (arith, ap length es, length-append (kept_by n t.detector_counts (λ j. entries_in j t)) (drop (length (kept_by n t.detector_counts (λ j. entries_in j t))) starts₀), long_starts);
      counted = omega (arith, ap length ec, length-append (tables_of ks).detector_counts (drop (length (tables_of ks).detector_counts) counts₀), (lengths ks).detector_counts);
      listed = λ k l. omega (arith, listed_is k l);
      checked = λ k l. and_left (list_fits D (symptom_at starts counts others t.entries k).detectors) (list_fits 128 (symptom_at starts counts others t.entries k).observables) (both k l);
    }

    pub kept_observables : Observables starts counts others t.entries (length ks)
    kept_observables = record {
      observed = omega (arith, ap length eo, length-append (tables_of ks).observable_counts (drop (length (tables_of ks).observable_counts) others₀), (lengths ks).observable_counts);
      listed = λ k l. listed_is k l;
      checked = λ k l. and_right (list_fits D (symptom_at starts counts others t.entries k).detectors) (list_fits 128 (symptom_at starts counts others t.entries k).observables) (both k l);
    }

    -- the model so far is the kept mechanisms
    pub start_holds : (ps ps₀ : List Float) (last before : List ℕ) → ps ≡ written (tables_of ks).probability ps₀ → length last ≡ D
        → Chained (detectors_at starts counts t.entries) (length ks) last before
        → Holds ks (columns_of ps counts others) (size_of ks) t.entries starts counts others ps last before
    start_holds ps ps₀ last before ep w c = record {
      sized = refl;
      detectors = rw w kept_detectors;
      observables = kept_observables;
      symptoms = λ k z l. symptom_is k l z;
      probability = ep ∙ written_again (tables_of ks).probability ps₀ ∙ ap (written (tables_of ks).probability) (sym ep);
      detector_counts = ec ∙ written_again (tables_of ks).detector_counts counts₀ ∙ ap (written (tables_of ks).detector_counts) (sym ec);
      observable_counts = eo ∙ written_again (tables_of ks).observable_counts others₀ ∙ ap (written (tables_of ks).observable_counts) (sym eo);
      chains = c;
      fits = omega (arith, ap length ep, length-append (tables_of ks).probability (drop (length (tables_of ks).probability) ps₀), (lengths ks).probability);
    }
