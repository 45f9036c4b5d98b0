-- From the kept mechanisms to the model that they grow to, table by table.
use Rattle.std.specs.Prelude.{Result, Ok, Err}
use Prim.Native.Nat.{ℕ, ◌+◌, ◌-◌, ◌<◌, ◌≤◌}
use native.Mathlib.Omega.{arith}
use mathlib.Core.Path.{◌≡◌, refl, sym, ap, ap₂, ◌∙◌, subst}
use mathlib.Core.List.{List, [], ◌++◌, map}
use lib.ListN.{length, get_or, take, drop, replicate, length-append, length-map, get_or-map}
use lib.Seq.{drop-append-add, drop-append_seam, take-append_seam, drop-drop, ext_get_or}
use lib.Ieee.{Float, nan}
use Rattle.lists.proofs.Members.{get_d_below, length_below}
use Rattle.lists.specs.Lists.{from, below}
use Rattle.codes.specs.declared.Refusal.{Refusal}
use Rattle.dem.specs.Model.{Symptom, ErrorMechanism}
use Rattle.dem.specs.Tables.{Tables, model_of, tables_of, tables_written, symptom_entries, written}
use Rattle.dem.specs.Positions.{tables}
use Rattle.dem.specs.Cover.{none_such}
use Rattle.dem.specs.Decompose.{Split, into, refused, kept_of, decompose, entries_of}
use Rattle.cover.specs.Kept.{symptom_at}
use Rattle.suggested.specs.declared.Size.{Size}
use Rattle.suggested.specs.Held.{places_of, size_of, Holds}
use Rattle.suggested.proofs.Models.{lengths}
use Rattle.splits.specs.Ready.{After}
use Rattle.split_model.specs.declared.Counts.{Counts}
use Rattle.split_model.specs.Begun.{symptoms_of, columns_of}
use Rattle.split_model.specs.Laws.{Grows}
use Rattle.split_model.proofs.Grows.{decomposed}
use Rattle.split_model.proofs.Start.{entries_are}
use Rattle.decompose.specs.Call.{counts_of}
use Rattle.decompose.specs.Appended.{lists_from, Appendable}
use Rattle.decompose.specs.Made.{Finished, Roomy, Made}
use Rattle.decompose.proofs.Appending.{lists_split}
use Rattle.decompose.specs.Laws.{Placed}
use Rattle.decompose.proofs.Keeps.{placed}

-- what is written over a shorter list
pub written_over : {A : Type 0} (a b was : List A) → length a ≤ length b → written b (written a was) ≡ written b was
written_over {A} a b was h =
    let m = length b - length a in
    let e : length b ≡ length a + m = omega arith in
    ap (λ (k : ℕ). b ++ drop k (written a was)) e ∙ ap (λ (l : List A). b ++ l) (drop-append-add a (drop (length a) was) m ∙ drop-drop m (length a) was)
    ∙ ap (λ (k : ℕ). b ++ drop k was) (sym e)

-- ---- what splitting comes to

abbrev nothing : ErrorMechanism
nothing = record { probability = nan; symptom = none_such; components = [] }

-- a model, as far as splitting writes it
pub record Grew (n : ℕ) (t : Tables) (room : Size) (was : Tables) (size : Size) (starts counts others : List ℕ) (ps : List Float) (last before : List ℕ) : Type 0 where
  pub ms : List ErrorMechanism
  pub is : decompose (places_of room) (model_of n t) ≡ into ms
  pub sized : size ≡ size_of ms
  pub holds : Holds ms was (size_of ms) t.entries starts counts others ps last before

module _ (n : ℕ) (t : Tables) (room : Size) (was : Tables) (starts counts others : List ℕ) (ps : List Float) (last before : List ℕ) where
  pub grew : (s : Size) → After (decompose (places_of room) (model_of n t)) was (Ok s) t.entries starts counts others ps last before → Grew n t room was s starts counts others ps last before
  grew s a = go (decompose (places_of room) (model_of n t)) refl a
    where
      go : (x : Split) → decompose (places_of room) (model_of n t) ≡ x → After x was (Ok s) t.entries starts counts others ps last before → Grew n t room was s starts counts others ps last before
      go (into ms) q o = record { ms = ms; is = q; sized = cc o.0; holds = o.1 }
      go (refused x) q o = absurd (cc o)

  pub stopped : (z : Refusal) (r : Result Counts Refusal) (old after : Tables) → After (decompose (places_of room) (model_of n t)) was (Err z) t.entries starts counts others ps last before → r ≡ Err z
      → Made (decompose (places_of room) (model_of n t)) old r after
  stopped z r old after a e = go (decompose (places_of room) (model_of n t)) a
    where
      go : (x : Split) → After x was (Err z) t.entries starts counts others ps last before → Made x old r after
      go (into ms) o = absurd (cc o.0)
      go (refused x) o = let w : z ≡ x = cc in e ∙ ap Err w

module _ {n : ℕ} {t : Tables} {room : Size} {was : Tables} {size : Size} {starts counts others : List ℕ} {ps : List Float} {last before : List ℕ}
    (g : Grew n t room was size starts counts others ps last before) {kept : Counts} {cs out : List ℕ}
    (r : Roomy (kept_of (model_of n t)) kept room cs out) where
  abbrev ks : List ErrorMechanism
  ks = kept_of (model_of n t)

  abbrev ms : List ErrorMechanism
  ms = g.ms

  grows : Grows ks ms
  grows = decomposed (places_of room) (model_of n t) ms g.is

  longer : length ms ≡ length ks + length grows.new
  longer =
      sym (length-map ms (λ (m : ErrorMechanism). m.symptom)) ∙ ap length grows.symptoms ∙ length-append (symptoms_of ks) grows.new
      ∙ ap (λ (k : ℕ). k + length grows.new) (length-map ks (λ (m : ErrorMechanism). m.symptom))

  more_entries : entries_of ms ≡ entries_of ks + length (symptom_entries grows.new)
  more_entries =
      entries_are ms ∙ ap length grows.entries ∙ length-append (tables_of ks).entries (symptom_entries grows.new)
      ∙ ap (λ (k : ℕ). k + length (symptom_entries grows.new)) (sym (entries_are ks))

  many : kept.mechanisms ≡ length ks
  many = ap (λ (c : Counts). c.mechanisms) r.counted

  listed : kept.entries ≡ entries_of ks
  listed = ap (λ (c : Counts). c.entries) r.counted

  places : Placed (places_of room) ms
  places = placed (places_of room) (model_of n t) ms g.is (record { mechanisms = omega (arith, many, r.few); entries = omega (arith, listed, r.listed) })

  pub fits : size.mechanisms ≤ length cs
  fits = omega (arith, places.mechanisms, r.components_hold, ap (λ (s : Size). s.mechanisms) g.sized)

  -- all lists are found by their starts
  from_first : (k : ℕ) → lists_from starts counts others t.entries 0 k ≡ map (symptom_at starts counts others t.entries) (below k)
  unfolding lists_from below
  from_first k = let e : k - 0 ≡ k = omega arith in ap (λ (m : ℕ). map (symptom_at starts counts others t.entries) (from m 0)) e

  first_long : (k : ℕ) → length (lists_from starts counts others t.entries 0 k) ≡ k
  first_long k = ap length (from_first k) ∙ length-map (below k) (symptom_at starts counts others t.entries) ∙ length_below k

  all_lists : lists_from starts counts others t.entries 0 (length ms) ≡ symptoms_of ms
  all_lists =
      let f = symptom_at starts counts others t.entries in
      ext_get_or none_such (lists_from starts counts others t.entries 0 (length ms)) (symptoms_of ms)
      (first_long (length ms) ∙ sym (length-map ms (λ (m : ErrorMechanism). m.symptom)))
      (λ i h. let j : i < length ms = omega (arith, first_long (length ms)) in
      ap (λ (l : List Symptom). get_or l i none_such) (from_first (length ms)) ∙ get_d_below f none_such (length ms) i j
      ∙ sym (g.holds.symptoms i nothing j) ∙ sym (get_or-map (λ (m : ErrorMechanism). m.symptom) ms i nothing))

  new_lists : lists_from starts counts others t.entries (length ks) (length ms) ≡ grows.new
  new_lists =
      let a = lists_from starts counts others t.entries 0 (length ks) in
      let b = lists_from starts counts others t.entries (length ks) (length ms) in
      let e : a ++ b ≡ symptoms_of ks ++ grows.new =
      sym (lists_split starts counts others t.entries 0 (length ks) (length ms) (omega arith) (omega (arith, longer))) ∙ all_lists ∙ grows.symptoms in
      sym (drop-append_seam a b)
      ∙ ap₂ (λ (k : ℕ) (l : List Symptom). drop k l) (first_long (length ks) ∙ sym (length-map ks (λ (m : ErrorMechanism). m.symptom))) e
      ∙ drop-append_seam (symptoms_of ks) grows.new

  lists_are : lists_from starts counts others t.entries kept.mechanisms size.mechanisms ≡ grows.new
  lists_are =
      ap₂ (λ (k : ℕ) (m : ℕ). lists_from starts counts others t.entries k m) many (ap (λ (z : Size). z.mechanisms) g.sized) ∙ new_lists

  pub appendable : Appendable starts counts others t.entries kept.mechanisms size.mechanisms kept.entries out
  appendable =
      let s = ap (λ (z : Size). z.mechanisms) g.sized in
      record {
        ordered = omega (arith, many, s, longer);
        started = omega (arith, s, g.holds.detectors.started);
        counted = omega (arith, s, g.holds.detectors.counted);
        observed = omega (arith, s, g.holds.observables.observed);
        listed = λ i l. g.holds.observables.listed i (omega (arith, s));
        room = omega (arith, ap (λ (l : List Symptom). length (symptom_entries l)) lists_are, listed, more_entries, places.entries, r.entries_hold);
      }

  -- the model is written, whatever the tables held before
  module _ (old : Tables) (ps₀ : List Float) (counts₀ others₀ cds cos : List ℕ) (w : was ≡ columns_of ps₀ counts₀ others₀)
      (e : tables ps₀ counts₀ others₀ cs cds cos out ≡ tables_written ks old) where
    more : length ks ≤ length ms
    more = omega (arith, longer)

    probability_is : ps ≡ written (tables_of ms).probability old.probability
    unfolding tables_written
    probability_is =
        g.holds.probability ∙ ap (λ (u : Tables). written (tables_of ms).probability u.probability) w
        ∙ ap (λ (u : Tables). written (tables_of ms).probability u.probability) e
        ∙ written_over (tables_of ks).probability (tables_of ms).probability old.probability (omega (arith, more, (lengths ks).probability, (lengths ms).probability))

    counts_are : counts ≡ written (tables_of ms).detector_counts old.detector_counts
    unfolding tables_written
    counts_are =
        g.holds.detector_counts ∙ ap (λ (u : Tables). written (tables_of ms).detector_counts u.detector_counts) w
        ∙ ap (λ (u : Tables). written (tables_of ms).detector_counts u.detector_counts) e
        ∙ written_over (tables_of ks).detector_counts (tables_of ms).detector_counts old.detector_counts (omega (arith, more, (lengths ks).detector_counts, (lengths ms).detector_counts))

    others_are : others ≡ written (tables_of ms).observable_counts old.observable_counts
    unfolding tables_written
    others_are =
        g.holds.observable_counts ∙ ap (λ (u : Tables). written (tables_of ms).observable_counts u.observable_counts) w
        ∙ ap (λ (u : Tables). written (tables_of ms).observable_counts u.observable_counts) e
        ∙ written_over (tables_of ks).observable_counts (tables_of ms).observable_counts old.observable_counts
        (omega (arith, more, (lengths ks).observable_counts, (lengths ms).observable_counts))

    -- what follows the kept mechanisms in a column that splitting leaves alone
    after_kept : (k : ℕ) (xs rest now now' was' next : List ℕ) → now ≡ written xs was' → k ≡ length xs → next ≡ xs ++ rest → now' ≡ written (take k now ++ rest) now → now' ≡ written next was'
    after_kept k xs rest now now' was' next a b c d =
        let front : take k now ≡ xs = ap₂ (λ (j : ℕ) (l : List ℕ). take j l) b a ∙ take-append_seam xs (drop (length xs) was') in
        d ∙ ap₂ (λ (x : List ℕ) (y : List ℕ). written x y) (ap (λ (x : List ℕ). x ++ rest) front ∙ sym c) a
        ∙ written_over xs next was' (omega (arith, ap length c, length-append xs rest))

    same_tables : (o1 : List Float) (o2 o3 o4 o5 o6 o7 : List ℕ) → o1 ≡ written (tables_of ms).probability old.probability
        → o2 ≡ written (tables_of ms).detector_counts old.detector_counts → o3 ≡ written (tables_of ms).observable_counts old.observable_counts
        → o4 ≡ written (tables_of ms).component_counts old.component_counts → o5 ≡ written (tables_of ms).component_detectors old.component_detectors
        → o6 ≡ written (tables_of ms).component_observables old.component_observables → o7 ≡ written (tables_of ms).entries old.entries
        → tables o1 o2 o3 o4 o5 o6 o7 ≡ tables_written ms old
    unfolding tables_written
    same_tables o1 o2 o3 o4 o5 o6 o7 e1 e2 e3 e4 e5 e6 e7 = rw (e1, e2, e3, e4, e5, e6, e7)

    same_counts : (a b c : ℕ) → a ≡ length ms → b ≡ length (tables_of ms).component_detectors → c ≡ entries_of ms
        → ◌≡◌ {A = Result Counts Refusal} (Ok (record { mechanisms = a; components = b; entries = c })) (Ok (counts_of ms))
    same_counts a b c p q s = rw (p, q, s)

    pub made : (x : Counts) (cs' out' : List ℕ) → Finished kept size starts counts others t.entries cs out x cs' out'
        → Made (decompose (places_of room) (model_of n t)) old (Ok x) (tables ps counts others cs' cds cos out')
    unfolding tables_written
    made x cs' out' f =
        let rest : size.mechanisms - kept.mechanisms ≡ length grows.new = omega (arith, longer, many, ap (λ (z : Size). z.mechanisms) g.sized) in
        subst (λ (y : Split). Made y old (Ok x) (tables ps counts others cs' cds cos out')) (sym g.is) (
          ap Ok f.answer ∙ same_counts _ _ _ (ap (λ (z : Size). z.mechanisms) g.sized)
              (ap (λ (c : Counts). c.components) r.counted ∙ ap length (sym grows.component_detectors))
              (ap (λ (z : Size). z.entries) g.sized),
          same_tables ps counts others cs' cds cos out' probability_is counts_are others_are
              (after_kept kept.mechanisms (tables_of ks).component_counts (replicate (length grows.new) 0) cs cs' old.component_counts (tables_of ms).component_counts
              (ap (λ (u : Tables). u.component_counts) e) (many ∙ sym (lengths ks).component_counts) grows.component_counts
              (f.component_counts ∙ ap (λ (k : ℕ). written (take kept.mechanisms cs ++ replicate k 0) cs) rest))
              (ap (λ (u : Tables). u.component_detectors) e ∙ ap (λ (l : List ℕ). written l old.component_detectors) (sym grows.component_detectors))
              (ap (λ (u : Tables). u.component_observables) e ∙ ap (λ (l : List ℕ). written l old.component_observables) (sym grows.component_observables))
              (after_kept kept.entries (tables_of ks).entries (symptom_entries grows.new) out out' old.entries (tables_of ms).entries
              (ap (λ (u : Tables). u.entries) e) (listed ∙ entries_are ks) grows.entries
              (f.entries ∙ ap (λ (l : List Symptom). written (take kept.entries out ++ symptom_entries l) out) lists_are)),
        )

-- the same of other names for the three columns
pub made_as : (x : Split) (old : Tables) (r : Result Counts Refusal) (ps ps' : List Float) (ds ds' os os' cs cds cos es : List ℕ) → ps' ≡ ps → ds' ≡ ds → os' ≡ os
    → Made x old r (tables ps ds os cs cds cos es) → Made x old r (tables ps' ds' os' cs cds cos es)
made_as x old r ps ps' ds ds' os os' cs cds cos es a b d h = rw (a, b, d) h
