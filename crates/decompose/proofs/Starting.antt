-- From a checked model to its kept mechanisms in their tables and chains.
use Prim.Native.Nat.{ℕ, zero, suc, ◌+◌, ◌-◌, ◌*◌, ◌<◌, ◌≤◌, min}
use native.Mathlib.Numerals.{add-one}
use native.Mathlib.Omega.{arith}
use mathlib.Core.Path.{◌≡◌, sym, ap, ◌∙◌, subst}
use mathlib.Core.List.{List, [], ◌∷◌, ◌++◌}
use mathlib.Core.Bool.{true, ◌&&◌}
use lib.ListN.{length, get_or, take, drop, length-append, length-take, length-drop, length-map, get_or-map}
use lib.Seq.{length-take-le}
use lib.Dec.{leb}
use lib.Ieee.{nan}
use borrow.Author.Tests.{leb-true}
use Rattle.lists.proofs.Truth.{and_left, and_right, cond_case}
use Rattle.lists.proofs.Ranges.{length_filter}
use Rattle.dem.specs.declared.Place.{Place}
use Rattle.dem.specs.Model.{Symptom, ErrorMechanism, symptom_fits, symptoms_fit, lists_fit}
use Rattle.dem.specs.Tables.{Tables, model_of, components_in, entries_in, component_entries, first_entries, symptom_entries, columns_hold, lists_hold, tables_hold, tables_of, tables_written, written}
use Rattle.dem.specs.Positions.{head_of, mechanism_at, place_past, place_of}
use Rattle.dem.specs.Cover.{none_such}
use Rattle.dem.specs.Decompose.{Places, is_graphlike, kept_of, entries_of}
use Rattle.dem.proofs.Positions.{first_from, place_next, reached_of, inside_of, entries_le, lengths}
use Rattle.dem.proofs.Laws.{at, reached, count}
use Rattle.dem.proofs.Accepted.{symptom_fits_lem}
use Rattle.cover.specs.Kept.{detectors_at, Detectors}
use Rattle.kept.specs.Columns.{kept_parts, kept_tables}
use Rattle.kept.proofs.Kept.{its_entries, kept_tables_lem}
use Rattle.suggested.specs.declared.Size.{Size}
use Rattle.last_equal.specs.Last.{Chained}
use Rattle.suggested.specs.Held.{places_of, size_of, Holds}
use Rattle.splits.specs.Ready.{Ready}
use Rattle.splits.proofs.Ways.{chains_cong}
use Rattle.split_model.specs.declared.Counts.{Counts}
use Rattle.split_model.specs.Begun.{symptoms_of, columns_of, Begun, CopiedKept}
use Rattle.split_model.proofs.Start.{entries_are, symptom_is, kept_detectors, start_holds}
use Rattle.split_model.proofs.Copies.{lists_long}
use Rattle.decompose.specs.Call.{room_of, counts_of}
use Rattle.decompose.specs.Made.{Roomy}
use Rattle.decompose.specs.Started.{Fitting, Startable, Started, Decomposable}

-- ---- the entries of a checked model are few

few_listed : (D O : ℕ) (s : Symptom) → symptom_fits D O s ≡ true → length s.detectors + length s.observables ≤ 32
few_listed D O s h = let f = symptom_fits_lem D O s h in omega (arith, f.detectors.short, f.observables.short)

few_entries : (D O : ℕ) (cs : List Symptom) → symptoms_fit D O cs ≡ true → length (symptom_entries cs) ≤ 32 * length cs
unfolding symptoms_fit symptom_entries
few_entries D O [] h = omega arith
few_entries D O (s ∷ cs) h =
    let own = symptom_fits D O s in
    let others = symptoms_fit D O cs in
    omega (
      arith,
      few_listed D O s (and_left own others h),
      few_entries D O cs (and_right own others h),
      length-append s.detectors (s.observables ++ symptom_entries cs),
      length-append s.observables (symptom_entries cs),
    )

few_in : (D O : ℕ) (m : ErrorMechanism) → lists_fit D O m ≡ true
    → length (m.symptom.detectors ++ (m.symptom.observables ++ symptom_entries m.components)) ≤ 544
unfolding lists_fit
few_in D O m h =
    let own = symptom_fits D O m.symptom in
    let few = leb (length m.components) 16 in
    let theirs = symptoms_fit D O m.components in
    let q = and_right own (few && theirs) h in
    let l : length m.components ≤ 16 = leb-true _ _ (and_left few theirs q) in
    omega (
      arith,
      l,
      few_listed D O m.symptom (and_left own (few && theirs) h),
      few_entries D O m.components (and_right few theirs q),
      length-append m.symptom.detectors (m.symptom.observables ++ symptom_entries m.components),
      length-append m.symptom.observables (symptom_entries m.components),
    )

abbrev nothing : ErrorMechanism
nothing = record { probability = nan; symptom = none_such; components = [] }

abbrev here : Tables → ℕ → ErrorMechanism
here t i = mechanism_at (head_of i t) (place_of i t) t.component_detectors t.component_observables t.entries

module _ {D n : ℕ} {t : Tables} (f : Fitting D n t) where
  here_fits : (i : ℕ) → i < n → lists_fit D 128 (here t i) ≡ true
  here_fits i l = ap (lists_fit D 128) (sym (at i n t nothing l ∙ first_from i t)) ∙ f.lists i nothing l

  next_entries : (i : ℕ) → i < n → entries_in (suc i) t ≤ entries_in i t + 544
  unfolding place_past first_entries
  next_entries i l =
      let r = reached (suc i) n t (omega arith) f.holds in
      let inside = inside_of i n t l (reached_of n t f.holds) in
      let d = get_or t.detector_counts i 0 in
      let o = get_or t.observable_counts i 0 in
      let k = component_entries (get_or t.component_counts i 0) (drop (place_of i t).component t.component_detectors) (drop (place_of i t).component t.component_observables) in
      let es = drop (entries_in i t) t.entries in
      omega (
        arith,
        few_in D 128 (here t i) (here_fits i l),
        ap length (its_entries i t r),
        length-take-le ((d + o) + k) es (omega (arith, length-drop (entries_in i t) t.entries, inside.entries)),
        ap (λ (p : Place). p.entry) (place_next i t),
        ap (λ (z : ℕ). entries_in z t) (add-one i),
      )

  upto : (i : ℕ) → i ≤ n → entries_in i t ≤ 544 * i
  unfolding entries_in
  upto zero l = omega arith
  upto (suc i) l = omega (arith, next_entries i (omega arith), upto i (omega arith))

  -- so that a u32 counts them
  pub small : entries_in n t < 4294967296
  small = omega (arith, upto n (omega arith), f.few)

  pub fewer : length (kept_of (model_of n t)) ≤ n
  unfolding kept_of
  fewer = omega (arith, length_filter is_graphlike (model_of n t), count n t)

-- ---- what the kept mechanisms take

kept_within : (n : ℕ) (ds xs : List ℕ) (start : ℕ → ℕ) → ((i : ℕ) → start i ≤ start (suc i)) → length (kept_parts n ds start xs) ≤ start n
unfolding kept_parts
kept_within zero ds xs start up = omega arith
kept_within (suc n) ds xs start up =
    let size = start (suc n) - start n in
    let part = take size (drop (start n) xs) in
    let old = kept_parts n ds start xs in
    cond_case (λ (l : List ℕ). length (old ++ l) ≤ start (suc n)) (leb (get_or ds n 0) 2) part []
    (λ t. omega (arith, length-append old part, length-take size (drop (start n) xs), kept_within n ds xs start up, up n))
    (λ f. omega (arith, length-append {A = ℕ} old [], kept_within n ds xs start up, up n))

few_kept : (n : ℕ) (t : Tables) → tables_hold n t ≡ true → length (tables_of (kept_of (model_of n t))).entries ≤ entries_in n t
unfolding kept_tables
few_kept n t h =
    rw (kept_tables_lem n t (reached_of n t h)) (kept_within n t.detector_counts t.entries (λ i. entries_in i t) (λ i. entries_le i (suc i) t (omega arith)))

module _ {n : ℕ} {t was : Tables} {starts : List ℕ} {r : Counts} {after : Tables} {starts' : List ℕ} {D : ℕ} (c : CopiedKept n t was starts r after starts') (f : Fitting D n t) where
  counts_are : after.detector_counts ≡ written (tables_of (kept_of (model_of n t))).detector_counts was.detector_counts
  unfolding tables_written
  counts_are = ap (λ (u : Tables). u.detector_counts) c.tables

  others_are : after.observable_counts ≡ written (tables_of (kept_of (model_of n t))).observable_counts was.observable_counts
  unfolding tables_written
  others_are = ap (λ (u : Tables). u.observable_counts) c.tables

  probability_is : after.probability ≡ written (tables_of (kept_of (model_of n t))).probability was.probability
  unfolding tables_written
  probability_is = ap (λ (u : Tables). u.probability) c.tables

  listed : r.entries ≡ entries_of (kept_of (model_of n t))
  listed = c.entries ∙ sym (entries_are (kept_of (model_of n t)))

  pub kept_few : r.mechanisms ≤ n
  kept_few = omega (arith, c.mechanisms, fewer f)

  pub kept_tabled : (d : ℕ) → d ≡ D → Detectors starts' after.detector_counts t.entries r.mechanisms d
  kept_tabled d w = rw (w, c.mechanisms)
      (kept_detectors n t f.holds D f.lists starts' after.detector_counts after.observable_counts starts was.detector_counts was.observable_counts
      c.started counts_are others_are f.few (fewer f))

  module _ {before last first next : List ℕ} (w : length last ≡ D) (s : Started n t was starts r after starts' before last first next) where
    size_is : ◌≡◌ {A = Size} (record { mechanisms = r.mechanisms; entries = r.entries }) (size_of (kept_of (model_of n t)))
    size_is = same c.mechanisms listed
      where
        same : {a b a' b' : ℕ} → a ≡ a' → b ≡ b' → ◌≡◌ {A = Size} (record { mechanisms = a; entries = b }) (record { mechanisms = a'; entries = b' })
        same p q = rw (p, q)

    pub state : Holds (kept_of (model_of n t)) (columns_of after.probability after.detector_counts after.observable_counts) (record { mechanisms = r.mechanisms; entries = r.entries }) t.entries starts' after.detector_counts after.observable_counts
        after.probability last before
    state = subst (λ (z : Size). Holds (kept_of (model_of n t)) (columns_of after.probability after.detector_counts after.observable_counts) z t.entries starts' after.detector_counts
        after.observable_counts after.probability last before) (sym size_is)
        (start_holds n t f.holds D f.lists starts' after.detector_counts after.observable_counts starts was.detector_counts was.observable_counts
        c.started counts_are others_are f.few (fewer f) after.probability was.probability last before probability_is w
        (subst (λ (k : ℕ). Chained (detectors_at starts' after.detector_counts t.entries) k last before) c.mechanisms s.lasts))

    same_lists : (k : ℕ) → k < r.mechanisms → detectors_at starts' after.detector_counts t.entries k ≡ (get_or (symptoms_of (kept_of (model_of n t))) k none_such).detectors
    same_lists k l =
        let own = symptom_is n t f.holds D f.lists starts' after.detector_counts after.observable_counts starts was.detector_counts was.observable_counts
        c.started counts_are others_are k (omega (arith, c.mechanisms)) nothing in
        sym (ap (λ (z : Symptom). z.detectors) (get_or-map (λ (m : ErrorMechanism). m.symptom) (kept_of (model_of n t)) k nothing ∙ own))

    pub ready : {numbers masks words0 words1 earlier : List ℕ} → n ≤ length next → n ≤ length numbers → n ≤ length masks → n ≤ length words0 → n ≤ length words1 → n ≤ length earlier
        → Ready (symptoms_of (kept_of (model_of n t))) r.mechanisms first next numbers masks words0 words1 earlier
    ready a b d e g h = record {
      counted = length-map (kept_of (model_of n t)) (λ (m : ErrorMechanism). m.symptom) ∙ sym c.mechanisms;
      chains = chains_cong (detectors_at starts' after.detector_counts t.entries) (λ k. (get_or (symptoms_of (kept_of (model_of n t))) k none_such).detectors) r.mechanisms first next same_lists s.firsts;
      linked = omega (arith, kept_few);
      numbers_hold = omega (arith, kept_few);
      masks_hold = omega (arith, kept_few);
      words0_hold = omega (arith, kept_few);
      words1_hold = omega (arith, kept_few);
      earlier_hold = omega (arith, kept_few);
    }

  counted : r ≡ counts_of (kept_of (model_of n t))
  counted = same c.mechanisms c.components listed
    where
      same : {a b d a' b' d' : ℕ} → a ≡ a' → b ≡ b' → d ≡ d' → ◌≡◌ {A = Counts} (record { mechanisms = a; components = b; entries = d }) (record { mechanisms = a'; components = b'; entries = d' })
      same p q s = rw (p, q, s)

  -- the output tables keep their lengths
  module _ {room : Size} (places : places_of room ≡ room_of was) (columns : columns_hold n was ≡ true) (lists : lists_hold (components_in n t) (entries_in n t) was ≡ true) where
    many_places : room.mechanisms
        ≡ min (length was.probability) (min (length was.detector_counts) (min (length was.observable_counts) (length was.component_counts)))
    many_places = ap (λ (p : Places). p.mechanisms) places

    all_entries : room.entries ≡ length was.entries
    all_entries = ap (λ (p : Places). p.entries) places

    pub roomy : length after.component_counts ≡ length was.component_counts → length after.entries ≡ length was.entries → Roomy (kept_of (model_of n t)) r room after.component_counts after.entries
    roomy a b =
        let wide = lengths n was columns in
        record {
          counted = counted;
          few = omega (arith, kept_few, many_places, wide);
          listed = omega (arith, c.entries, few_kept n t f.holds, all_entries, (lists_long _ _ was lists).2);
          components_hold = omega (arith, a, many_places);
          entries_hold = omega (arith, b, all_entries);
        }

    -- so that splitting may begin
    pub begun : {before last first next numbers masks words0 words1 earlier : List ℕ} → (w : length last ≡ D) → Started n t was starts r after starts' before last first next
        → length first ≡ length last → 17 * n ≤ length starts' → 17 * n ≤ length before
        → n ≤ length next → n ≤ length numbers → n ≤ length masks → n ≤ length words0 → n ≤ length words1 → n ≤ length earlier
        → length after.probability ≡ length was.probability → length after.detector_counts ≡ length was.detector_counts
        → length after.observable_counts ≡ length was.observable_counts
        → Begun n t r.mechanisms (record { mechanisms = r.mechanisms; entries = r.entries }) room first next starts' after.detector_counts after.observable_counts after.probability
        last before numbers masks words0 words1 earlier
    begun w s wide hs hb h1 h2 h3 h4 h5 h6 lp ld lo = record {
      holds = f.holds;
      checked = λ k z l. rw w (f.lists k z l);
      small = small f;
      state = state w s;
      ready = ready w s h1 h2 h3 h4 h5 h6;
      wide = wide;
      starts_hold = omega (arith, hs, kept_few);
      before_hold = omega (arith, hb, kept_few);
      counts_hold = omega (arith, ld, many_places);
      others_hold = omega (arith, lo, many_places);
      probability_hold = omega (arith, lp, many_places);
    }

-- ---- places by detector, cut to as many as there are detectors

pub part_long : (D : ℕ) (xs : List ℕ) → D ≤ length xs → length (take (D - 0) (drop 0 xs)) ≡ D
part_long D xs h = omega (arith, length-take (D - 0) (drop 0 xs), length-drop 0 xs)

pub startable : {D n : ℕ} {t was : Tables} {room : Size} {starts before last first next numbers masks words0 words1 earlier : List ℕ}
    → Decomposable D n t was room starts before last first next numbers masks words0 words1 earlier
    → Startable n t was starts before (take (D - 0) (drop 0 last)) (take (D - 0) (drop 0 first)) next
startable {D} {n} {t} {was} {room} {starts} {before} {last} {first} d =
    let l = part_long D last d.last_hold in
    record {
      fitting = rw l d.fitting;
      columns = d.columns;
      lists = d.lists;
      wide = part_long D first d.first_hold ∙ sym l;
      starts_hold = omega (arith, d.starts_hold);
      before_hold = omega (arith, d.before_hold);
      next_hold = d.next_hold;
    }
