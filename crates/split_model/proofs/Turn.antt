-- Each larger mechanism, in order: what is left to do from the model so far gives the whole.
use Rattle.std.specs.Prelude.{Result, Ok, Err}
use Prim.Native.Nat.{ℕ, suc, ◌+◌, ◌-◌, ◌*◌, ◌<◌, ◌≤◌}
use native.Mathlib.Numerals.{add-one}
use native.Mathlib.Omega.{arith}
use mathlib.Core.Path.{◌≡◌, refl, sym, ap, ap₂, ◌∙◌, subst}
use mathlib.Core.List.{List, []}
use mathlib.Core.Bool.{Bool, true, false, cond}
use lib.ListN.{length, get_or, length-append, length-map, get_or-append, get_or-map}
use lib.Dec.{leb}
use lib.Ieee.{nan}
use borrow.Author.Tests.{le-leb, lt-leb}
use Rattle.lists.proofs.Members.{get_d_any}
use Rattle.codes.specs.declared.Refusal.{Refusal}
use Rattle.cover.specs.declared.Index.{Index}
use Rattle.cover.specs.declared.CandidateTables.{CandidateTables}
use Rattle.cover.specs.Lent.{SameCandidates}
use Rattle.dem.specs.declared.Place.{Place}
use Rattle.dem.specs.Model.{Symptom, ErrorMechanism, lists_fit}
use Rattle.dem.specs.Tables.{Tables, model_of, entries_in, tables_hold}
use Rattle.dem.specs.Positions.{head_of, mechanism_at, place_past, Inside, place_of, tables_from}
use Rattle.dem.specs.Laws.{Reached}
use Rattle.dem.specs.Cover.{none_such}
use Rattle.dem.specs.Decompose.{Split, into, refused, is_graphlike, split_one, split_next, split_all, kept_of, decompose}
use Rattle.dem.proofs.Positions.{reached_of, inside_of, model_next, first_from, place_next, entries_le, from_zero}
use Rattle.dem.proofs.Laws.{at, reached}
use Rattle.kept.proofs.Kept.{many_detectors, its_components}
use Rattle.suggested.specs.declared.Size.{Size}
use Rattle.suggested.specs.declared.Mechanisms.{Mechanisms}
use Rattle.suggested.specs.Held.{places_of, size_of}
use Rattle.suggested.specs.Lent.{SameMechanisms, HoldsBy, RoomyBy}
use Rattle.splits.specs.Ready.{Large, Front}
use Rattle.splits.specs.Lent.{ReadyBy, AfterBy}
use Rattle.splits.proofs.Ways.{few_components}
use Rattle.split_model.specs.Begun.{symptoms_of}
use Rattle.split_model.proofs.Grows.{one_mechanism, stays}
use Rattle.split_model.specs.Laws.{Grows}

nothing : ErrorMechanism
nothing = record { probability = nan; symptom = none_such; components = [] }

pub room_here : (n i base : ℕ) {size room : Size} (lent lent' : Mechanisms) → i < n → size.mechanisms ≤ base + 16 * i
    → base + 16 * n ≤ length lent.starts.now → base + 16 * n ≤ length lent.before.now
    → room.mechanisms ≤ length lent.detector_counts.now → room.mechanisms ≤ length lent.observable_counts.now → room.mechanisms ≤ length lent.probability.now
    → SameMechanisms lent lent' → RoomyBy 16 size room lent'
room_here n i base lent lent' l few hs hb hc ho hp same = record {
  starts_hold = omega (arith, same);
  before_hold = omega (arith, same);
  counts_hold = omega (arith, same);
  others_hold = omega (arith, same);
  probability_hold = omega (arith, same);
}

-- ---- mechanism i of the tables

abbrev here : ℕ → Tables → ErrorMechanism
here i t = mechanism_at (head_of i t) (place_of i t) t.component_detectors t.component_observables t.entries

module _ {n i : ℕ} (t : Tables) (hold : tables_hold n t ≡ true) (l : i < n) where
  next_reached : Reached (suc i) t
  next_reached = reached (suc i) n t (omega arith) hold

  pub inside_here : Inside (head_of i t) (place_of i t) t.component_detectors t.component_observables t.entries
  inside_here = inside_of i n t l (reached_of n t hold)

  pub ends_here : (place_past (head_of i t) (place_of i t) t.component_detectors t.component_observables).entry ≤ entries_in n t
  ends_here = omega (arith, ap (λ (p : Place). p.entry) (place_next i t), entries_le (i + 1) n t (omega arith))

  pub graphlike_here : is_graphlike (here i t) ≡ leb (get_or t.detector_counts i 0) 2
  graphlike_here = ap (λ (k : ℕ). leb k 2) (many_detectors i t next_reached)

  pub large_here : {D : ℕ} → ((k : ℕ) (z : ErrorMechanism) → k < n → lists_fit D 128 (get_or (model_of n t) k z) ≡ true) → entries_in n t < 4294967296
      → 2 < get_or t.detector_counts i 0 → Large D (head_of i t) (place_of i t) t.component_detectors t.component_observables t.entries
  large_here {D} f s d = record {
    over_two = d;
    inside = inside_here;
    small = omega (arith, ends_here);
    checked = ap (lists_fit D 128) (sym (at i n t nothing l ∙ first_from i t)) ∙ f i nothing l;
  }

  pub few_here : {D : ℕ} → Large D (head_of i t) (place_of i t) t.component_detectors t.component_observables t.entries → length (here i t).components ≤ 16
  few_here k = omega (arith, its_components i t next_reached, few_components k)

-- the candidates' tables may hold anything
pub ready_same : {ks : List Symptom} (x : Index) (c c' : CandidateTables) → ReadyBy ks x c → SameCandidates c c' → ReadyBy ks x c'
ready_same x c c' r same = record {
  counted = r.counted;
  chains = r.chains;
  linked = r.linked;
  numbers_hold = omega (arith, r.numbers_hold, same.numbers_long);
  masks_hold = omega (arith, r.masks_hold, same.masks_long);
  words0_hold = omega (arith, r.words0_hold, same.words0_long);
  words1_hold = omega (arith, r.words1_hold, same.words1_long);
  earlier_hold = omega (arith, r.earlier_hold, same.earlier_long);
}

-- ---- the first mechanisms keep their lists

front_grows : (ks : List Symptom) (a b : List ErrorMechanism) → Front ks a → Grows a b → Front ks b
front_grows ks a b f g =
    let longer : length (symptoms_of b) ≡ length (symptoms_of a) + length g.new = ap length g.symptoms ∙ length-append (symptoms_of a) g.new in
    let la = length-map a (λ (m : ErrorMechanism). m.symptom) in
    let lb = length-map b (λ (m : ErrorMechanism). m.symptom) in
    record {
      few = omega (arith, f.few, longer, la, lb);
      same = λ k z l.
          f.same k z l ∙ sym (get_or-map (λ (m : ErrorMechanism). m.symptom) a k z)
          ∙ sym (get_or-append (symptoms_of a) g.new z.symptom k (omega (arith, f.few, la)))
          ∙ ap (λ (s : List Symptom). get_or s k z.symptom) (sym g.symptoms)
          ∙ get_or-map (λ (m : ErrorMechanism). m.symptom) b k z;
    }

pub front_first : (a : List ErrorMechanism) → Front (symptoms_of a) a
front_first a =
    let la = length-map a (λ (m : ErrorMechanism). m.symptom) in
    record {
      few = omega (arith, la);
      same = λ k z l. get_d_any (symptoms_of a) k none_such z.symptom l ∙ get_or-map (λ (m : ErrorMechanism). m.symptom) a k z;
    }

-- ---- the model so far

abbrev pub kept_lists : ℕ → Tables → List Symptom
kept_lists n t = symptoms_of (kept_of (model_of n t))

-- what is left to do from it gives the whole
pub record Going (n : ℕ) (t was : Tables) (room : Size) (base i : ℕ) (size : Size) (lent : Mechanisms) : Type 0 where
  pub model : List ErrorMechanism
  pub holds : HoldsBy model was size t.entries lent
  pub front : Front (kept_lists n t) model
  pub few : size.mechanisms ≤ base + 16 * i
  pub left : split_all (places_of room) (kept_lists n t) i (model_of (n - i) (tables_from i t)) (into model) ≡ decompose (places_of room) (model_of n t)

module _ {n : ℕ} (t : Tables) {was : Tables} {room : Size} where
  pub going_first : {size : Size} {lent : Mechanisms} → HoldsBy (kept_of (model_of n t)) was size t.entries lent → Going n t was room size.mechanisms 0 size lent
  unfolding decompose
  going_first h = record {
    model = kept_of (model_of n t);
    holds = h;
    front = front_first (kept_of (model_of n t));
    few = omega arith;
    left = ap₂ (λ (k : ℕ) (u : Tables). split_all (places_of room) (kept_lists n t) 0 (model_of k u) (into (kept_of (model_of n t)))) (omega arith) (from_zero t);
  }

  module _ {base i : ℕ} {size : Size} {lent : Mechanisms} (g : Going n t was room base i size lent) where
    module _ (hold : tables_hold n t ≡ true) (l : i < n) where
      left_here : split_all (places_of room) (kept_lists n t) (i + 1) (model_of (n - (i + 1)) (tables_from (i + 1) t)) (split_next (places_of room) (kept_lists n t) i (here i t) (into g.model)) ≡ decompose (places_of room) (model_of n t)
      unfolding split_all
      left_here =
          ap (λ (k : ℕ). split_all (places_of room) (kept_lists n t) k (model_of (n - (i + 1)) (tables_from (i + 1) t)) (split_next (places_of room) (kept_lists n t) i (here i t) (into g.model))) (add-one i)
          ∙ ap (λ (ms : List ErrorMechanism). split_all (places_of room) (kept_lists n t) i ms (into g.model)) (sym (model_next i n t l)) ∙ g.left

      next_is : (b : Bool) → leb (get_or t.detector_counts i 0) 2 ≡ b → split_next (places_of room) (kept_lists n t) i (here i t) (into g.model) ≡ cond b (into g.model) (split_one (places_of room) (kept_lists n t) i (here i t) g.model)
      next_is b e = ap (λ (c : Bool). cond c (into g.model) (split_one (places_of room) (kept_lists n t) i (here i t) g.model)) (graphlike_here t hold l ∙ e)

      -- one of at most two detectors is kept as it is
      pub going_kept : get_or t.detector_counts i 0 ≤ 2 → Going n t was room base (i + 1) size lent
      going_kept d = record {
        model = g.model;
        holds = g.holds;
        front = g.front;
        few = omega (arith, g.few);
        left = ap (split_all (places_of room) (kept_lists n t) (i + 1) (model_of (n - (i + 1)) (tables_from (i + 1) t))) (sym (next_is true (le-leb _ _ d))) ∙ left_here;
      }

      module _ {D : ℕ} (large : Large D (head_of i t) (place_of i t) t.component_detectors t.component_observables t.entries) where
        left_one : split_all (places_of room) (kept_lists n t) (i + 1) (model_of (n - (i + 1)) (tables_from (i + 1) t)) (split_one (places_of room) (kept_lists n t) i (here i t) g.model) ≡ decompose (places_of room) (model_of n t)
        left_one = ap (split_all (places_of room) (kept_lists n t) (i + 1) (model_of (n - (i + 1)) (tables_from (i + 1) t))) (sym (next_is false (lt-leb _ _ large.over_two))) ∙ left_here

        one_of : (lent' : Mechanisms) (x : Split) (s : Size) → split_one (places_of room) (kept_lists n t) i (here i t) g.model ≡ x → AfterBy x was (Ok s) t.entries lent' → Going n t was room base (i + 1) s lent'
        one_of lent' (into b) s e o =
            let w : s ≡ size_of b = cc o.0 in
            let k = one_mechanism (places_of room) (kept_lists n t) i (here i t) g.model b e in
            record {
              model = b;
              holds = rw w o.1;
              front = front_grows (kept_lists n t) g.model b g.front k.grows;
              few = omega (arith, g.few, k.few, few_here t hold l large, ap (λ (u : Size). u.mechanisms) w, ap (λ (u : Size). u.mechanisms) g.holds.sized);
              left = ap (split_all (places_of room) (kept_lists n t) (i + 1) (model_of (n - (i + 1)) (tables_from (i + 1) t))) (sym e) ∙ left_one;
            }
        one_of lent' (refused x) s e o = absurd (cc o)

        pub going_one : (lent' : Mechanisms) (s : Size) → AfterBy (split_one (places_of room) (kept_lists n t) i (here i t) g.model) was (Ok s) t.entries lent' → Going n t was room base (i + 1) s lent'
        going_one lent' s o = one_of lent' (split_one (places_of room) (kept_lists n t) i (here i t) g.model) s refl o

        stop_of : (lent' : Mechanisms) (x : Split) (z : Refusal) → split_one (places_of room) (kept_lists n t) i (here i t) g.model ≡ x → AfterBy x was (Err z) t.entries lent' → decompose (places_of room) (model_of n t) ≡ refused z
        stop_of lent' (into b) z e o = absurd (cc o.0)
        stop_of lent' (refused x) z e o =
            let w : x ≡ z = cc in
            sym left_one ∙ ap (split_all (places_of room) (kept_lists n t) (i + 1) (model_of (n - (i + 1)) (tables_from (i + 1) t))) e ∙ stays (places_of room) (kept_lists n t) (i + 1) (model_of (n - (i + 1)) (tables_from (i + 1) t)) x ∙ ap refused w

        pub going_stop : (lent' : Mechanisms) (z : Refusal) (r : Result Size Refusal) → AfterBy (split_one (places_of room) (kept_lists n t) i (here i t) g.model) was (Err z) t.entries lent'
            → r ≡ Err z → AfterBy (decompose (places_of room) (model_of n t)) was r t.entries lent'
        going_stop lent' z r o q = rw (stop_of lent' (split_one (places_of room) (kept_lists n t) i (here i t) g.model) z refl o) q

    pub going_end : n ≤ i → AfterBy (decompose (places_of room) (model_of n t)) was (Ok size) t.entries lent
    unfolding split_all model_of
    going_end h =
        let z : n - i ≡ 0 = omega arith in
        let q : into g.model ≡ decompose (places_of room) (model_of n t) =
        ap (λ (k : ℕ). split_all (places_of room) (kept_lists n t) i (model_of k (tables_from i t)) (into g.model)) (sym z) ∙ g.left in
        subst (λ (x : Split). AfterBy x was (Ok size) t.entries lent) q (ap Ok g.holds.sized, rw (← g.holds.sized) g.holds)
