-- What splitting leaves of the model: lists and components stay, and new mechanisms have no components.
use Rattle.std.specs.Prelude.{Option, None, Some}
use Prim.Native.Nat.{ℕ, zero, suc, ◌+◌, ◌≤◌}
use native.Mathlib.Omega.{arith}
use mathlib.Core.Path.{◌≡◌, refl, sym, ap, ◌∙◌, subst}
use mathlib.Core.List.{List, [], ◌∷◌, ◌++◌, append_assoc, append-nil}
use mathlib.Core.Bool.{false}
use lib.ListN.{length, replicate, length-append, replicate-append-replicate}
use lib.IntN.{pos}
use lib.Ieee.{Float, fin}
use Rattle.lists.proofs.Truth.{case-of}
use Rattle.codes.specs.declared.Refusal.{Refusal}
use Rattle.codes.specs.declared.Refusal.TheVariants.{Limit, NoCover}
use Rattle.dem.specs.Model.{Symptom, ErrorMechanism}
use Rattle.dem.specs.Tables.{Tables, tables_of, symptom_entries}
use Rattle.dem.specs.Cover.{first_cover}
use Rattle.dem.specs.Decompose.{Places, Split, into, refused, plus, add_at, add_all, has_place, add_component, add_next, add_components, last_equal, is_suggested, is_graphlike, by_cover, split_one, split_next, split_all, kept_of, decompose}
use Rattle.kept.proofs.Kept.{tables_append}
use Rattle.suggested.proofs.Models.{raised_tables, raised_length}
use Rattle.suggested.proofs.Turns.{stopped, none_in}
use Rattle.split_model.specs.Begun.{symptoms_of}
use Rattle.split_model.specs.Laws.{Grows}

pub entries_append : (a b : List Symptom) → symptom_entries (a ++ b) ≡ symptom_entries a ++ symptom_entries b
unfolding symptom_entries
entries_append [] b = refl
entries_append (s ∷ a) b =
    rw (entries_append a b, append_assoc s.detectors (s.observables ++ symptom_entries a) (symptom_entries b), append_assoc s.observables (symptom_entries a) (symptom_entries b))

map_append : (a b : List ErrorMechanism) → symptoms_of (a ++ b) ≡ symptoms_of a ++ symptoms_of b
map_append [] b = refl
map_append (m ∷ a) b = ap {B = List Symptom} (λ l. m.symptom ∷ l) (map_append a b)

raised_symptoms : (p : Float) (k : ℕ) (ms : List ErrorMechanism) → symptoms_of (add_at p k ms) ≡ symptoms_of ms
unfolding add_at
raised_symptoms p k [] = refl
raised_symptoms p zero (m ∷ ms) = refl
raised_symptoms p (suc k) (m ∷ ms) = ap {B = List Symptom} (λ l. m.symptom ∷ l) (raised_symptoms p k ms)

pub grows_same : (a : List ErrorMechanism) → Grows a a
unfolding symptom_entries
grows_same a = record {
  new = [];
  symptoms = sym (append-nil (symptoms_of a));
  component_counts = sym (append-nil (tables_of a).component_counts);
  component_detectors = refl;
  component_observables = refl;
  entries = sym (append-nil (tables_of a).entries);
}

pub grows_then : (a b c : List ErrorMechanism) → Grows a b → Grows b c → Grows a c
grows_then a b c f g = record {
  new = f.new ++ g.new;
  symptoms = g.symptoms ∙ ap (λ (l : List Symptom). l ++ g.new) f.symptoms ∙ append_assoc (symptoms_of a) f.new g.new;
  component_counts = g.component_counts ∙ ap (λ (l : List ℕ). l ++ replicate (length g.new) 0) f.component_counts
      ∙ append_assoc (tables_of a).component_counts (replicate (length f.new) 0) (replicate (length g.new) 0)
      ∙ ap (λ (l : List ℕ). (tables_of a).component_counts ++ l)
      (replicate-append-replicate (length f.new) (length g.new) 0 ∙ ap (λ (k : ℕ). replicate {A = ℕ} k 0) (sym (length-append f.new g.new)));
  component_detectors = g.component_detectors ∙ f.component_detectors;
  component_observables = g.component_observables ∙ f.component_observables;
  entries = g.entries ∙ ap (λ (l : List ℕ). l ++ symptom_entries g.new) f.entries
      ∙ append_assoc (tables_of a).entries (symptom_entries f.new) (symptom_entries g.new)
      ∙ ap (λ (l : List ℕ). (tables_of a).entries ++ l) (sym (entries_append f.new g.new));
}

pub grows_raised : (p : Float) (k : ℕ) (a : List ErrorMechanism) → Grows a (add_at p k a)
unfolding symptom_entries
grows_raised p k a =
    let t = raised_tables p k a in
    record {
      new = [];
      symptoms = raised_symptoms p k a ∙ sym (append-nil (symptoms_of a));
      component_counts = ap (λ (u : Tables). u.component_counts) t ∙ sym (append-nil (tables_of a).component_counts);
      component_detectors = ap (λ (u : Tables). u.component_detectors) t;
      component_observables = ap (λ (u : Tables). u.component_observables) t;
      entries = ap (λ (u : Tables). u.entries) t ∙ sym (append-nil (tables_of a).entries);
    }

abbrev pub fresh : Float → Symptom → ErrorMechanism
fresh p s = record { probability = plus (fin false 0 (pos 0)) p; symptom = s; components = [] }

grows_new : (p : Float) (s : Symptom) (a : List ErrorMechanism) → Grows a (a ++ (fresh p s ∷ []))
unfolding tables_of symptom_entries
grows_new p s a =
    let t = tables_append a (fresh p s ∷ []) in
    record {
      new = s ∷ [];
      symptoms = map_append a (fresh p s ∷ []);
      component_counts = ap (λ (u : Tables). u.component_counts) t;
      component_detectors = ap (λ (u : Tables). u.component_detectors) t ∙ append-nil (tables_of a).component_detectors;
      component_observables = ap (λ (u : Tables). u.component_observables) t ∙ append-nil (tables_of a).component_observables;
      entries = ap (λ (u : Tables). u.entries) t;
    }

-- ---- along the two ways

pub record Step (most : ℕ) (a b : List ErrorMechanism) : Type 0 where
  pub grows : Grows a b
  pub few : length b ≤ length a + most

one_component : (room : Places) (p : Float) (s : Symptom) (a : List ErrorMechanism) (o : Option ℕ) (b : List ErrorMechanism) → add_component room p s a o ≡ into b → Step 1 a b
unfolding add_component
one_component room p s a (Some k) b e =
    let q : add_at p k a ≡ b = cc in
    subst (Step 1 a) q (record { grows = grows_raised p k a; few = omega (arith, raised_length p k a) })
one_component room p s a None b e = case-of (has_place room s a)
    (λ t. let w = rw t at e in let q : a ++ (fresh p s ∷ []) ≡ b = cc in
    subst (Step 1 a) q (record { grows = grows_new p s a; few = omega (arith, length-append a (fresh p s ∷ [])) }))
    (λ f. let w = rw f at e in none_in Limit b w)

next_component : (room : Places) (p : Float) (c : Symptom) (cs : List Symptom) (a b : List ErrorMechanism)
    → ((d : List ErrorMechanism) → add_components room p cs (into d) ≡ into b → Step (length cs) d b)
    → (y : Split) → add_next room p c (into a) ≡ y → add_components room p cs y ≡ into b → Step (suc (length cs)) a b
next_component room p c cs a b ih (refused r) g f = none_in r b (sym (stopped room p cs r) ∙ f)
next_component room p c cs a b ih (into d) g f =
    let one = one_component room p c a (last_equal c 0 a) d g in
    let rest = ih d f in
    record { grows = grows_then a d b one.grows rest.grows; few = omega (arith, one.few, rest.few) }

all_components : (room : Places) (p : Float) (cs : List Symptom) (a b : List ErrorMechanism) → add_components room p cs (into a) ≡ into b → Step (length cs) a b
unfolding add_components
all_components room p [] a b e = let q : a ≡ b = cc in subst (Step 0 a) q (record { grows = grows_same a; few = omega arith })
all_components room p (c ∷ cs) a b e = next_component room p c cs a b (λ d. all_components room p cs d b) (add_next room p c (into a)) refl e

all_members : (p : Float) (cs : List ℕ) (a : List ErrorMechanism) → Step 0 a (add_all p cs a)
unfolding add_all
all_members p [] a = record { grows = grows_same a; few = omega arith }
all_members p (c ∷ cs) a =
    let r = all_members p cs (add_at p c a) in
    record { grows = grows_then a (add_at p c a) (add_all p cs (add_at p c a)) (grows_raised p c a) r.grows; few = omega (arith, r.few, raised_length p c a) }

by_cover_lem : (p : Float) (i : ℕ) (a : List ErrorMechanism) (x : Option (List ℕ)) (b : List ErrorMechanism) → by_cover p i a x ≡ into b → Step 0 a b
by_cover_lem p i a None b e = none_in (NoCover i) b e
by_cover_lem p i a (Some cs) b e = let q : add_all p cs a ≡ b = cc in subst (Step 0 a) q (all_members p cs a)

pub one_mechanism : (room : Places) (ks : List Symptom) (i : ℕ) (m : ErrorMechanism) (a b : List ErrorMechanism) → split_one room ks i m a ≡ into b → Step (length m.components) a b
unfolding split_one
one_mechanism room ks i m a b e = case-of (is_suggested m.components)
    (λ t. all_components room m.probability m.components a b (rw t at e))
    (λ f. let s = by_cover_lem m.probability i a (first_cover ks m.symptom) b (rw f at e) in record { grows = s.grows; few = omega (arith, s.few) })

pub stays : (room : Places) (ks : List Symptom) (i : ℕ) (ms : List ErrorMechanism) (r : Refusal) → split_all room ks i ms (refused r) ≡ refused r
unfolding split_all
stays room ks i [] r = refl
stays room ks i (m ∷ ms) r = stays room ks (suc i) ms r

next_grows : (room : Places) (ks : List Symptom) (i : ℕ) (m : ErrorMechanism) (a y : List ErrorMechanism) → split_next room ks i m (into a) ≡ into y → Grows a y
next_grows room ks i m a y g = case-of (is_graphlike m)
    (λ t. let w = rw t at g in let q : a ≡ y = cc in subst (Grows a) q (grows_same a))
    (λ f. (one_mechanism room ks i m a y (rw f at g)).grows)

next_mechanism : (room : Places) (ks : List Symptom) (i : ℕ) (m : ErrorMechanism) (ms a b : List ErrorMechanism)
    → ((d : List ErrorMechanism) → split_all room ks (suc i) ms (into d) ≡ into b → Grows d b)
    → (y : Split) → split_next room ks i m (into a) ≡ y → split_all room ks (suc i) ms y ≡ into b → Grows a b
next_mechanism room ks i m ms a b ih (refused r) g f = none_in r b (sym (stays room ks (suc i) ms r) ∙ f)
next_mechanism room ks i m ms a b ih (into d) g f = grows_then a d b (next_grows room ks i m a d g) (ih d f)

all_mechanisms : (room : Places) (ks : List Symptom) (i : ℕ) (ms : List ErrorMechanism) (a b : List ErrorMechanism) → split_all room ks i ms (into a) ≡ into b → Grows a b
unfolding split_all
all_mechanisms room ks i [] a b e = let q : a ≡ b = cc in subst (Grows a) q (grows_same a)
all_mechanisms room ks i (m ∷ ms) a b e = next_mechanism room ks i m ms a b (λ d. all_mechanisms room ks (suc i) ms d b) (split_next room ks i m (into a)) refl e

-- of the kept mechanisms lists and components stay
pub decomposed : (room : Places) (ms b : List ErrorMechanism) → decompose room ms ≡ into b → Grows (kept_of ms) b
unfolding decompose
decomposed room ms b e = all_mechanisms room (symptoms_of (kept_of ms)) 0 ms (kept_of ms) b e
