-- What adding p and appending keep is kept by decomposition.
use Rattle.std.specs.Prelude.{Option, None, Some}
use Prim.Native.Nat.{ℕ, zero, suc, ◌+◌, ◌<◌, ◌≤◌}
use native.Mathlib.Omega.{arith}
use mathlib.Core.Path.{◌≡◌, refl, sym, ◌∙◌, subst}
use mathlib.Core.List.{List, [], ◌∷◌, ◌++◌}
use mathlib.Core.Bool.{true, false, not, ◌&&◌}
use lib.ListN.{length, get_or, length-append, get_or-append}
use lib.Seq.{get_or-append_seam}
use lib.Dec.{leb, ltb}
use lib.Ieee.{Float}
use borrow.Author.Tests.{leb-true, ltb-true, ltb-false, not-false}
use Rattle.lists.specs.Lists.{filter, any}
use Rattle.lists.proofs.Truth.{case-of, and_left, and_right, or_left, or_right}
use Rattle.codes.specs.declared.Refusal.TheVariants.{Limit, NoCover}
use Rattle.codes.specs.Limits.{max_mechanisms}
use Rattle.dem.specs.Model.{Symptom, ErrorMechanism}
use Rattle.dem.specs.Tables.{symptom_entries}
use Rattle.dem.specs.Cover.{first_cover}
use Rattle.dem.specs.Decompose.{Places, Split, into, refused, add_at, add_all, has_place, add_component, add_next, add_components, last_equal, one_or_two, is_suggested, is_graphlike, by_cover, split_one, split_next, split_all, kept_of, decompose, entries_of}
use Rattle.suggested.proofs.Models.{raised_length, raised_entries, raised_symptom, entries_append}
use Rattle.suggested.proofs.Turns.{stopped, none_in}
use Rattle.splits.proofs.Suggests.{all_one_or_two}
use Rattle.split_model.specs.Begun.{symptoms_of}
use Rattle.split_model.proofs.Grows.{fresh, stays}
use Rattle.decompose.specs.Laws.{Placed}

module _ (room : Places) (P : List ErrorMechanism → Type 0)
    (on-raise : (p : Float) (k : ℕ) (a : List ErrorMechanism) → P a → P (add_at p k a))
    (on-new : (p : Float) (s : Symptom) (a : List ErrorMechanism) → one_or_two s ≡ true → has_place room s a ≡ true → P a → P (a ++ (fresh p s ∷ []))) where
  one_component : (p : Float) (s : Symptom) (a : List ErrorMechanism) (o : Option ℕ) (b : List ErrorMechanism) → one_or_two s ≡ true → add_component room p s a o ≡ into b → P a → P b
  unfolding add_component
  one_component p s a (Some k) b t e h = let q : add_at p k a ≡ b = cc in subst P q (on-raise p k a h)
  one_component p s a None b t e h = case-of (has_place room s a)
      (λ u. let w = rw u at e in let q : a ++ (fresh p s ∷ []) ≡ b = cc in subst P q (on-new p s a t u h))
      (λ u. let w = rw u at e in none_in Limit b w)

  next_component : (p : Float) (c : Symptom) (cs : List Symptom) (a b : List ErrorMechanism) → one_or_two c ≡ true
      → ((d : List ErrorMechanism) → add_components room p cs (into d) ≡ into b → P d → P b)
      → (y : Split) → add_next room p c (into a) ≡ y → add_components room p cs y ≡ into b → P a → P b
  next_component p c cs a b t ih (refused r) g f h = none_in r b (sym (stopped room p cs r) ∙ f)
  next_component p c cs a b t ih (into d) g f h = ih d f (one_component p c a (last_equal c 0 a) d t g h)

  all_components : (p : Float) (cs : List Symptom) (a b : List ErrorMechanism) → any (λ r. not (one_or_two r)) cs ≡ false → add_components room p cs (into a) ≡ into b → P a → P b
  unfolding add_components any
  all_components p [] a b t e h = let q : a ≡ b = cc in subst P q h
  all_components p (c ∷ cs) a b t e h =
      let others = any (λ r. not (one_or_two r)) cs in
      next_component p c cs a b (not-false (one_or_two c) (or_left (not (one_or_two c)) others t))
      (λ d. all_components p cs d b (or_right (not (one_or_two c)) others t)) (add_next room p c (into a)) refl e h

  all_members : (p : Float) (cs : List ℕ) (a : List ErrorMechanism) → P a → P (add_all p cs a)
  unfolding add_all
  all_members p [] a h = h
  all_members p (c ∷ cs) a h = all_members p cs (add_at p c a) (on-raise p c a h)

  by_cover_lem : (p : Float) (i : ℕ) (a : List ErrorMechanism) (x : Option (List ℕ)) (b : List ErrorMechanism) → by_cover p i a x ≡ into b → P a → P b
  by_cover_lem p i a None b e h = none_in (NoCover i) b e
  by_cover_lem p i a (Some cs) b e h = let q : add_all p cs a ≡ b = cc in subst P q (all_members p cs a h)

  one_mechanism : (ks : List Symptom) (i : ℕ) (m : ErrorMechanism) (a b : List ErrorMechanism) → split_one room ks i m a ≡ into b → P a → P b
  unfolding split_one
  one_mechanism ks i m a b e h = case-of (is_suggested m.components)
      (λ t. all_components m.probability m.components a b (all_one_or_two m.components t) (rw t at e) h)
      (λ f. by_cover_lem m.probability i a (first_cover ks m.symptom) b (rw f at e) h)

  next_mechanism : (ks : List Symptom) (i : ℕ) (m : ErrorMechanism) (a y : List ErrorMechanism) → split_next room ks i m (into a) ≡ into y → P a → P y
  next_mechanism ks i m a y g h = case-of (is_graphlike m)
      (λ t. let w = rw t at g in let q : a ≡ y = cc in subst P q h)
      (λ f. one_mechanism ks i m a y (rw f at g) h)

  all_mechanisms : (ks : List Symptom) (i : ℕ) (ms : List ErrorMechanism) (a : Split) (b : List ErrorMechanism) → ((d : List ErrorMechanism) → a ≡ into d → P d) → split_all room ks i ms a ≡ into b → P b
  unfolding split_all
  all_mechanisms ks i [] a b h e = h b e
  all_mechanisms ks i (m ∷ ms) (refused r) b h e = none_in r b (sym (stays room ks (suc i) ms r) ∙ e)
  all_mechanisms ks i (m ∷ ms) (into a) b h e =
      all_mechanisms ks (suc i) ms (split_next room ks i m (into a)) b (λ d g. next_mechanism ks i m a d g (h a refl)) e

  pub keeps : (ms b : List ErrorMechanism) → decompose room ms ≡ into b → P (kept_of ms) → P b
  unfolding decompose
  keeps ms b e h = all_mechanisms (symptoms_of (kept_of ms)) 0 ms (into (kept_of ms)) b (λ d q. let w : kept_of ms ≡ d = cc in subst P w h) e

-- ---- the lent places

place_new : (room : Places) (p : Float) (s : Symptom) (a : List ErrorMechanism) → has_place room s a ≡ true → Placed room (a ++ (fresh p s ∷ []))
unfolding has_place entries_of
place_new room p s a u =
    let few = ltb (length a) room.mechanisms in
    let under = ltb (length a) max_mechanisms in
    let fits = leb (entries_of a + length (symptom_entries (s ∷ []))) room.entries in
    let l : length a < room.mechanisms = ltb-true _ _ (and_left few (under && fits) u) in
    let e : entries_of a + length (symptom_entries (s ∷ [])) ≤ room.entries = leb-true _ _ (and_right under fits (and_right few (under && fits) u)) in
    record { mechanisms = omega (arith, l, length-append a (fresh p s ∷ [])); entries = omega (arith, e, entries_append a (fresh p s ∷ [])) }

-- a model whose kept mechanisms find their places finds its own
pub placed : (room : Places) (ms b : List ErrorMechanism) → decompose room ms ≡ into b → Placed room (kept_of ms) → Placed room b
placed room = keeps room (Placed room)
    (λ p k a h. record { mechanisms = omega (arith, h.mechanisms, raised_length p k a); entries = omega (arith, h.entries, raised_entries p k a) })
    (λ p s a t u h. place_new room p s a u)

-- ---- at most two detectors

abbrev Graphlike : List ErrorMechanism → Type 0
Graphlike ms = (k : ℕ) (z : ErrorMechanism) → k < length ms → length (get_or ms k z).symptom.detectors ≤ 2

kept_graphlike : (ms : List ErrorMechanism) → Graphlike (kept_of ms)
unfolding kept_of filter
kept_graphlike [] = λ k z l. absurd (omega arith)
kept_graphlike (m ∷ ms) = case-of (is_graphlike m)
    (λ t. rw t (first m (kept_of ms) (leb-true _ _ t) (kept_graphlike ms)))
    (λ f. rw f (kept_graphlike ms))
  where
    first : (m : ErrorMechanism) (ms : List ErrorMechanism) → length m.symptom.detectors ≤ 2 → Graphlike ms → Graphlike (m ∷ ms)
    first m ms h g zero z l = h
    first m ms h g (suc k) z l = g k z (omega arith)

new_graphlike : (p : Float) (s : Symptom) (a : List ErrorMechanism) → one_or_two s ≡ true → Graphlike a → Graphlike (a ++ (fresh p s ∷ []))
new_graphlike p s a t h k z l = case-of (ltb k (length a))
    (λ u. rw (get_or-append a (fresh p s ∷ []) z k (ltb-true _ _ u)) (h k z (ltb-true _ _ u)))
    (λ u. let e : k ≡ length a = omega (arith, ltb-false k (length a) u, length-append a (fresh p s ∷ [])) in
    rw (e, get_or-append_seam a (fresh p s) [] z) (leb-true _ _ (and_right (leb 1 (length s.detectors)) (leb (length s.detectors) 2) t)))

pub graphlike : (room : Places) (ms b : List ErrorMechanism) → decompose room ms ≡ into b → Graphlike b
graphlike room ms b e = keeps room Graphlike
    (λ p k a h i z l. rw (raised_symptom p k a i z) (h i z (omega (arith, raised_length p k a))))
    (λ p s a t u h. new_graphlike p s a t h) ms b e (kept_graphlike ms)
