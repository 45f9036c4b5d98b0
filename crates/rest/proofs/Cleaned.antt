-- One detector and its edges are put to rest, and at the end all are. Assumes nothing.
use Prim.Native.Nat.{ℕ, ◌+◌, ◌<◌, ◌≤◌}
use native.Mathlib.Omega.{arith}
use mathlib.Core.Path.{◌≡◌, refl, sym, ap, ◌∙◌}
use mathlib.Core.List.{List, [], ◌∷◌}
use mathlib.Core.Bool.{Bool, true, false, cond, ◌&&◌}
use mathlib.Core.Logic.{⊎_elim}
use lib.ListN.{length, get_or, set, replicate, length-set, length-replicate, get_or-replicate}
use lib.Seq.{slice, slice_empty, ext_get_or}
use lib.Ieee.{Float, nan}
use borrow.Author.Tests.{eq-eqb, ne_eqb}
use Rattle.lists.specs.Lists.{below, any, member}
use Rattle.lists.proofs.Truth.{case-of}
use Rattle.lists.proofs.Members.{member_filter, below_member, length_below, below_at}
use Rattle.steps.specs.Graph.{boundary}
use Rattle.adjacency.specs.Adjacent.{star, touches}
use Rattle.lists.proofs.Slices.{at_set}
use Rattle.growth_state.specs.Rep.{zero64, Used}
use Rattle.growth_state.proofs.Laws.{slice_next}
use Rattle.rest.specs.Clean.{Clean, Cleared}

-- ---- a stretch of edges

same_both : {A : Type 0} (b : Bool) (v : A) → cond b v v ≡ v
same_both true v = refl
same_both false v = refl

-- the edge x is at rest, and those of rest are to come
clear_step : {A : Type 0} (l : List A) (x : ℕ) (v z : A) (rest : List ℕ) → x < length l → (e : ℕ) → cond (member e rest) v (get_or (set l x v) e z) ≡ cond (member e (x ∷ rest)) v (get_or l e z)
unfolding member
clear_step l x v z rest h e = ⊎_elim
    (λ r. rw (eq-eqb e x r.0) (ap (cond (member e rest) v) r.1 ∙ same_both (member e rest) v))
    (λ r. rw (ne_eqb e x r.0) (ap (cond (member e rest) v) r.1))
    (at_set l x v z e h)

pub clear_turn : {A : Type 0} (adj : List ℕ) (k end : ℕ) → k < end → end ≤ length adj → (l : List A) (v z : A) → get_or adj k 0 < length l → (R : ℕ → A)
    → ((e : ℕ) → cond (member e (slice k end adj)) v (get_or l e z) ≡ R e)
    → (e : ℕ) → cond (member e (slice (k + 1) end adj)) v (get_or (set l (get_or adj k 0) v) e z) ≡ R e
clear_turn adj k end hk he l v z h R inv e = clear_step l (get_or adj k 0) v z (slice (k + 1) end adj) h e ∙ (rw (slice_next k end adj hk he) at (inv e))

pub clear_end : {A : Type 0} (adj : List ℕ) (k : ℕ) (l : List A) (v z : A) (e : ℕ) → cond (member e (slice k k adj)) v (get_or l e z) ≡ get_or l e z
unfolding member
clear_end adj k l v z e = rw (slice_empty k adj)

-- ---- one detector

module _ {A : Type 0} (d x : ℕ) (xs : List ℕ) (hx : x < d) where
  -- a table of detectors, with f y at rest
  rest_step : (t : List A) (z : A) (f : ℕ → A) → length t ≡ d → ((y : ℕ) → y < d → member y (x ∷ xs) ≡ false → get_or t y z ≡ f y)
      → (y : ℕ) → y < d → member y xs ≡ false → get_or (set t x (f x)) y z ≡ f y
  unfolding member
  rest_step t z f len old y hy m = ⊎_elim
      (λ r. r.1 ∙ ap f (sym r.0))
      (λ r. r.1 ∙ old y hy (rw (ne_eqb y x r.0) m))
      (at_set t x (f x) z y (rw len hx))

  -- a table of edges, with v at rest
  edge_step : (us vs : List ℕ) (t t' : List A) (v z : A) → ((e : ℕ) → e < length us → any (λ y. touches us vs y e) (x ∷ xs) ≡ false → get_or t e z ≡ v)
      → ((e : ℕ) → get_or t' e z ≡ cond (member e (star us vs x)) v (get_or t e z))
      → (e : ℕ) → e < length us → any (λ y. touches us vs y e) xs ≡ false → get_or t' e z ≡ v
  unfolding any
  edge_step us vs t t' v z old is e h m = is e ∙ ap (λ b. cond b v (get_or t e z)) (member_filter (touches us vs x) e (below (length us)) ∙ ap (λ b. touches us vs x e && b) (below_member e (length us) h))
      ∙ case-of (touches us vs x e)
      (λ t. rw t)
      (λ f. rw f (old e h (rw f m)))

pub used_next : {d : ℕ} {us vs : List ℕ} {x : ℕ} {xs : List ℕ} {lit : List Bool} {growth : List Float} {sat known : List Bool} {parent : List ℕ} {odd : List Bool} {exit : List ℕ} {hot free : List Bool}
    → Used d us vs (x ∷ xs) lit growth sat known parent odd exit hot free → x < d → {growth' : List Float} {sat' : List Bool} → Cleared (star us vs x) growth sat growth' sat'
    → length growth' ≡ length growth → length sat' ≡ length sat
    → Used d us vs xs (set lit x false) growth' sat' (set known x false) (set parent x x) (set odd x false) (set exit x boundary) (set hot x false) (set free x false)
used_next {d} {us} {vs} {x} {xs} {lit} {growth} {sat} {known} {parent} {odd} {exit} {hot} {free} u hx {growth'} {sat'} c lg ls = record {
  lits = simp length-set u.lits;
  growths = lg ∙ u.growths;
  sats = ls ∙ u.sats;
  knowns = simp length-set u.knowns;
  parents = simp length-set u.parents;
  odds = simp length-set u.odds;
  exits = simp length-set u.exits;
  hots = simp length-set u.hots;
  frees = simp length-set u.frees;
  lit_rest = rest_step d x xs hx lit false (λ y. false) u.lits u.lit_rest;
  known_rest = rest_step d x xs hx known false (λ y. false) u.knowns u.known_rest;
  parent_rest = rest_step d x xs hx parent 0 (λ y. y) u.parents u.parent_rest;
  odd_rest = rest_step d x xs hx odd false (λ y. false) u.odds u.odd_rest;
  exit_rest = rest_step d x xs hx exit 0 (λ y. boundary) u.exits u.exit_rest;
  hot_rest = rest_step d x xs hx hot false (λ y. false) u.hots u.hot_rest;
  free_rest = rest_step d x xs hx free false (λ y. false) u.frees u.free_rest;
  growth_rest = edge_step d x xs hx us vs growth growth' zero64 nan u.growth_rest c.growth_is;
  sat_rest = edge_step d x xs hx us vs sat sat' false false u.sat_rest c.sat_is;
}

-- ---- all of them

all_same : {A : Type 0} (t : List A) (n : ℕ) (v z : A) → length t ≡ n → ((i : ℕ) → i < n → get_or t i z ≡ v) → t ≡ replicate n v
all_same t n v z len h = ext_get_or z t (replicate n v) (len ∙ sym (length-replicate n v)) (λ i k. h i (omega arith) ∙ sym (get_or-replicate n i v z (omega arith)))

pub clean_of : {d : ℕ} {us vs : List ℕ} {lit : List Bool} {growth : List Float} {sat known : List Bool} {parent : List ℕ} {odd : List Bool} {exit : List ℕ} {hot free : List Bool}
    → Used d us vs [] lit growth sat known parent odd exit hot free → Clean d (length us) lit growth sat known parent odd exit hot free
unfolding member any
clean_of {d} {us} {vs} {lit} {growth} {sat} {known} {parent} {odd} {exit} {hot} {free} u = record {
  lits = all_same lit d false false u.lits (λ x h. u.lit_rest x h refl);
  growths = all_same growth (length us) zero64 nan u.growths (λ e h. u.growth_rest e h refl);
  sats = all_same sat (length us) false false u.sats (λ e h. u.sat_rest e h refl);
  knowns = all_same known d false false u.knowns (λ x h. u.known_rest x h refl);
  parents = ext_get_or 0 parent (below d) (u.parents ∙ sym (length_below d)) (λ x h. u.parent_rest x (omega (arith, u.parents)) refl ∙ sym (below_at d x 0 (omega (arith, u.parents))));
  odds = all_same odd d false false u.odds (λ x h. u.odd_rest x h refl);
  exits = all_same exit d boundary 0 u.exits (λ x h. u.exit_rest x h refl);
  hots = all_same hot d false false u.hots (λ x h. u.hot_rest x h refl);
  frees = all_same free d false false u.frees (λ x h. u.free_rest x h refl);
}
