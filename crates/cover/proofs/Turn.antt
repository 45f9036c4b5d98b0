-- One turn of the search against `cover_of`, and what an outcome tells.
use Rattle.std.specs.Prelude.{Option}
use Rattle.std.specs.Prelude.{Some, None}
use Prim.Native.Nat.{ℕ, zero, suc, ◌+◌, ◌-◌, ◌<◌, ◌≤◌}
use native.Mathlib.Numerals.{add-one}
use native.Mathlib.Omega.{arith}
use mathlib.Core.Path.{◌≡◌, refl, sym, ap, ◌∙◌}
use mathlib.Core.List.{List, [], ◌∷◌}
use mathlib.Core.Bool.{Bool, true, false, ◌&&◌, not}
use lib.Dec.{eqb}
use lib.ListN.{length, get_or, set}
use lib.Seq.{sets, set_comm}
use lib.Bits.{bit_and, bit_xor, and_zero_l}
use lib.Count.{ones}
use borrow.Author.Tests.{eq-eqb, ne_eqb, eqb-true, eqb-false, not-true}
use Rattle.lists.specs.Lists.{from, filter}
use Rattle.lists.proofs.Truth.{case-of, and_left, and_right}
use Rattle.dem.specs.Cover.{choose, closes}
use Rattle.cover.specs.declared.Candidates.{Candidates}
use Rattle.cover.specs.Masks.{Candidate, fits, cover_of}
use Rattle.cover.specs.Search.{previous, highest, past, candidate_at, fresh_at, Outcome}
use Rattle.cover.proofs.Ones.{ones_within, ones_pos}

-- ---- the test

pub fits_yes : (m c : ℕ) → (c ≡ 0 → ⊥) → bit_and m c ≡ c → fits m c ≡ true
unfolding fits
fits_yes m c f e = rw (ne_eqb c 0 f, eq-eqb (bit_and m c) c e)

pub fits_parts : (m c : ℕ) → fits m c ≡ true → (c ≡ 0 → ⊥) × (bit_and m c ≡ c)
unfolding fits
fits_parts m c e =
    let a = not (eqb c 0) in
    let b = eqb (bit_and m c) c in
    (eqb-false c 0 (not-true (eqb c 0) (and_left a b e)), eqb-true (bit_and m c) c (and_right a b e))

-- what is left is smaller
smaller : (m c : ℕ) → fits m c ≡ true → suc (ones (bit_xor m c)) ≤ ones m
smaller m c e = let p = fits_parts m c e in omega (arith, ones_within m c p.1, ones_pos c p.0)

-- nothing fits in 0
pub fits_zero : (c : ℕ) → fits 0 c ≡ false
fits_zero c = case-of (fits 0 c) (λ t. let p = fits_parts 0 c t in absurd (p.0 (sym p.1 ∙ and_zero_l c))) (λ f. f)

-- ---- what is found where no detector is left

pub cover_zero : (cs : List Candidate) (o p : ℕ) → cover_of cs 0 o p ≡ closes (eqb o 0 && eqb p 0)
unfolding cover_of
cover_zero [] o p = refl
cover_zero (c ∷ cs) o p = rw (fits_zero c.mask) (cover_zero cs o p)

module _ (cs : List Candidate) (m o p d : ℕ) (l : List ℕ) (e : m ≡ 0) where
  pub all_closed : o ≡ 0 → p ≡ 0 → Outcome (cover_of cs m o p) d l (Some d) l
  all_closed q r = rw (e, cover_zero cs o p, eq-eqb o 0 q, eq-eqb p 0 r) (ap Some (omega arith), refl)

  pub some_open : (o ≡ 0 → p ≡ 0 → ⊥) → Outcome (cover_of cs m o p) d l None l
  some_open f = case-of (eqb o 0)
      (λ t. rw (e, cover_zero cs o p, t, ne_eqb p 0 (f (eqb-true o 0 t))) (refl, refl))
      (λ t. rw (e, cover_zero cs o p, t) (refl, refl))

open_mask : (m o p : ℕ) → (m ≡ 0 → ⊥) → cover_of [] m o p ≡ None
unfolding cover_of
open_mask m o p f = rw (ne_eqb m 0 f)

-- ---- the search

pub highest_hit : (p : ℕ → Bool) (i : ℕ) → 0 < i → p (i - 1) ≡ true → highest p i ≡ Some (i - 1)
unfolding highest
highest_hit p zero h t = absurd (omega arith)
highest_hit p (suc i) h t = let e : suc i - 1 ≡ i = omega arith in let q : p i ≡ true = rw e at t in rw (q, e)

pub highest_miss : (p : ℕ → Bool) (i : ℕ) → 0 < i → p (i - 1) ≡ false → highest p i ≡ highest p (i - 1)
unfolding highest
highest_miss p zero h f = absurd (omega arith)
highest_miss p (suc i) h f = let e : suc i - 1 ≡ i = omega arith in let q : p i ≡ false = rw e at f in rw (q, e)

pub highest_none : (p : ℕ → Bool) → highest p 0 ≡ None
unfolding highest
highest_none p = refl

-- both say the same
pub previous_is : (p : ℕ → Bool) (n : ℕ) → previous p n ≡ past (highest p n)
unfolding previous highest
previous_is p zero = refl
previous_is p (suc n) = case-of (p n) (λ t. rw t (omega arith)) (λ f. rw f (previous_is p n))

pub previous_le : (p : ℕ → Bool) (n : ℕ) → previous p n ≤ n
unfolding previous
previous_le p zero = omega arith
previous_le p (suc n) = let h = previous_le p n in case-of (p n) (λ t. rw t (omega arith)) (λ f. rw f (omega arith))

-- and only the numbers below n count
pub previous_cong : (p q : ℕ → Bool) (n : ℕ) → ((i : ℕ) → i < n → p i ≡ q i) → previous p n ≡ previous q n
unfolding previous
previous_cong p q zero h = refl
previous_cong p q (suc n) h = rw (h n (omega arith), previous_cong p q n (λ i l. h i (omega arith)))

-- the place that was found, if any, plus one
module _ (p : ℕ → Bool) (n : ℕ) where
  pub previous_some : (i : ℕ) → Some i ≡ highest p n → (i < n) × (i + 1 ≡ previous p n)
  previous_some i e =
      let k : i + 1 ≡ previous p n = ap past e ∙ sym (previous_is p n) in
      (omega (arith, previous_le p n), k)

  pub previous_nothing : None ≡ highest p n → 0 ≡ previous p n
  previous_nothing e = ap past e ∙ sym (previous_is p n)

module _ (ns ms os ps es : List ℕ) where
  -- the candidates from `at` on, of n, that have no earlier equal
  abbrev pub rest : ℕ → ℕ → List Candidate
  rest n at = fresh_at ns ms os ps es (n - at) at

  module _ (n : ℕ) where
    rest_end : (at : ℕ) → n ≤ at → rest n at ≡ []
    unfolding fresh_at filter from
    rest_end at h = let e : n - at ≡ zero = omega arith in rw e

    rest_fresh : (at : ℕ) → at < n → eqb (get_or es at 0) 0 ≡ true → rest n at ≡ candidate_at ns ms os ps at ∷ rest n (at + 1)
    unfolding fresh_at filter from
    rest_fresh at h t = let e : n - at ≡ suc (n - (at + 1)) = omega arith in rw (e, add-one at, t)

    rest_stale : (at : ℕ) → at < n → eqb (get_or es at 0) 0 ≡ false → rest n at ≡ rest n (at + 1)
    unfolding fresh_at filter from
    rest_stale at h f = let e : n - at ≡ suc (n - (at + 1)) = omega arith in rw (e, add-one at, f)

    module _ (m o p at : ℕ) (h : at < n) where
      -- a candidate that is not tried
      passed : (eqb (get_or es at 0) 0 && fits m (get_or ms at 0)) ≡ false → cover_of (rest n at) m o p ≡ cover_of (rest n (at + 1)) m o p
      unfolding cover_of
      passed f = case-of (eqb (get_or es at 0) 0)
          (λ t. let u : fits m (get_or ms at 0) ≡ false = rw t at f in rw (rest_fresh at h t, u))
          (λ t. rw (rest_stale at h t))

      module _ (t : (eqb (get_or es at 0) 0 && fits m (get_or ms at 0)) ≡ true) where
        fits_here : fits m (get_or ms at 0) ≡ true
        fits_here = and_right (eqb (get_or es at 0) 0) (fits m (get_or ms at 0)) t

        -- one that is tried, and fails or not
        failed : cover_of (rest n (at + 1)) (bit_xor m (get_or ms at 0)) (bit_xor o (get_or os at 0)) (bit_xor p (get_or ps at 0)) ≡ None → cover_of (rest n at) m o p ≡ cover_of (rest n (at + 1)) m o p
        unfolding cover_of
        failed e = rw (rest_fresh at h (and_left (eqb (get_or es at 0) 0) (fits m (get_or ms at 0)) t), fits_here, e)

        took : (cs : List ℕ) → cover_of (rest n (at + 1)) (bit_xor m (get_or ms at 0)) (bit_xor o (get_or os at 0)) (bit_xor p (get_or ps at 0)) ≡ Some cs
            → cover_of (rest n at) m o p ≡ Some (get_or ns at 0 ∷ cs)
        unfolding cover_of
        took cs e = rw (rest_fresh at h (and_left (eqb (get_or es at 0) 0) (fits m (get_or ms at 0)) t), fits_here, e)

-- a cover has no more members than the mask has bits
pub few_members : (cs : List Candidate) (m o p : ℕ) (ks : List ℕ) → cover_of cs m o p ≡ Some ks → length ks ≤ ones m
unfolding cover_of
few_members [] m o p ks e = closes_few (eqb m 0 && (eqb o 0 && eqb p 0)) ks e
  where
    closes_few : (b : Bool) (ks : List ℕ) → closes b ≡ Some ks → length ks ≤ ones m
    closes_few true ks e = let q : [] ≡ ks = cc in rw (sym q) (omega arith)
    closes_few false ks e = absurd (let z : ◌≡◌ {A = ℕ} 0 1 = cc in omega arith)
few_members (c ∷ cs) m o p ks e =
    go (fits m c.mask) refl (cover_of cs (bit_xor m c.mask) (bit_xor o c.word0) (bit_xor p c.word1))
    (few_members cs (bit_xor m c.mask) (bit_xor o c.word0) (bit_xor p c.word1))
    (few_members cs m o p) e
  where
    go : (b : Bool) → fits m c.mask ≡ b → (x : Option (List ℕ)) → ((js : List ℕ) → x ≡ Some js → length js ≤ ones (bit_xor m c.mask))
        → ((js : List ℕ) → cover_of cs m o p ≡ Some js → length js ≤ ones m) → choose b c.number x (cover_of cs m o p) ≡ Some ks → length ks ≤ ones m
    go true t (Some js) f g e =
        let q : c.number ∷ js ≡ ks = cc in
        omega (arith, f js refl, smaller m c.mask t, ap length q)
    go true t None f g e = g ks e
    go false t x f g e = g ks e

-- the same of a struct of slices
abbrev pub rest_of : Candidates → ℕ → List Candidate
rest_of c = rest c.numbers.now c.masks.now c.words0.now c.words1.now c.earlier.now (length c.masks.now)

-- ---- outcomes

told_nothing : (x : Option (List ℕ)) (d : ℕ) (l l' : List ℕ) → Outcome x d l None l' → (x ≡ None) × (l' ≡ l)
told_nothing None d l l' h = (refl, h.1)
told_nothing (Some cs) d l l' h = absurd (let k = h.0 in cc)

told_members : (x : Option (List ℕ)) (d : ℕ) (l l' : List ℕ) (n : ℕ) → Outcome x d l (Some n) l'
    → (cs : List ℕ) × (x ≡ Some cs) × (n ≡ d + length cs) × (l' ≡ sets l d cs)
told_members None d l l' n h = absurd (let k = h.0 in cc)
told_members (Some cs) d l l' n h = let k = h.0 in (cs, refl, cc, h.1)

set_sets : (l : List ℕ) (i j a : ℕ) (vs : List ℕ) → i < j → set (sets l j vs) i a ≡ sets (set l i a) j vs
set_sets l i j a [] h = refl
set_sets l i j a (v ∷ vs) h =
    set_sets (set l j v) i (suc j) a vs (omega arith)
    ∙ ap (λ (k : List ℕ). sets k (suc j) vs) (set_comm l j i v a (λ e. absurd (omega arith)))

out_some : (x : Option (List ℕ)) (d : ℕ) (l : List ℕ) (a : ℕ) (cs : List ℕ) (n : ℕ) (l' : List ℕ) → x ≡ Some (a ∷ cs) → n ≡ d + 1 + length cs → l' ≡ sets l (d + 1) cs
    → Outcome x d l (Some n) (set l' d a)
out_some x d l a cs n l' e k h =
    rw e (
      ap Some (k ∙ omega arith),
      ap (λ (z : List ℕ). set z d a) h ∙ set_sets l d (d + 1) a cs (omega arith) ∙ ap (λ (z : ℕ). sets (set l d a) z cs) (add-one d),
    )

-- ---- the turns of the loop, where it keeps that the candidates from `at` on give the answer x

module _ (ns ms os ps es : List ℕ) (n m o p at : ℕ) (x : Option (List ℕ)) (same : cover_of (rest ns ms os ps es n at) m o p ≡ x) where
  -- no candidate is left
  pub turn_end : (d : ℕ) (l l' : List ℕ) → n ≤ at → (m ≡ 0 → ⊥) → l' ≡ l → Outcome x d l None l'
  turn_end d l l' h f e =
      let k : x ≡ None = sym same ∙ ap (λ (cs : List Candidate). cover_of cs m o p) (rest_end ns ms os ps es n at h) ∙ open_mask m o p f in
      rw k (refl, e)

  module _ (h : at < n) where
    pub turn_passed : false ≡ (eqb (get_or es at 0) 0 && fits m (get_or ms at 0)) → cover_of (rest ns ms os ps es n (at + 1)) m o p ≡ x
    turn_passed t = sym (passed ns ms os ps es n m o p at h (sym t)) ∙ same

    module _ (t : true ≡ (eqb (get_or es at 0) 0 && fits m (get_or ms at 0))) where
      pub turn_smaller : suc (ones (bit_xor m (get_or ms at 0))) ≤ ones m
      turn_smaller = smaller m (get_or ms at 0) (fits_here ns ms os ps es n m o p at h (sym t))

      module _ (d : ℕ) (l l' : List ℕ) where
        pub turn_failed : Outcome (cover_of (rest ns ms os ps es n (at + 1)) (bit_xor m (get_or ms at 0)) (bit_xor o (get_or os at 0)) (bit_xor p (get_or ps at 0))) d l None l'
            → (l' ≡ l) × (cover_of (rest ns ms os ps es n (at + 1)) m o p ≡ x)
        turn_failed g =
            let k = told_nothing (cover_of (rest ns ms os ps es n (at + 1)) (bit_xor m (get_or ms at 0)) (bit_xor o (get_or os at 0)) (bit_xor p (get_or ps at 0))) d l l' g in
            (k.1, sym (failed ns ms os ps es n m o p at h (sym t) k.0) ∙ same)

        pub turn_took : (l₀ : List ℕ) (r : ℕ) → l ≡ l₀ → Outcome (cover_of (rest ns ms os ps es n (at + 1)) (bit_xor m (get_or ms at 0)) (bit_xor o (get_or os at 0)) (bit_xor p (get_or ps at 0))) (d + 1) l (Some r) l'
            → Outcome x d l₀ (Some r) (set l' d (get_or ns at 0))
        turn_took l₀ r e g =
            let (cs, a, b, c) = told_members (cover_of (rest ns ms os ps es n (at + 1)) (bit_xor m (get_or ms at 0)) (bit_xor o (get_or os at 0)) (bit_xor p (get_or ps at 0))) (d + 1) l l' r g in
            out_some x d l₀ (get_or ns at 0) cs r l' (sym same ∙ took ns ms os ps es n m o p at h (sym t) cs a) b (c ∙ ap (λ (z : List ℕ). sets z (d + 1) cs) e)
