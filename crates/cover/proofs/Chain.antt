-- The chains: the lowest number that passes, and what the heads of the chains tell.
use Prim.Native.Nat.{ℕ, zero, suc, ◌+◌, ◌-◌, ◌<◌, ◌≤◌}
use native.Mathlib.Numerals.{add-one}
use native.Mathlib.Omega.{arith}
use mathlib.Core.Path.{◌≡◌, refl, sym, ap, ap₂, ◌∙◌, subst}
use mathlib.Core.Logic.{◌⊎◌, inl, inr, ⊎_elim}
use mathlib.Core.List.{List, ◌∷◌, map}
use mathlib.Core.Bool.{Bool, true, false}
use lib.Dec.{eqb}
use lib.ListN.{length, get_or, take, drop, set, replicate, length-set, length-replicate, get_or-replicate}
use lib.Seq.{drop-cons, get_or-set_same, get_or-set_other}
use borrow.Author.Tests.{eqb-true, eqb-false}
use Rattle.lists.specs.Lists.{from, below, filter, member}
use Rattle.lists.proofs.Truth.{case-of, clash}
use Rattle.dem.specs.Model.{Symptom, list_fits}
use Rattle.cover.proofs.Steps.{fits_below, head_in}
use Rattle.cover.specs.Kept.{detectors_at, symptom_at, kept_in, nowhere, lowest, starts_with, lowest_from, Detectors, Chains}

-- ---- the lowest that passes

module _ (p : ℕ → Bool) where
  lowest_hit : (n at : ℕ) → p at ≡ true → lowest p (suc n) at ≡ at
  unfolding lowest
  lowest_hit n at t = rw t

  lowest_miss : (n at : ℕ) → p at ≡ false → lowest p (suc n) at ≡ lowest p n (suc at)
  unfolding lowest
  lowest_miss n at f = rw f

  -- none before it passes
  lowest_before : (n at j : ℕ) → at ≤ j → j < n + at → j < lowest p n at → p j ≡ false
  unfolding lowest
  lowest_before zero at j h k l = absurd (omega arith)
  lowest_before (suc n) at j h k l = case-of (p at)
      (λ t. let q : j < at = rw t at l in absurd (omega arith))
      (λ f. let q : j < lowest p n (suc at) = rw f at l in
      case-of (eqb j at) (λ u. ap p (eqb-true j at u) ∙ f) (λ u. lowest_before n (suc at) j (omega (arith, eqb-false j at u)) (omega arith) q))

  -- it is none, or one that passes
  lowest_is : (n at : ℕ) → (lowest p n at ≡ nowhere) ⊎ ((at ≤ lowest p n at) × (lowest p n at < n + at) × (p (lowest p n at) ≡ true))
  unfolding lowest
  lowest_is zero at = inl refl
  lowest_is (suc n) at = case-of (p at)
      (λ t. rw t (inr (omega arith, omega arith, t)))
      (λ f. rw f (⊎_elim {C = (lowest p n (suc at) ≡ nowhere) ⊎ ((at ≤ lowest p n (suc at)) × (lowest p n (suc at) < suc n + at) × (p (lowest p n (suc at)) ≡ true))} (λ e. inl e) (λ e. inr (omega (arith, e.0), omega (arith, e.1), e.2)) (lowest_is n (suc at))))

  -- past numbers that do not pass
  lowest_jump : (j n at : ℕ) → j + at ≤ n → ((i : ℕ) → at ≤ i → i < j + at → p i ≡ false) → lowest p (n - at) at ≡ lowest p (n - (j + at)) (j + at)
  lowest_jump zero n at h f = let e : zero + at ≡ at = omega arith in rw e
  lowest_jump (suc j) n at h f =
      let e : n - at ≡ suc (n - suc at) = omega arith in
      let g : j + suc at ≡ suc j + at = omega arith in
      ap (λ (m : ℕ). lowest p m at) e ∙ lowest_miss (n - suc at) at (f at (omega arith) (omega arith))
      ∙ lowest_jump j n (suc at) (omega arith) (λ i a b. f i (omega arith) (omega arith)) ∙ ap (λ (m : ℕ). lowest p (n - m) m) g

  -- the same of the list of those that pass
  filter_jump : (j n at : ℕ) → j + at ≤ n → ((i : ℕ) → at ≤ i → i < j + at → p i ≡ false) → filter p (from (n - at) at) ≡ filter p (from (n - (j + at)) (j + at))
  unfolding filter from
  filter_jump zero n at h f = let e : zero + at ≡ at = omega arith in rw e
  filter_jump (suc j) n at h f =
      let e : n - at ≡ suc (n - suc at) = omega arith in
      let g : j + suc at ≡ suc j + at = omega arith in
      rw (e, f at (omega arith) (omega arith))
      (filter_jump j n (suc at) (omega arith) (λ i a b. f i (omega arith) (omega arith)) ∙ ap (λ (m : ℕ). filter p (from (n - m) m)) g)

  module _ (n : ℕ) where
    pub from_end : (at : ℕ) → n ≤ at → lowest p (n - at) at ≡ nowhere
    unfolding lowest
    from_end at h = let e : n - at ≡ zero = omega arith in rw e

    pub from_hit : (at : ℕ) → at < n → p at ≡ true → lowest p (n - at) at ≡ at
    from_hit at h t = let e : n - at ≡ suc (n - suc at) = omega arith in rw e (lowest_hit (n - suc at) at t)

    pub from_miss : (at : ℕ) → at < n → p at ≡ false → lowest p (n - at) at ≡ lowest p (n - (at + 1)) (at + 1)
    from_miss at h f = let e : n - at ≡ suc (n - (at + 1)) = omega arith in rw (e, add-one at) (lowest_miss (n - suc at) at f)

    pub from_before : (at j : ℕ) → at ≤ j → j < n → j < lowest p (n - at) at → p j ≡ false
    from_before at j h k l = lowest_before (n - at) at j h (omega arith) l

    pub from_is : (at : ℕ) → at ≤ n → (lowest p (n - at) at ≡ nowhere → ⊥) → (at ≤ lowest p (n - at) at) × (lowest p (n - at) at < n) × (p (lowest p (n - at) at) ≡ true)
    from_is at h f = ⊎_elim {C = (at ≤ lowest p (n - at) at) × (lowest p (n - at) at < n) × (p (lowest p (n - at) at) ≡ true)} (λ e. absurd (f e)) (λ e. (e.0, omega (arith, e.1), e.2)) (lowest_is (n - at) at)

    pub from_jump : (at k : ℕ) → at ≤ k → k ≤ n → ((i : ℕ) → at ≤ i → i < k → p i ≡ false) → lowest p (n - at) at ≡ lowest p (n - k) k
    from_jump at k h l f =
        let e : (k - at) + at ≡ k = omega arith in
        lowest_jump (k - at) n at (omega arith) (λ i a b. f i a (omega arith)) ∙ ap (λ (m : ℕ). lowest p (n - m) m) e

    pub filter_past : (at k : ℕ) → at ≤ k → k ≤ n → ((i : ℕ) → at ≤ i → i < k → p i ≡ false) → filter p (from (n - at) at) ≡ filter p (from (n - k) k)
    filter_past at k h l f =
        let e : (k - at) + at ≡ k = omega arith in
        filter_jump (k - at) n at (omega arith) (λ i a b. f i a (omega arith)) ∙ ap (λ (m : ℕ). filter p (from (n - m) m)) e

    pub filter_hit : (at : ℕ) → at < n → p at ≡ true → filter p (from (n - at) at) ≡ at ∷ filter p (from (n - (at + 1)) (at + 1))
    unfolding filter from
    filter_hit at h t = let e : n - at ≡ suc (n - (at + 1)) = omega arith in rw (e, t, add-one at)

    pub filter_miss : (at : ℕ) → at < n → p at ≡ false → filter p (from (n - at) at) ≡ filter p (from (n - (at + 1)) (at + 1))
    unfolding filter from
    filter_miss at h f = let e : n - at ≡ suc (n - (at + 1)) = omega arith in rw (e, f, add-one at)

-- ---- first detectors

-- the first of a part of the entries
pub starts_is : (es : List ℕ) (s c d : ℕ) → 0 < c → s + c ≤ length es → starts_with d (take c (drop s es)) ≡ eqb (get_or es s 0) d
starts_is es s zero d p h = absurd (omega arith)
starts_is es s (suc c) d p h = rw (drop-cons es s 0 (omega arith))

pub starts_none : (es : List ℕ) (s c d : ℕ) → c ≡ 0 → starts_with d (take c (drop s es)) ≡ false
starts_none es s c d e = rw e

-- ---- one more mechanism in the chains, from the last down

-- the chains of the mechanisms from k on
pub record Linked (lists : ℕ → List ℕ) (n k : ℕ) (first next : List ℕ) : Type 0 where
  pub begins : (d : ℕ) → d < length first → get_or first d 0 ≡ lowest_from lists n d k
  pub linked : (i d : ℕ) → k ≤ i → i < n → starts_with d (lists i) ≡ true → get_or next i 0 ≡ lowest_from lists n d (i + 1)

module _ (lists : ℕ → List ℕ) (n k : ℕ) (first next : List ℕ) (p : 0 < k) (h : k ≤ n) (l : Linked lists n k first next) where
  -- a mechanism with no detectors is in no chain
  pub link_none : ((d : ℕ) → starts_with d (lists (k - 1)) ≡ false) → Linked lists n (k - 1) first next
  link_none f =
      let e : k - 1 + 1 ≡ k = omega arith in
      record {
        begins = λ d m. l.begins d m ∙ sym (from_miss (λ i. starts_with d (lists i)) n (k - 1) (omega arith) (f d) ∙ ap (λ (j : ℕ). lowest_from lists n d j) e);
        linked = λ i d a b t. case-of (eqb i (k - 1)) (λ u. clash (subst (λ (j : ℕ). starts_with d (lists j) ≡ true) (eqb-true i (k - 1) u) t) (f d)) (λ u. l.linked i d (omega (arith, eqb-false i (k - 1) u)) b t);
      }

  -- one whose first detector is x begins the chain of x
  pub link_one : (x : ℕ) → x < length first → k ≤ length next → ((d : ℕ) → starts_with d (lists (k - 1)) ≡ eqb x d) → Linked lists n (k - 1) (set first x (k - 1)) (set next (k - 1) (get_or first x 0))
  link_one x m w f =
      let e : k - 1 + 1 ≡ k = omega arith in
      record {
        begins = λ d u. case-of (eqb x d)
            (λ t. let q = eqb-true x d t in
            ap (λ (z : ℕ). get_or (set first x (k - 1)) z 0) (sym q) ∙ get_or-set_same first x (k - 1) 0 m
            ∙ sym (from_hit (λ i. starts_with d (lists i)) n (k - 1) (omega arith) (f d ∙ t)))
            (λ t. get_or-set_other first x d (k - 1) 0 (λ z. eqb-false x d t (sym z))
            ∙ l.begins d (subst (λ (z : ℕ). d < z) (length-set first x (k - 1)) u)
            ∙ sym (from_miss (λ i. starts_with d (lists i)) n (k - 1) (omega arith) (f d ∙ t) ∙ ap (λ (j : ℕ). lowest_from lists n d j) e));
        linked = λ i d a b t. case-of (eqb i (k - 1))
            (λ u. let q = eqb-true i (k - 1) u in
            let r = eqb-true x d (sym (f d) ∙ subst (λ (j : ℕ). starts_with d (lists j) ≡ true) q t) in
            ap (λ (z : ℕ). get_or (set next (k - 1) (get_or first x 0)) z 0) q ∙ get_or-set_same next (k - 1) (get_or first x 0) 0 (omega arith)
            ∙ l.begins x m ∙ ap₂ (λ (y z : ℕ). lowest_from lists n y z) r (sym e ∙ ap (λ (z : ℕ). z + 1) (sym q)))
            (λ u. get_or-set_other next (k - 1) i (get_or first x 0) 0 (eqb-false i (k - 1) u) ∙ l.linked i d (omega (arith, eqb-false i (k - 1) u)) b t);
      }

-- the first detector of a checked list is below its bound
pub first_below : (b : ℕ) (es : List ℕ) (s c : ℕ) → 0 < c → s + c ≤ length es → list_fits b (take c (drop s es)) ≡ true → get_or es s 0 < b
first_below b es s c p h e = fits_below b (take c (drop s es)) e (get_or es s 0) (first_in c p h)
  where
    first_in : (c : ℕ) → 0 < c → s + c ≤ length es → member (get_or es s 0) (take c (drop s es)) ≡ true
    first_in zero p h = absurd (omega arith)
    first_in (suc c) p h = rw (drop-cons es s 0 (omega arith)) (head_in (get_or es s 0) (take c (drop (suc s) es)))

-- ---- the chains of the mechanisms of the tables

-- the first detector of mechanism k
pub head_below : (starts counts es : List ℕ) (n d k : ℕ) → Detectors starts counts es n d → k < n → 0 < get_or counts k 0 → get_or es (get_or starts k 0) 0 < d
head_below starts counts es n d k t h p = first_below d es (get_or starts k 0) (get_or counts k 0) p (t.listed k h) (t.checked k h)

-- no chains yet
pub link_begin : (lists : ℕ → List ℕ) (n m : ℕ) (first next : List ℕ) → first ≡ replicate m nowhere → Linked lists n n first next
link_begin lists n m first next e = record {
  begins = λ d h. ap (λ (l : List ℕ). get_or l d 0) e ∙ get_or-replicate m d nowhere 0 (omega (arith, ap length e, length-replicate m nowhere)) ∙ sym (from_end (λ i. starts_with d (lists i)) n n (omega arith));
  linked = λ i d a b. absurd (omega arith);
}

module _ (starts counts es : List ℕ) (n d k : ℕ) (t : Detectors starts counts es n d) (first next : List ℕ) (p : 0 < k) (h : k ≤ n) (l : Linked (detectors_at starts counts es) n k first next) where
  pub link_past : get_or counts (k - 1) 0 ≤ 0 → Linked (detectors_at starts counts es) n (k - 1) first next
  link_past z = link_none (detectors_at starts counts es) n k first next p h l (λ x. starts_none es (get_or starts (k - 1) 0) (get_or counts (k - 1) 0) x (omega arith))

  pub link_head : d ≤ length first → n ≤ length next → 0 < get_or counts (k - 1) 0
      → Linked (detectors_at starts counts es) n (k - 1) (set first (get_or es (get_or starts (k - 1) 0) 0) (k - 1)) (set next (k - 1) (get_or first (get_or es (get_or starts (k - 1) 0) 0) 0))
  link_head f m z =
      let i : k - 1 < n = omega arith in
      link_one (detectors_at starts counts es) n k first next p h l (get_or es (get_or starts (k - 1) 0) 0)
      (omega (arith, head_below starts counts es n d (k - 1) t i z)) (omega arith)
      (λ x. starts_is es (get_or starts (k - 1) 0) (get_or counts (k - 1) 0) x z (t.listed (k - 1) i))

-- all of them
pub linked_all : (lists : ℕ → List ℕ) (n k : ℕ) (first next : List ℕ) → k ≤ 0 → Linked lists n k first next → Chains lists n first next
linked_all lists n k first next h l =
    let z : k ≡ 0 = omega arith in
    let m = subst (λ (i : ℕ). Linked lists n i first next) z l in
    record { begins = m.begins; linked = λ i d. m.linked i d (omega arith) }

-- ---- tables that agree on the kept mechanisms

lowest_same : (p q : ℕ → Bool) (n at : ℕ) → ((k : ℕ) → k < n + at → p k ≡ q k) → lowest p n at ≡ lowest q n at
unfolding lowest
lowest_same p q zero at h = refl
lowest_same p q (suc n) at h =
    let r = lowest_same p q n (suc at) (λ k l. h k (omega arith)) in
    case-of (q at) (λ t. rw (h at (omega arith), t)) (λ f. rw (h at (omega arith), f) r)

pub chains_same : (lists lists' : ℕ → List ℕ) (n : ℕ) (first next : List ℕ) → ((k : ℕ) → k < n → lists k ≡ lists' k) → Chains lists n first next → Chains lists' n first next
chains_same lists lists' n first next h c = record {
  begins = λ d m. c.begins d m ∙ lowest_same (λ k. starts_with d (lists k)) (λ k. starts_with d (lists' k)) (n - 0) 0 (λ k l. ap (starts_with d) (h k (omega arith)));
  linked = λ k d m t. c.linked k d m (ap (starts_with d) (h k m) ∙ t) ∙ lowest_same (λ k. starts_with d (lists k)) (λ k. starts_with d (lists' k)) (n - (k + 1)) (k + 1) (λ i l. ap (starts_with d) (h i (omega arith)));
}

map_same : (f g : ℕ → Symptom) (n a : ℕ) → ((k : ℕ) → k < n + a → f k ≡ g k) → map f (from n a) ≡ map g (from n a)
unfolding from
map_same f g zero a h = refl
map_same f g (suc n) a h = ap₂ {C = List Symptom} (λ s ss. s ∷ ss) (h a (omega arith)) (map_same f g n (suc a) (λ k l. h k (omega arith)))

pub kept_same : (starts ds os es starts' ds' os' es' : List ℕ) (n : ℕ) → ((k : ℕ) → k < n → symptom_at starts ds os es k ≡ symptom_at starts' ds' os' es' k) → kept_in starts ds os es n ≡ kept_in starts' ds' os' es' n
unfolding kept_in below
kept_same starts ds os es starts' ds' os' es' n h = map_same (symptom_at starts ds os es) (symptom_at starts' ds' os' es') n 0 (λ k l. h k (omega arith))
