-- The chains to the last mechanism, a mechanism at a time.
use Prim.Native.Nat.{ℕ, zero, suc, ◌+◌, ◌-◌, ◌<◌, ◌≤◌}
use native.Mathlib.Numerals.{add-one}
use native.Mathlib.Omega.{arith}
use mathlib.Core.Path.{◌≡◌, refl, sym, ap, ap₂, ◌∙◌, subst}
use mathlib.Core.List.{List}
use mathlib.Core.Bool.{Bool, true, false, cond}
use lib.Dec.{eqb}
use lib.ListN.{length, get_or, set, length-set, replicate, get_or-replicate, length-replicate}
use lib.Seq.{get_or-set_same, get_or-set_other}
use borrow.Author.Tests.{eqb-true, eqb-false}
use Rattle.lists.proofs.Truth.{case-of, clash, same_eqb}
use Rattle.std.specs.Prelude.{Some, None}
use Rattle.dem.specs.Decompose.{same_symptom}
use Rattle.cover.specs.declared.Lists.{Lists}
use Rattle.cover.specs.Kept.{detectors_at, symptom_at, starts_with, Detectors}
use Rattle.cover.specs.Search.{previous, highest}
use Rattle.cover.proofs.Chain.{starts_is, starts_none, first_below, head_below}
use Rattle.cover.proofs.Turn.{highest_hit, highest_miss, highest_none, previous_le, previous_cong}
use Rattle.last_equal.specs.declared.Span.{Span}
use Rattle.last_equal.specs.Last.{symptom_in, Chained, Linkable, Findable}
use Rattle.last_equal.proofs.Same.{same_starts, same_detectors}

-- ---- the last that passes

previous_is : (p : ℕ → Bool) (n e : ℕ) → previous p n ≡ suc e → (e < n) × (p e ≡ true)
unfolding previous
previous_is p zero e h = absurd (omega arith)
previous_is p (suc n) e h = case-of (p n)
    (λ t. let k : suc n ≡ suc e = rw t at h in let q : n ≡ e = omega arith in (omega arith, subst (λ (i : ℕ). p i ≡ true) q t))
    (λ f. let k : previous p n ≡ suc e = rw f at h in let r = previous_is p n e k in (omega arith, r.1))

previous_next : (p : ℕ → Bool) (n : ℕ) → previous p (n + 1) ≡ cond (p n) (n + 1) (previous p n)
unfolding previous
previous_next p n = rw (add-one n)

pub highest_cong : (p q : ℕ → Bool) (n : ℕ) → ((i : ℕ) → i < n → p i ≡ q i) → highest p n ≡ highest q n
unfolding highest
highest_cong p q zero h = refl
highest_cong p q (suc n) h = rw (h n (omega arith), highest_cong p q n (λ i l. h i (omega arith)))

-- where only those that pass p pass q, the search for q goes on from the last that passes p
highest_skip : (p q : ℕ → Bool) (n : ℕ) → ((i : ℕ) → i < n → q i ≡ true → p i ≡ true) → highest q n ≡ highest q (previous p n)
unfolding previous highest
highest_skip p q zero h = refl
highest_skip p q (suc n) h = case-of (p n)
    (λ t. rw t)
    (λ f. let g : q n ≡ false = case-of (q n) (λ u. clash (h n (omega arith) u) f) (λ u. u) in
    rw (f, g) (highest_skip p q n (λ i l. h i (omega arith))))

-- ---- the walk down a chain: those that pass q pass p, and the chain has those that pass p

pub record Finding (p q : ℕ → Bool) (n next : ℕ) : Type 0 where
  pub bound : next ≤ n
  pub passes : 0 < next → p (next - 1) ≡ true
  pub rest : highest q next ≡ highest q n

module _ (p q : ℕ → Bool) (n : ℕ) (sub : (i : ℕ) → q i ≡ true → p i ≡ true) where
  find_from : (m next : ℕ) → next ≡ previous p m → m ≤ n → highest q m ≡ highest q n → Finding p q n next
  find_from m next e h r = record {
    bound = omega (arith, e, previous_le p m);
    passes = λ l. (previous_is p m (next - 1) (sym e ∙ omega arith)).1;
    rest = ap (highest q) e ∙ sym (highest_skip p q m (λ i l. sub i)) ∙ r;
  }

-- ---- the walk for a component

abbrev pub Walk : Span → ℕ → List ℕ → List ℕ → List ℕ → List ℕ → ℕ → Type 0
Walk s n es starts counts others next = Finding (λ k. starts_with (get_or es s.at 0) (detectors_at starts counts es k)) (λ k. same_symptom (symptom_at starts counts others es k) (symptom_in es s)) n next

-- the same over lists
abbrev pub WalkBy : Span → ℕ → Lists → ℕ → Type 0
WalkBy s n l = Walk s n l.entries.now l.starts.now l.detector_counts.now l.observable_counts.now

module _ (s : Span) (n : ℕ) (es starts counts others last before : List ℕ) (r : Findable s n es starts counts others last before) where
  d : ℕ
  d = get_or es s.at 0

  begins : ℕ → Bool
  begins k = starts_with d (detectors_at starts counts es k)

  equals : ℕ → Bool
  equals k = same_symptom (symptom_at starts counts others es k) (symptom_in es s)

  sub : (i : ℕ) → equals i ≡ true → begins i ≡ true
  unfolding d begins equals
  sub i h =
      same_starts (detectors_at starts counts es i) (symptom_in es s).detectors (get_or es s.at 0) (same_detectors (symptom_at starts counts others es i) (symptom_in es s) h)
      (starts_is es s.at s.detectors (get_or es s.at 0) r.component.some_detectors (omega (arith, r.component.inside)) ∙ same_eqb (get_or es s.at 0))

  pub walk_first : get_or es s.at 0 < length last
  walk_first = first_below (length last) es s.at s.detectors r.component.some_detectors (omega (arith, r.component.inside)) r.component.detectors

  pub walk_begin : Walk s n es starts counts others (get_or last (get_or es s.at 0) 0)
  unfolding d begins equals
  walk_begin = find_from begins equals n sub n (get_or last (get_or es s.at 0) 0) (r.chains.heads (get_or es s.at 0) walk_first) (omega arith) refl

  module _ (next : ℕ) (f : Walk s n es starts counts others next) (h : 0 < next) where
    link : get_or before (next - 1) 0 ≡ previous (λ i. starts_with (get_or es s.at 0) (detectors_at starts counts es i)) (next - 1)
    link = r.chains.links (next - 1) (get_or es s.at 0) (omega (arith, f.bound)) (f.passes h)

    pub walk_smaller : get_or before (next - 1) 0 < next
    walk_smaller = omega (arith, link, previous_le (λ i. starts_with (get_or es s.at 0) (detectors_at starts counts es i)) (next - 1))

    pub walk_next : false ≡ same_symptom (symptom_at starts counts others es (next - 1)) (symptom_in es s) → Walk s n es starts counts others (get_or before (next - 1) 0)
    unfolding d begins equals
    walk_next u = find_from begins equals n sub (next - 1) (get_or before (next - 1) 0) link (omega (arith, f.bound)) (sym (highest_miss equals next h (sym u)) ∙ f.rest)

    pub walk_hit : true ≡ same_symptom (symptom_at starts counts others es (next - 1)) (symptom_in es s) → Some (next - 1) ≡ highest (λ k. same_symptom (symptom_at starts counts others es k) (symptom_in es s)) n
    walk_hit t = sym (highest_hit (λ k. same_symptom (symptom_at starts counts others es k) (symptom_in es s)) next h (sym t)) ∙ f.rest

  pub walk_end : (next : ℕ) → Walk s n es starts counts others next → next ≤ 0 → None ≡ highest (λ k. same_symptom (symptom_at starts counts others es k) (symptom_in es s)) n
  walk_end next f h =
      let q : ℕ → Bool = λ k. same_symptom (symptom_at starts counts others es k) (symptom_in es s) in
      let z : next ≡ 0 = omega arith in
      sym (highest_none q) ∙ ap (highest q) (sym z) ∙ f.rest

-- ---- one more mechanism

pub chain_none : (lists : ℕ → List ℕ) (n : ℕ) (before : List ℕ) → Chained lists 0 (replicate n 0) before
unfolding previous
chain_none lists n before = record {
  heads = λ d h. get_or-replicate n d 0 0 (rw (length-replicate {A = ℕ} n 0) at h);
  links = λ k d h. absurd (omega arith);
}

-- the detectors of the mechanisms below n are all that counts
pub chain_same : (lists others : ℕ → List ℕ) (n : ℕ) (last before : List ℕ) → ((k : ℕ) → k < n → lists k ≡ others k) → Chained lists n last before → Chained others n last before
chain_same lists others n last before e c = record {
  heads = λ d h. c.heads d h ∙ previous_cong (λ k. starts_with d (lists k)) (λ k. starts_with d (others k)) n (λ i l. ap (starts_with d) (e i l));
  links = λ k d h t.
      c.links k d h (ap (starts_with d) (e k h) ∙ t)
      ∙ previous_cong (λ i. starts_with d (lists i)) (λ i. starts_with d (others i)) k (λ i l. ap (starts_with d) (e i (omega arith)));
}

module _ (lists : ℕ → List ℕ) (k : ℕ) (last before : List ℕ) (c : Chained lists k last before) where
  -- a mechanism with no detectors is in no chain
  link_none : ((d : ℕ) → starts_with d (lists k) ≡ false) → Chained lists (k + 1) last before
  link_none f = record {
    heads = λ d h. c.heads d h ∙ sym (previous_next (λ i. starts_with d (lists i)) k ∙ ap (λ b. cond b (k + 1) (previous (λ i. starts_with d (lists i)) k)) (f d));
    links = λ i d h t. case-of (eqb i k)
        (λ u. clash (subst (λ (j : ℕ). starts_with d (lists j) ≡ true) (eqb-true i k u) t) (f d))
        (λ u. c.links i d (omega (arith, eqb-false i k u)) t);
  }

  -- one whose first detector is x is the last of the chain of x
  link_one : (x : ℕ) → x < length last → k < length before → ((d : ℕ) → starts_with d (lists k) ≡ eqb x d) → Chained lists (k + 1) (set last x (k + 1)) (set before k (get_or last x 0))
  link_one x m w f = record {
    heads = λ d h. case-of (eqb x d)
        (λ t. ap (λ (z : ℕ). get_or (set last x (k + 1)) z 0) (sym (eqb-true x d t)) ∙ get_or-set_same last x (k + 1) 0 m
        ∙ sym (previous_next (λ i. starts_with d (lists i)) k ∙ ap (λ b. cond b (k + 1) (previous (λ i. starts_with d (lists i)) k)) (f d ∙ t)))
        (λ t. get_or-set_other last x d (k + 1) 0 (λ z. eqb-false x d t (sym z)) ∙ c.heads d (rw (length-set last x (k + 1)) at h)
        ∙ sym (previous_next (λ i. starts_with d (lists i)) k ∙ ap (λ b. cond b (k + 1) (previous (λ i. starts_with d (lists i)) k)) (f d ∙ t)));
    links = λ i d h t. case-of (eqb i k)
        (λ u. let q = eqb-true i k u in
        let r = eqb-true x d (sym (f d) ∙ subst (λ (j : ℕ). starts_with d (lists j) ≡ true) q t) in
        ap (λ (z : ℕ). get_or (set before k (get_or last x 0)) z 0) q ∙ get_or-set_same before k (get_or last x 0) 0 w ∙ c.heads x m
        ∙ ap₂ (λ (y : ℕ) (z : ℕ). previous (λ j. starts_with y (lists j)) z) r (sym q))
        (λ u. get_or-set_other before k i (get_or last x 0) 0 (eqb-false i k u) ∙ c.links i d (omega (arith, eqb-false i k u)) t);
  }

module _ (starts counts es : List ℕ) (k : ℕ) (last before : List ℕ) (r : Linkable starts counts es k last before) where
  pub linked_below : 0 < get_or counts k 0 → get_or es (get_or starts k 0) 0 < length last
  linked_below p = head_below starts counts es (k + 1) (length last) k r.detectors (omega arith) p

  pub linked_past : get_or counts k 0 ≤ 0 → Chained (detectors_at starts counts es) (k + 1) last before
  linked_past z = link_none (detectors_at starts counts es) k last before r.chains (λ d. starts_none es (get_or starts k 0) (get_or counts k 0) d (omega arith))

  pub linked_head : 0 < get_or counts k 0
      → Chained (detectors_at starts counts es) (k + 1) (set last (get_or es (get_or starts k 0) 0) (k + 1)) (set before k (get_or last (get_or es (get_or starts k 0) 0) 0))
  linked_head p = link_one (detectors_at starts counts es) k last before r.chains (get_or es (get_or starts k 0) 0) (linked_below p) r.long
      (λ d. starts_is es (get_or starts k 0) (get_or counts k 0) d p (r.detectors.listed k (omega arith)))

-- fewer mechanisms
pub fewer : (starts counts es : List ℕ) (k n d : ℕ) → k ≤ n → Detectors starts counts es n d → Detectors starts counts es k d
fewer starts counts es k n d h t = record {
  few = omega (arith, t.few);
  started = omega (arith, t.started);
  counted = omega (arith, t.counted);
  listed = λ i l. t.listed i (omega arith);
  checked = λ i l. t.checked i (omega arith);
}
