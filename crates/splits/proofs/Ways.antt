-- The two ways of a mechanism of over two detectors.
use Rattle.std.specs.Prelude.{Option, Result, Ok, Err, Some, None, ⊤}
use Rattle.std.specs.Option.{ok_or}
use native.Mathlib.Nat.{add-sub_cancel_left}
use Rattle.codes.specs.declared.Refusal.{Refusal}
use Prim.Native.Nat.{ℕ, zero, suc, ◌+◌, ◌-◌, ◌<◌, ◌≤◌}
use native.Mathlib.Omega.{arith}
use mathlib.Core.Path.{◌≡◌, refl, sym, ap, ◌∙◌, subst}
use mathlib.Core.List.{List, [], ◌∷◌}
use mathlib.Core.Bool.{Bool, true, false, ◌&&◌}
use lib.ListN.{length, get_or, take, drop, length-drop}
use lib.Seq.{drop-drop, ext_get_or}
use lib.Dec.{leb}
use lib.Ieee.{Float}
use borrow.Author.Tests.{leb-true}
use Rattle.lists.proofs.Truth.{and_left, and_right}
use Rattle.codes.specs.declared.Refusal.TheVariants.{Limit, NoCover}
use Rattle.dem.specs.declared.Mechanism.{Mechanism}
use Rattle.dem.specs.declared.Place.{Place}
use Rattle.dem.specs.Model.{Symptom, ErrorMechanism, list_fits, symptom_fits, symptoms_fit}
use Rattle.dem.specs.Tables.{Tables, component_entries, first_of, first_entries}
use Rattle.dem.specs.Positions.{mechanism_at, place_past, symptom_at}
use Rattle.dem.specs.Cover.{first_cover, none_such}
use Rattle.dem.specs.Decompose.{Places, Split, into, refused, add_at, add_all, add_components, is_suggested, by_cover, split_one}
use Rattle.dem.proofs.Checks.{lists_parts}
use Rattle.cover.specs.Kept.{lowest, starts_with, detectors_at, kept_in, Chains}
use Rattle.cover.specs.Kept as kept
use Rattle.kept.proofs.Kept.{whole}
use Rattle.last_equal.specs.declared.Span.{Span}
use Rattle.suggested.specs.declared.Size.{Size}
use Rattle.probability.specs.Probability.{raised_at, raised_all}
use Rattle.last_equal.specs.Last.{symptom_in}
use Rattle.suggested.specs.Held.{Holds, Outcome, components_from, Suggested}
use Rattle.last_equal.proofs.Chain.{fewer}
use Rattle.suggested.proofs.Models.{raised_length}
use Rattle.suggested.proofs.Adding.{holds_raised}
use Rattle.splits.specs.Ready.{counts_suggest, Coverable, Kept, Covered, Large, Ready, Front, After}
use Rattle.splits.proofs.Suggests.{suggests, all_one_or_two}
use Rattle.splits.proofs.Covers.{members_below, kept_length, kept_at}

-- ---- the chains of the kept mechanisms go by their detectors

lowest_cong : (p q : ℕ → Bool) (n at : ℕ) → ((i : ℕ) → i < n + at → p i ≡ q i) → lowest p n at ≡ lowest q n at
unfolding lowest
lowest_cong p q zero at h = refl
lowest_cong p q (suc n) at h = rw (h at (omega arith), lowest_cong p q n (suc at) (λ i l. h i (omega arith)))

pub chains_cong : (a b : ℕ → List ℕ) (n : ℕ) (first next : List ℕ) → ((k : ℕ) → k < n → a k ≡ b k) → Chains a n first next → Chains b n first next
chains_cong a b n first next e c = record {
  begins = λ d h. c.begins d h ∙ lowest_cong (λ k. starts_with d (a k)) (λ k. starts_with d (b k)) (n - 0) 0 (λ i l. ap (starts_with d) (e i (omega arith)));
  linked = λ k d h t.
      c.linked k d h (ap (starts_with d) (e k h) ∙ t)
      ∙ lowest_cong (λ i. starts_with d (a i)) (λ i. starts_with d (b i)) (n - (k + 1)) (k + 1) (λ i l. ap (starts_with d) (e i (omega arith)));
}

-- ---- the model so far, as a cover sees it

module _ {ms : List ErrorMechanism} {was : Tables} {ks : List Symptom} {n : ℕ} {size : Size} {es first next starts counts others : List ℕ} {ps : List Float}
    {last before numbers masks words0 words1 earlier : List ℕ}
    (h : Holds ms was size es starts counts others ps last before) (r : Ready ks n first next numbers masks words0 words1 earlier) (f : Front ks ms) where
  kept_few : n ≤ length ms
  kept_few = omega (arith, f.few, r.counted)

  same_symptom_lem : (k : ℕ) → k < n → get_or ks k none_such ≡ kept.symptom_at starts counts others es k
  same_symptom_lem k l = f.same k (z k) (omega (arith, r.counted)) ∙ h.symptoms k (z k) (omega (arith, kept_few))
    where
      z : ℕ → ErrorMechanism
      z k = record { probability = lib.Ieee.nan; symptom = none_such; components = [] }

  pub kept_same : kept_in starts counts others es n ≡ ks
  kept_same =
      ext_get_or none_such (kept_in starts counts others es n) ks (kept_length starts counts others es n ∙ sym r.counted)
      (λ i l. let m : i < n = omega (arith, kept_length starts counts others es n) in kept_at starts counts others es n i m ∙ sym (same_symptom_lem i m))

  pub kept_ready : length first ≡ length last → Kept n starts counts others es first next numbers masks words0 words1 earlier ps
  kept_ready w = record {
    detectors = rw w (fewer starts counts es n (length ms) (length last) kept_few h.detectors);
    observables = record {
      observed = omega (arith, kept_few, h.observables.observed);
      listed = λ k l. h.observables.listed k (omega (arith, kept_few));
      checked = λ k l. h.observables.checked k (omega (arith, kept_few));
    };
    chains = chains_cong (λ k. (get_or ks k none_such).detectors) (detectors_at starts counts es) n first next (λ k l. ap (λ (s : Symptom). s.detectors) (same_symptom_lem k l)) r.chains;
    linked = r.linked;
    numbers_hold = r.numbers_hold;
    masks_hold = r.masks_hold;
    words0_hold = r.words0_hold;
    words1_hold = r.words1_hold;
    earlier_hold = r.earlier_hold;
    probable = omega (arith, kept_few, h.fits);
  }

-- p is added to each of a list of mechanisms
pub holds_all : (was : Tables) (size : Size) (es starts counts others last before : List ℕ) (p : Float) (cs : List ℕ) (ms : List ErrorMechanism) (ps : List Float)
    → Holds ms was size es starts counts others ps last before → ((i : ℕ) → i < length cs → get_or cs i 0 < length ms)
    → Holds (add_all p cs ms) was size es starts counts others (raised_all p cs ps) last before
unfolding add_all raised_all
holds_all was size es starts counts others last before p [] ms ps h b = h
holds_all was size es starts counts others last before p (c ∷ cs) ms ps h b =
    holds_all was size es starts counts others last before p cs (add_at p c ms) (raised_at p c ps) (holds_raised ms was size es starts counts others ps last before h p c (b 0 (omega arith)))
    (λ i l. omega (arith, raised_length p c ms, b (suc i) (omega arith)))

-- ---- the mechanism

module _ {D : ℕ} {h : Mechanism} {p : Place} {cds cos es : List ℕ} (l : Large D h p cds cos es) where
  abbrev pub span : Span
  span = record { at = p.entry; detectors = h.detectors; observables = h.observables }

  abbrev past_own : ℕ
  past_own = p.entry + (h.detectors + h.observables)

  abbrev theirs : List Symptom
  theirs = components_from h.components p.component past_own cds cos es

  m : ErrorMechanism
  m = mechanism_at h p cds cos es

  pub own_symptom : (mechanism_at h p cds cos es).symptom ≡ symptom_in es span
  unfolding mechanism_at first_of
  own_symptom = rw (drop-drop h.detectors p.entry es)

  pub own_components : (mechanism_at h p cds cos es).components ≡ theirs
  unfolding mechanism_at first_of
  own_components = rw (drop-drop (h.detectors + h.observables) p.entry es)

  pub own_probability : (mechanism_at h p cds cos es).probability ≡ h.probability
  unfolding mechanism_at first_of
  own_probability = refl

  ends : past_own + component_entries h.components (drop p.component cds) (drop p.component cos) < 4294967296
  unfolding place_past first_entries
  ends = let s = l.small in omega (arith, s)

  parts : (symptom_fits D 128 (symptom_at h.detectors h.observables (drop p.entry es)) && (leb h.components 16 && symptoms_fit D 128 theirs)) ≡ true
  parts = sym (lists_parts D 128 h p cds cos es) ∙ l.checked

  pub few_components : h.components ≤ 16
  few_components = leb-true h.components 16 (and_left (leb h.components 16) (symptoms_fit D 128 theirs) (and_right (symptom_fits D 128 (symptom_at h.detectors h.observables (drop p.entry es))) _ parts))

  own_fits : symptom_fits D 128 (symptom_at h.detectors h.observables (drop p.entry es)) ≡ true
  own_fits = and_left (symptom_fits D 128 (symptom_at h.detectors h.observables (drop p.entry es))) _ parts

  own_lists : (list_fits D (symptom_in es span).detectors && list_fits 128 (symptom_in es span).observables) ≡ true
  unfolding symptom_fits
  own_lists = rw (← drop-drop h.detectors p.entry es) own_fits

  pub coverable : Coverable D span es
  coverable = record {
    some_detectors = omega (arith, l.over_two);
    small = omega (arith, ends);
    inside = omega (arith, l.inside.entries);
    detectors = and_left (list_fits D (symptom_in es span).detectors) (list_fits 128 (symptom_in es span).observables) own_lists;
    observables = and_right (list_fits D (symptom_in es span).detectors) (list_fits 128 (symptom_in es span).observables) own_lists;
  }

  -- the components are suggested where their counts say so
  pub counts_are : is_suggested theirs ≡ counts_suggest (take ((p.component + h.components) - p.component) (drop p.component cds))
  counts_are =
      let i = l.inside in
      rw (add-sub_cancel_left p.component h.components)
      (suggests theirs ∙ ap counts_suggest (whole h.components (drop p.component cds) (drop p.component cos) (drop past_own es) (omega (arith, length-drop p.component cds)) (omega (arith, length-drop p.component cos)) (omega (arith, i.entries, length-drop past_own es))).detectors)

  pub suggested : is_suggested theirs ≡ true → Suggested h.components p.component past_own D cds cos es
  suggested e = record {
    within = l.inside;
    small = ends;
    checked = and_right (leb h.components 16) (symptoms_fit D 128 theirs) (and_right (symptom_fits D 128 (symptom_at h.detectors h.observables (drop p.entry es))) _ parts);
    one_or_two_is = all_one_or_two theirs e;
  }

  -- ---- what the ways come to

  module _ (room : Places) (ks : List Symptom) (i : ℕ) (ms : List ErrorMechanism) (was : Tables) where
    pub by_components : (starts counts others : List ℕ) (ps : List Float) (last before : List ℕ) (r : Option Size) (a : Result Size Refusal)
        → is_suggested theirs ≡ true → Outcome (add_components room h.probability theirs (into ms)) was r es starts counts others ps last before → a ≡ ok_or r Limit
        → After (split_one room ks i (mechanism_at h p cds cos es) ms) was a es starts counts others ps last before
    unfolding split_one
    by_components starts counts others ps last before r a e o q =
        rw (own_components, e, own_probability) (limited (add_components room h.probability theirs (into ms)) o)
      where
        limited : (y : Split) → Outcome y was r es starts counts others ps last before → After y was a es starts counts others ps last before
        limited (into ms) o = (q ∙ ap (λ (x : Option Size). ok_or x Limit) o.0, o.1)
        limited (refused z) o = q ∙ ap (λ (x : Option Size). ok_or x Limit) o.1 ∙ ap Err (sym o.0)

    module _ {n : ℕ} {size : Size} {first next starts counts others : List ℕ} {ps : List Float} {last before numbers masks words0 words1 earlier : List ℕ}
        (w : Holds ms was size es starts counts others ps last before) (y : Ready ks n first next numbers masks words0 words1 earlier) (f : Front ks ms) (ps' : List Float) (r : Option ⊤)
        (e : is_suggested theirs ≡ false) (c : Covered (first_cover (kept_in starts counts others es n) (symptom_in es span)) h.probability ps r ps') where
      goes : (a : Result Size Refusal) → After (by_cover h.probability i ms (first_cover ks (symptom_in es span))) was a es starts counts others ps' last before
          → After (split_one room ks i (mechanism_at h p cds cos es) ms) was a es starts counts others ps' last before
      unfolding split_one
      goes a o = rw (own_components, e, own_probability, own_symptom) o

      covered : Covered (first_cover ks (symptom_in es span)) h.probability ps r ps'
      covered = subst (λ (l : List Symptom). Covered (first_cover l (symptom_in es span)) h.probability ps r ps') (kept_same w y f) c

      pub by_no_cover : (x : Refusal) (a : Result Size Refusal) → Err x ≡ ok_or r (NoCover i) → a ≡ Err x → After (split_one room ks i (mechanism_at h p cds cos es) ms) was a es starts counts others ps' last before
      by_no_cover x a q z = goes a (none (first_cover ks (symptom_in es span)) covered)
        where
          none : (x : Option (List ℕ)) → Covered x h.probability ps r ps' → After (by_cover h.probability i ms x) was a es starts counts others ps' last before
          none None c = let g : x ≡ NoCover i = cc (q ∙ ap (λ (v : Option ⊤). ok_or v (NoCover i)) c.0) in z ∙ ap Err g
          none (Some cs) c = absurd (cc (q ∙ ap (λ (v : Option ⊤). ok_or v (NoCover i)) c.0))

      pub by_first_cover : (u : ⊤) (x : Refusal) → Ok u ≡ ok_or r x → After (split_one room ks i (mechanism_at h p cds cos es) ms) was (Ok size) es starts counts others ps' last before
      by_first_cover u x q = goes (Ok size) (some (first_cover ks (symptom_in es span)) refl covered)
        where
          some : (x : Option (List ℕ)) → first_cover ks (symptom_in es span) ≡ x → Covered x h.probability ps r ps' → After (by_cover h.probability i ms x) was (Ok size) es starts counts others ps' last before
          some None g c = absurd (cc (q ∙ ap (λ (v : Option ⊤). ok_or v x) c.0))
          some (Some cs) g c =
              let k = holds_all was size es starts counts others last before h.probability cs ms ps w (λ j l. let b = members_below ks (symptom_in es span) cs g j l in omega (arith, f.few)) in
              (ap Ok k.sized, rw (← k.sized, c.1) k)
