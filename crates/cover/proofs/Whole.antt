-- From the candidates in their tables to the first cover of the kept mechanisms.
use Rattle.std.specs.Prelude.{Option, None}
use Rattle.std.specs.Prelude.{Some}
use Prim.Native.Nat.{ℕ, zero, suc, ◌+◌, ◌<◌, ◌≤◌}
use native.Mathlib.Omega.{arith}
use mathlib.Core.Path.{◌≡◌, refl, sym, ap, ap₂, ◌∙◌, subst}
use mathlib.Core.List.{List, [], ◌∷◌, ◌++◌, map}
use mathlib.Core.Bool.{true}
use lib.ListN.{length, get_or, take, drop, length-take}
use lib.Seq.{sets-eq, get_or-take, length-take-le}
use lib.Count.{ones}
use Rattle.lists.specs.Lists.{from, below, member}
use Rattle.lists.proofs.Truth.{and_right}
use Rattle.lists.proofs.Members.{at_member, member_filter, member_below}
use Rattle.dem.specs.Model.{Symptom, list_fits}
use Rattle.dem.specs.Cover.{first_cover}
use Rattle.cover.specs.Kept.{detectors_at, observables_at, symptom_at, kept_in, Observables}
use Rattle.cover.specs.Masks.{mask_of, word_of, Candidate, candidate_of, is_candidate, candidates_from, cover_of}
use Rattle.cover.specs.Search.{candidate_at, candidates_at, fresh_at, Numbered, Worded, Gathered, Compact, Compacted, Outcome, Answered}
use Rattle.cover.proofs.ByMasks.{by_masks}
use Rattle.cover.proofs.Steps.{fits_below}
use Rattle.cover.proofs.Turn.{few_members}
use Rattle.cover.proofs.Fresh.{fresh_distinct}
use Rattle.cover.proofs.Distinct.{all_distinct}

-- the numbers of candidates are below n
candidate_below : (ds : List ℕ) (lists : ℕ → List ℕ) (n k : ℕ) → member k (candidates_from ds lists n 0) ≡ true → k < n
unfolding candidates_from below
candidate_below ds lists n k m = member_below k n (and_right (is_candidate ds (lists k)) (member k (from n 0)) (sym (member_filter (λ k. is_candidate ds (lists k)) k (from n 0)) ∙ m))

get_d_map : (f : ℕ → ℕ) (l : List ℕ) (i : ℕ) → i < length l → get_or (map f l) i 0 ≡ f (get_or l i 0)
get_d_map f [] i h = absurd (omega arith)
get_d_map f (x ∷ l) zero h = refl
get_d_map f (x ∷ l) (suc i) h = get_d_map f l i (omega arith)

map_at : (f g : ℕ → Candidate) (l : List ℕ) (a : ℕ) → ((i : ℕ) → i < length l → f (i + a) ≡ g (get_or l i 0)) → map f (from (length l) a) ≡ map g l
unfolding from
map_at f g [] a h = refl
map_at f g (x ∷ l) a h =
    let e : 0 + a ≡ a = omega arith in
    ap₂ {C = List Candidate} (λ c cs. c ∷ cs) (ap f (sym e) ∙ h 0 (omega arith))
    (map_at f g l (suc a) (λ i k. ap f (omega arith) ∙ h (suc i) (omega arith)))

module _ (symptoms : ℕ → Symptom) (n : ℕ) (ds : List ℕ) (count : ℕ) (numbers masks words0 words1 : List ℕ)
    (g : Gathered (λ k. (symptoms k).detectors) n ds count numbers masks)
    (w : Worded (λ k. (symptoms k).observables) (take count numbers) words0 words1)
    (c : count ≤ length numbers) where
  same_at : (i : ℕ) → i < count → candidate_at (take count numbers) (take count masks) (take count words0) (take count words1) i ≡ candidate_of ds symptoms (get_or (take count numbers) i 0)
  unfolding candidate_of
  same_at i h =
      let l = length-take-le count numbers c in
      let k : i < length (take count numbers) = omega (arith, l) in
      let a : get_or (take count masks) i 0 ≡ mask_of ds (symptoms (get_or (take count numbers) i 0)).detectors
      = ap (λ (x : List ℕ). get_or x i 0) g.masked ∙ get_d_map (λ k. mask_of ds (symptoms k).detectors) (take count numbers) i k in
      let b = get_or-take count words0 i 0 h ∙ w.low i k in
      let d = get_or-take count words1 i 0 h ∙ w.high i k in
      rw (a, b, d)

  -- the tables hold the candidates
  pub same_candidates : candidates_at (take count numbers) (take count masks) (take count words0) (take count words1) count 0
      ≡ map (candidate_of ds symptoms) (candidates_from ds (λ k. (symptoms k).detectors) n 0)
  unfolding candidates_at
  same_candidates =
      let l = length-take-le count numbers c in
      ap (λ (m : ℕ). map (candidate_at (take count numbers) (take count masks) (take count words0) (take count words1)) (from m 0)) (sym l)
      ∙ map_at (candidate_at (take count numbers) (take count masks) (take count words0) (take count words1)) (candidate_of ds symptoms) (take count numbers) 0
      (λ i h. ap (candidate_at (take count numbers) (take count masks) (take count words0) (take count words1)) (omega arith) ∙ same_at i (omega (arith, l)))
      ∙ ap (map (candidate_of ds symptoms)) g.numbered

-- each number that was gathered is a kept mechanism's
number_below : (lists : ℕ → List ℕ) (n : ℕ) (ds : List ℕ) (count : ℕ) (numbers masks : List ℕ) → Gathered lists n ds count numbers masks → (i : ℕ) → i < length (take count numbers) → get_or (take count numbers) i 0 < n
number_below lists n ds count numbers masks g i h =
    candidate_below ds lists n (get_or (take count numbers) i 0) (subst (λ (l : List ℕ). member (get_or (take count numbers) i 0) l ≡ true) g.numbered (at_member (take count numbers) i h))

-- so its observables are in the tables
pub candidates_numbered : (starts counts others es : List ℕ) (n : ℕ) (first next ds numbers masks words0 words1 earlier : List ℕ) → Compact starts counts others es n first next ds numbers masks words0 words1 earlier
    → (count : ℕ) (numbers' masks' : List ℕ) → Gathered (detectors_at starts counts es) n ds count numbers' masks' → Numbered starts counts others es (take count numbers') words0 words1
candidates_numbered starts counts others es n first next ds numbers masks words0 words1 earlier r count numbers' masks' g = record {
  started = λ i h. omega (arith, below_n i h, r.merged.tables.started);
  counted = λ i h. omega (arith, below_n i h, r.merged.tables.counted);
  observed = λ i h. omega (arith, below_n i h, r.observables.observed);
  listed = λ i h. r.observables.listed (get_or (take count numbers') i 0) (below_n i h);
  words0_hold = omega (arith, length-take count numbers', g.counted, r.words0_hold);
  words1_hold = omega (arith, length-take count numbers', g.counted, r.words1_hold);
}
  where
    below_n : (i : ℕ) → i < length (take count numbers') → get_or (take count numbers') i 0 < n
    below_n = number_below (detectors_at starts counts es) n ds count numbers' masks' g

-- an answer from place 0 on
answered : (x : Option (List ℕ)) (l : List ℕ) (r : Option ℕ) (l' : List ℕ) → ((ks : List ℕ) → x ≡ Some ks → length ks ≤ length l) → Outcome x 0 l r l' → Answered x l r l'
answered None l r l' f h = h
answered (Some ks) l r l' f h =
    let e : 0 + length ks ≡ length ks = omega arith in
    (h.0 ∙ ap Some e, h.1 ∙ sets-eq ks l 0 (omega (arith, f ks refl)) ∙ ap (λ (k : ℕ). ks ++ drop k l) e)

-- the first cover is that of the candidates
module _ (starts counts others es : List ℕ) (n : ℕ) (o : Observables starts counts others es n) (ds os : List ℕ) (k : list_fits 128 os ≡ true) where
  pub whole : first_cover (kept_in starts counts others es n) (record { detectors = ds; observables = os })
      ≡ cover_of (map (candidate_of ds (symptom_at starts counts others es)) (candidates_from ds (detectors_at starts counts es) n 0)) (mask_of ds ds) (word_of 0 os) (word_of 64 os)
  unfolding first_cover kept_in below
  whole =
      by_masks ds (symptom_at starts counts others es) n 0 ds os (λ d m. m) (fits_below 128 os k)
      (λ i h. fits_below 128 (observables_at starts counts others es i) (o.checked i (omega arith)))

  -- what the search finds in the tables is the first cover
  pub found : (count : ℕ) (numbers masks words0 words1 earlier : List ℕ) → Compacted (symptom_at starts counts others es) n ds count numbers masks words0 words1 earlier
      → (m a b : ℕ) → m ≡ mask_of ds ds → a ≡ word_of 0 os → b ≡ word_of 64 os → (l : List ℕ) → ones m ≤ length l → (r : Option ℕ) (l' : List ℕ)
      → Outcome (cover_of (fresh_at (take count numbers) (take count masks) (take count words0) (take count words1) (take count earlier) count 0) m a b) 0 l r l'
      → Answered (first_cover (kept_in starts counts others es n) (record { detectors = ds; observables = os })) l r l'
  found count numbers masks words0 words1 earlier g m a b em ea eb l room r l' h =
      let cs = fresh_at (take count numbers) (take count masks) (take count words0) (take count words1) (take count earlier) count 0 in
      let e = g.candidates in
      let w = whole in
      let v = fresh_distinct (take count numbers) (take count masks) (take count words0) (take count words1) (take count earlier) count (λ j k. get_or-take count earlier j 0 k ∙ g.repeats j k) in
      let u = all_distinct (candidates_at (take count numbers) (take count masks) (take count words0) (take count words1) count 0) m a b in
      let q : cover_of cs m a b ≡ first_cover (kept_in starts counts others es n) (record { detectors = ds; observables = os }) = cc in
      subst (λ (x : Option (List ℕ)). Answered x l r l') q
      (answered (cover_of cs m a b) l r l' (λ ks t. let z = few_members cs m a b ks t in omega arith) h)
