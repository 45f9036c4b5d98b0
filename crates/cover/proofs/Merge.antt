-- The merge of the chains: the lowest head is the next mechanism that may be a candidate.
use Rattle.std.specs.Prelude.{Some, None}
use Prim.Native.Nat.{ℕ, zero, suc, ◌+◌, ◌-◌, ◌<◌, ◌≤◌}
use native.Mathlib.Decide.{dec_lt}
use native.Mathlib.Numerals.{add-one}
use native.Mathlib.Omega.{arith}
use mathlib.Core.Path.{◌≡◌, refl, sym, ap, ap₂, ◌∙◌, subst}
use mathlib.Core.List.{List, [], ◌∷◌, ◌++◌, map, append_assoc, append-nil}
use mathlib.Core.Bool.{true, false}
use lib.Dec.{eqb}
use lib.ListN.{length, get_or, take, set}
use lib.Seq.{get_or-set_same, get_or-set_other, take-suc-set}
use borrow.Author.Tests.{eqb-true, eqb-false}
use Rattle.lists.specs.Lists.{from, filter, member}
use Rattle.lists.proofs.Truth.{case-of, clash, not_so, same_eqb}
use Rattle.lists.proofs.Members.{map_snoc, at_member}
use Rattle.dem.specs.Cover.{is_empty, within}
use Rattle.cover.proofs.First.{within_all}
use Rattle.cover.specs.Kept.{detectors_at, nowhere, starts_with, lowest_from, Chains}
use Rattle.cover.specs.Masks.{mask_of, mask_within, is_candidate, candidates_from, Rises}
use Rattle.cover.specs.Search.{Least, Merged, Gathered}
use Rattle.cover.proofs.Steps.{head_in, place_of_lem, rises_at, fits_length, fits_rises, fits_at}
use Rattle.cover.proofs.Chain.{from_miss, from_before, from_is, from_jump, filter_past, filter_hit, filter_miss}

-- ---- the detectors of an ascending list are distinct

rises_lt : (low : ℕ) (l : List ℕ) (i j : ℕ) → Rises low l → i < j → j < length l → (low ≤ get_or l i 0) × (get_or l i 0 < get_or l j 0)
rises_lt low [] i j r h k = absurd (omega arith)
rises_lt low (x ∷ l) i zero r h k = absurd (omega arith)
rises_lt low (x ∷ l) zero (suc j) r h k = (r.0, rises_at (suc x) l j r.1 (omega arith))
rises_lt low (x ∷ l) (suc i) (suc j) r h k = let q = rises_lt (suc x) l i j r.1 (omega arith) (omega arith) in (omega (arith, q.0, r.0), q.1)

rises_one : (l : List ℕ) (i j : ℕ) → Rises 0 l → i < length l → j < length l → get_or l i 0 ≡ get_or l j 0 → i ≡ j
rises_one l i j r h k e = case-of (eqb i j) (λ t. eqb-true i j t) (λ f. go (dec_lt i j) (eqb-false i j f))
  where
    go : Dec (i < j) → (i ≡ j → ⊥) → i ≡ j
    go (yes l') f = let q = rises_lt 0 l i j r l' k in absurd (omega (arith, q.1, e))
    go (no l') f = let q = rises_lt 0 l j i r (omega arith) h in absurd (omega (arith, q.1, e))

-- ---- candidates

starts_one : (l : List ℕ) (d e : ℕ) → starts_with d l ≡ true → starts_with e l ≡ true → d ≡ e
starts_one [] d e h k = clash h refl
starts_one (x ∷ l) d e h k = sym (eqb-true x d h) ∙ eqb-true x e k

module _ (ds : List ℕ) where
  -- one whose first detector is not in ds is none
  not_candidate : (l : List ℕ) → ((d : ℕ) → member d ds ≡ true → starts_with d l ≡ false) → is_candidate ds l ≡ false
  unfolding is_candidate
  not_candidate [] h = refl
  not_candidate (x ∷ l) h = not_so (within ds (x ∷ l)) (λ t. clash (same_eqb x) (h x (within_all ds (x ∷ l) t x (head_in x l))))

  -- where it has a first detector, the mask tells
  mask_yes : (l : List ℕ) (mask d : ℕ) → Some mask ≡ mask_within ds l → starts_with d l ≡ true → (is_candidate ds l ≡ true) × (mask ≡ mask_of ds l)
  unfolding mask_within is_candidate
  mask_yes [] mask d e h = clash h refl
  mask_yes (x ∷ l) mask d e h = case-of (within ds (x ∷ l))
      (λ t. let k : Some mask ≡ Some (mask_of ds (x ∷ l)) = rw t at e in rw t (refl, cc))
      (λ t. absurd (let k : Some mask ≡ None = rw t at e in cc))

  mask_no : (l : List ℕ) → None ≡ mask_within ds l → is_candidate ds l ≡ false
  unfolding mask_within is_candidate
  mask_no l e = case-of (within ds l)
      (λ t. absurd (let k : None ≡ Some (mask_of ds l) = rw t at e in cc))
      (λ t. case-of (is_empty l) (λ u. rw u) (λ u. rw (t, u)))

-- ---- the merge at mechanism `at`, with `count` candidates so far

module _ (lists : ℕ → List ℕ) (n : ℕ) (ds : List ℕ) where
  -- head i is the lowest mechanism from `at` on whose first detector is the i-th of ds
  abbrev pub Heads : ℕ → List ℕ → Type 0
  Heads at heads = (i : ℕ) → i < length ds → get_or heads i 0 ≡ lowest_from lists n (get_or ds i 0) at

  pub record Merging (at count : ℕ) (numbers masks heads : List ℕ) : Type 0 where
    pub low : at ≤ n
    pub counted : count ≤ at
    pub headed : Heads at heads
    pub numbered : take count numbers ++ candidates_from ds lists (n - at) at ≡ candidates_from ds lists n 0
    pub masked : take count masks ≡ map (λ k. mask_of ds (lists k)) (take count numbers)

  begun : (numbers masks heads : List ℕ) → Heads 0 heads → Merging 0 0 numbers masks heads
  begun numbers masks heads h =
      let e : n - 0 ≡ n = omega arith in
      record {
        low = omega arith;
        counted = omega arith;
        headed = h;
        numbered = ap (λ (x : ℕ). candidates_from ds lists x 0) e;
        masked = refl;
      }

  no_more : (at count : ℕ) (numbers masks heads : List ℕ) → Merging at count numbers masks heads → n ≤ at → take count numbers ≡ candidates_from ds lists n 0
  unfolding candidates_from filter from
  no_more at count numbers masks heads g h =
      let e : n - at ≡ zero = omega arith in
      sym (append-nil (take count numbers)) ∙ (rw e at g.numbered)

  module _ (few : n ≤ 16384) (r : Rises 0 ds) (at : ℕ) (heads : List ℕ) (low : at ≤ n) (hs : Heads at heads) (l : ℕ) (m : Least heads (length ds) l) where
    -- none from `at` on and below the lowest head
    between : (j : ℕ) → at ≤ j → j < n → j < get_or heads l 0 → (d : ℕ) → member d ds ≡ true → starts_with d (lists j) ≡ false
    between j a b h d k =
        let (i, q, e) = place_of_lem d ds k in
        subst (λ (x : ℕ). starts_with x (lists j) ≡ false) e
        (from_before (λ k. starts_with (get_or ds i 0) (lists k)) n at j a b (omega (arith, hs i q, m.least i q)))

    ended : get_or heads l 0 ≡ nowhere → candidates_from ds lists (n - at) at ≡ []
    unfolding candidates_from filter from
    ended e =
        let z : n - n ≡ zero = omega arith in
        filter_past (λ k. is_candidate ds (lists k)) n at n low (omega arith) (λ j a b. not_candidate ds (lists j) (between j a b (omega (arith, e)))) ∙ rw z

    module _ (f : get_or heads l 0 ≡ nowhere → ⊥) where
      head_is : (at ≤ get_or heads l 0) × (get_or heads l 0 < n) × (starts_with (get_or ds l 0) (lists (get_or heads l 0)) ≡ true)
      head_is =
          let e = hs l m.within in
          let q = from_is (λ k. starts_with (get_or ds l 0) (lists k)) n at low (λ z. f (e ∙ z)) in
          (omega (arith, e, q.0), omega (arith, e, q.1), subst (λ (k : ℕ). starts_with (get_or ds l 0) (lists k) ≡ true) (sym e) q.2)

      past : candidates_from ds lists (n - at) at ≡ candidates_from ds lists (n - get_or heads l 0) (get_or heads l 0)
      unfolding candidates_from
      past =
          let h = head_is in
          filter_past (λ k. is_candidate ds (lists k)) n at (get_or heads l 0) h.0 (omega (arith, h.1))
          (λ j a b. not_candidate ds (lists j) (between j a (omega (arith, h.1)) b))

      pub past_yes : is_candidate ds (lists (get_or heads l 0)) ≡ true → candidates_from ds lists (n - at) at ≡ get_or heads l 0 ∷ candidates_from ds lists (n - (get_or heads l 0 + 1)) (get_or heads l 0 + 1)
      unfolding candidates_from
      past_yes t = past ∙ filter_hit (λ k. is_candidate ds (lists k)) n (get_or heads l 0) head_is.1 t

      pub past_no : is_candidate ds (lists (get_or heads l 0)) ≡ false → candidates_from ds lists (n - at) at ≡ candidates_from ds lists (n - (get_or heads l 0 + 1)) (get_or heads l 0 + 1)
      unfolding candidates_from
      past_no t = past ∙ filter_miss (λ k. is_candidate ds (lists k)) n (get_or heads l 0) head_is.1 t

      -- the chain goes on, the other heads stay
      pub heads_next : (first next : List ℕ) → Chains lists n first next → length ds ≤ length heads → Heads (get_or heads l 0 + 1) (set heads l (get_or next (get_or heads l 0) 0))
      heads_next first next c w i q =
          let h = head_is in
          let k = get_or heads l 0 in
          case-of (eqb i l)
          (λ t. let e = eqb-true i l t in
          ap (λ (x : ℕ). get_or (set heads l (get_or next k 0)) x 0) e ∙ get_or-set_same heads l (get_or next k 0) 0 (omega (arith, m.within))
          ∙ c.linked k (get_or ds l 0) h.1 h.2 ∙ ap (λ (x : ℕ). lowest_from lists n (get_or ds x 0) (k + 1)) (sym e))
          (λ t. let g = eqb-false i l t in
          let other = not_so (starts_with (get_or ds i 0) (lists k)) (λ u. g (rises_one ds i l r q m.within (starts_one (lists k) (get_or ds i 0) (get_or ds l 0) u h.2))) in
          get_or-set_other heads l i (get_or next k 0) 0 g ∙ hs i q
          ∙ from_jump (λ k. starts_with (get_or ds i 0) (lists k)) n at k h.0 (omega (arith, h.1)) (λ j a b. between j a (omega (arith, h.1)) b (get_or ds i 0) (at_member ds i q))
          ∙ from_miss (λ k. starts_with (get_or ds i 0) (lists k)) n k h.1 other)

      module _ (first next : List ℕ) (c : Chains lists n first next) (w : length ds ≤ length heads) (count : ℕ) (numbers masks : List ℕ) (g : Merging at count numbers masks heads) where
        -- the lowest head is a candidate, or it is passed over
        taken : (mask : ℕ) → count < length numbers → count < length masks → Some mask ≡ mask_within ds (lists (get_or heads l 0))
            → Merging (get_or heads l 0 + 1) (count + 1) (set numbers count (get_or heads l 0)) (set masks count mask) (set heads l (get_or next (get_or heads l 0) 0))
        taken mask a b e =
            let k = get_or heads l 0 in
            let h = head_is in
            let y = mask_yes ds (lists k) mask (get_or ds l 0) e h.2 in
            let u : take (count + 1) (set numbers count k) ≡ take count numbers ++ (k ∷ []) = rw (add-one count) (take-suc-set numbers count k a) in
            let v : take (count + 1) (set masks count mask) ≡ take count masks ++ (mask ∷ []) = rw (add-one count) (take-suc-set masks count mask b) in
            record {
              low = omega (arith, h.1);
              counted = omega (arith, h.0, g.counted);
              headed = heads_next first next c w;
              numbered =
                  ap (λ (x : List ℕ). x ++ candidates_from ds lists (n - (k + 1)) (k + 1)) u
                  ∙ append_assoc (take count numbers) (k ∷ []) (candidates_from ds lists (n - (k + 1)) (k + 1))
                  ∙ ap (λ (x : List ℕ). take count numbers ++ x) (sym (past_yes y.0)) ∙ g.numbered;
              masked =
                  v ∙ ap₂ (λ (x : List ℕ) (q : ℕ). x ++ (q ∷ [])) g.masked y.1
                  ∙ sym (ap (map (λ k. mask_of ds (lists k))) u ∙ map_snoc (λ k. mask_of ds (lists k)) (take count numbers) k);
            }

        passed : None ≡ mask_within ds (lists (get_or heads l 0)) → Merging (get_or heads l 0 + 1) count numbers masks (set heads l (get_or next (get_or heads l 0) 0))
        passed e =
            let h = head_is in
            record {
              low = omega (arith, h.1);
              counted = omega (arith, h.0, g.counted);
              headed = heads_next first next c w;
              numbered = ap (λ (x : List ℕ). take count numbers ++ x) (sym (past_no (mask_no ds (lists (get_or heads l 0)) e))) ∙ g.numbered;
              masked = g.masked;
            }

-- ---- the merge in its tables

module _ (starts counts es : List ℕ) (n : ℕ) (first next ds numbers masks : List ℕ) (r : Merged starts counts es n first next ds numbers masks) where
  pub merge_few : length ds ≤ 16
  merge_few = fits_length (length first) ds r.checked

  pub merge_rises : Rises 0 ds
  merge_rises = fits_rises (length first) ds r.checked

  pub merge_begin : (heads : List ℕ) → ((i : ℕ) → i < length ds → get_or heads i 0 ≡ get_or first (get_or ds i 0) 0) → Merging (detectors_at starts counts es) n ds 0 0 numbers masks heads
  merge_begin heads h = begun (detectors_at starts counts es) n ds numbers masks heads (λ i q. h i q ∙ r.chains.begins (get_or ds i 0) (fits_at (length first) ds i r.checked q))

  module _ (at count : ℕ) (numbers' masks' heads : List ℕ) (g : Merging (detectors_at starts counts es) n ds at count numbers' masks' heads) where
    -- no mechanism is left, or no chain goes on
    pub merge_end : n ≤ at → Gathered (detectors_at starts counts es) n ds count numbers' masks'
    merge_end h = record { numbered = no_more (detectors_at starts counts es) n ds at count numbers' masks' heads g h; masked = g.masked; counted = omega (arith, g.counted, g.low) }

    module _ (l : ℕ) (m : Least heads (length ds) l) where
      pub merge_ended : get_or heads l 0 ≡ nowhere → Gathered (detectors_at starts counts es) n ds count numbers' masks'
      merge_ended e = record {
        numbered =
            sym (append-nil (take count numbers'))
            ∙ ap (λ (x : List ℕ). take count numbers' ++ x) (sym (ended (detectors_at starts counts es) n ds r.tables.few merge_rises at heads g.low g.headed l m e))
            ∙ g.numbered;
        masked = g.masked;
        counted = omega (arith, g.counted, g.low);
      }

      module _ (f : get_or heads l 0 ≡ nowhere → ⊥) where
        pub merge_head : (at ≤ get_or heads l 0) × (get_or heads l 0 < n)
        merge_head = let h = head_is (detectors_at starts counts es) n ds r.tables.few merge_rises at heads g.low g.headed l m f in (h.0, h.1)

        module _ (w : length heads ≡ 16) where
          pub merge_taken : (mask : ℕ) → Some mask ≡ mask_within ds (detectors_at starts counts es (get_or heads l 0)) → length numbers' ≡ length numbers → length masks' ≡ length masks
              → Merging (detectors_at starts counts es) n ds (get_or heads l 0 + 1) (count + 1) (set numbers' count (get_or heads l 0)) (set masks' count mask) (set heads l (get_or next (get_or heads l 0) 0))
          merge_taken mask e a b =
              let h = merge_head in
              taken (detectors_at starts counts es) n ds r.tables.few merge_rises at heads g.low g.headed l m f first next r.chains (omega (arith, merge_few)) count numbers' masks' g mask
              (omega (arith, g.counted, r.numbers_hold)) (omega (arith, g.counted, r.masks_hold)) e

          pub merge_passed : None ≡ mask_within ds (detectors_at starts counts es (get_or heads l 0)) → Merging (detectors_at starts counts es) n ds (get_or heads l 0 + 1) count numbers' masks' (set heads l (get_or next (get_or heads l 0) 0))
          merge_passed e = passed (detectors_at starts counts es) n ds r.tables.few merge_rises at heads g.low g.headed l m f first next r.chains (omega (arith, merge_few)) count numbers' masks' g e
