-- The first cover by lists is the first cover by masks and words.
use Prim.Native.Nat.{ℕ, zero, suc, ◌+◌, ◌*◌, ◌/◌, ◌%◌, ◌<◌, ◌≤◌, min}
use native.Mathlib.Decide.{dec_lt}
use native.Mathlib.Omega.{arith}
use mathlib.Core.Path.{◌≡◌, refl, sym, ap, ap₂, ◌∙◌}
use mathlib.Core.Logic.{⊎_elim}
use mathlib.Core.List.{List, [], ◌∷◌, map}
use mathlib.Core.Bool.{Bool, true, false, not, ◌&&◌, xor}
use lib.Arith.{digits_div, digits_mod}
use lib.Dec.{eqb}
use lib.Bits.{bit_and, bit_xor, differ, and_step, xor_step}
use borrow.Author.Tests.{eqb-true, eqb-false, eq-eqb}
use Rattle.lists.specs.Lists.{from, filter, member}
use Rattle.lists.proofs.Truth.{case-of, clash, iff_eq, not_so, and_left, and_right, or_cases, false_xor}
use Rattle.dem.specs.Model.{Symptom}
use Rattle.dem.specs.Cover.{one, is_empty, without, difference, chosen_fits, choose, closes, cover_from}
use Rattle.cover.proofs.First.{member_without, member_difference, empty_none, none_empty, fits_parts, fits_of}
use Rattle.cover.specs.Masks.{mask_of, word_of, candidate_of, is_candidate, candidates_from, fits, cover_of}
use Rattle.cover.proofs.Turn as turn

-- every member of a is one of b
abbrev pub Within : List ℕ → List ℕ → Type 0
Within b a = (d : ℕ) → member d a ≡ true → member d b ≡ true

-- every observable is below 128
abbrev pub Small : List ℕ → Type 0
Small l = (o : ℕ) → member o l ≡ true → o < 128

-- ---- masks

pub one_lt : (b : Bool) → one b < 2
one_lt true = omega arith
one_lt false = omega arith

one_xor : (p q : Bool) → one (xor p q) ≡ differ (one p) (one q)
unfolding xor
one_xor true true = refl
one_xor true false = refl
one_xor false true = refl
one_xor false false = refl

one_and : (p q : Bool) → (q ≡ true → p ≡ true) → min (one p) (one q) ≡ one q
one_and true true h = refl
one_and true false h = refl
one_and false true h = clash (h refl) refl
one_and false false h = refl

and_one : (p q : Bool) → min (one p) (one q) ≡ one q → q ≡ true → p ≡ true
and_one true q e h = refl
and_one false true e h = absurd (omega arith)
and_one false false e h = h

module _ (d : ℕ) (ds l : List ℕ) where
  high : (mask_of ds l * 2 + one (member d l)) / 2 ≡ mask_of ds l
  high = digits_div (mask_of ds l) (one_lt (member d l))

  low : (mask_of ds l * 2 + one (member d l)) % 2 ≡ one (member d l)
  low = digits_mod (mask_of ds l) (one_lt (member d l))

pub mask_xor : (ds a b r : List ℕ) → ((d : ℕ) → member d r ≡ xor (member d a) (member d b)) → mask_of ds r ≡ bit_xor (mask_of ds a) (mask_of ds b)
unfolding mask_of
mask_xor [] a b r h = refl
mask_xor (d ∷ ds) a b r h =
    ap₂ (λ (x y : ℕ). x * 2 + y) (mask_xor ds a b r h) (ap one (h d) ∙ one_xor (member d a) (member d b))
    ∙ sym (xor_step (mask_of ds a * 2 + one (member d a)) (mask_of ds b * 2 + one (member d b)) ∙ rw (high d ds a, high d ds b, low d ds a, low d ds b))

mask_step : (d : ℕ) (ds a b : List ℕ) → bit_and (mask_of ds a * 2 + one (member d a)) (mask_of ds b * 2 + one (member d b)) ≡ bit_and (mask_of ds a) (mask_of ds b) * 2 + min (one (member d a)) (one (member d b))
mask_step d ds a b = and_step (mask_of ds a * 2 + one (member d a)) (mask_of ds b * 2 + one (member d b)) ∙ rw (high d ds a, high d ds b, low d ds a, low d ds b)

pub mask_and : (ds a b : List ℕ) → Within a b → bit_and (mask_of ds a) (mask_of ds b) ≡ mask_of ds b
unfolding mask_of
mask_and [] a b h = refl
mask_and (d ∷ ds) a b h = mask_step d ds a b ∙ ap₂ (λ (x y : ℕ). x * 2 + y) (mask_and ds a b h) (one_and (member d a) (member d b) (h d))

pub and_mask : (ds a b : List ℕ) → bit_and (mask_of ds a) (mask_of ds b) ≡ mask_of ds b → (d : ℕ) → member d ds ≡ true → member d b ≡ true → member d a ≡ true
unfolding mask_of member
and_mask [] a b e d m n = clash m refl
and_mask (x ∷ ds) a b e d m n =
    let p = member x a in
    let q = member x b in
    let k = sym (mask_step x ds a b) ∙ e in
    let v : min (one p) (one q) ≡ one q = omega (arith, k, one_lt p, one_lt q) in
    let w : bit_and (mask_of ds a) (mask_of ds b) ≡ mask_of ds b = omega (arith, k, one_lt p, one_lt q) in
    ⊎_elim (λ t. rw (eqb-true d x t) (and_one p q v (sym (ap (λ (y : ℕ). member y b) (eqb-true d x t)) ∙ n))) (λ t. and_mask ds a b w d t n) (or_cases (eqb d x) (member d ds) m)

pub mask_none : (ds l : List ℕ) → ((d : ℕ) → member d l ≡ false) → mask_of ds l ≡ 0
unfolding mask_of
mask_none [] l h = refl
mask_none (d ∷ ds) l h = rw (mask_none ds l h, h d)

pub none_mask : (ds l : List ℕ) → mask_of ds l ≡ 0 → (d : ℕ) → member d ds ≡ true → member d l ≡ false
unfolding mask_of member
none_mask [] l e d m = clash m refl
none_mask (x ∷ ds) l e d m =
    ⊎_elim (λ t. rw (eqb-true d x t) (one_none (member x l) (omega (arith, e)))) (λ t. none_mask ds l (omega (arith, e)) d t) (or_cases (eqb d x) (member d ds) m)
  where
    one_none : (b : Bool) → one b ≡ 0 → b ≡ false
    one_none true e = absurd (omega arith)
    one_none false e = refl

-- ---- the tests

module _ (ds : List ℕ) where
  pub empty_mask : (l : List ℕ) → Within ds l → is_empty l ≡ eqb (mask_of ds l) 0
  empty_mask l w = iff_eq (is_empty l) (eqb (mask_of ds l) 0)
      (λ t. eq-eqb (mask_of ds l) 0 (mask_none ds l (empty_none l t)))
      (λ t. none_empty l (λ d. not_so (member d l) (λ m. clash m (none_mask ds l (eqb-true (mask_of ds l) 0 t) d (w d m)))))

  pub fits_same : (left : List ℕ) (s : Symptom) → chosen_fits ds s ≡ true → fits (mask_of ds left) (mask_of ds s.detectors) ≡ chosen_fits left s
  fits_same left s c =
      let p = fits_parts ds s c in
      iff_eq (fits (mask_of ds left) (mask_of ds s.detectors)) (chosen_fits left s)
      (λ t. let q = turn.fits_parts (mask_of ds left) (mask_of ds s.detectors) t in fits_of left s p.0 (λ d m. and_mask ds left s.detectors q.1 d (p.1 d m) m))
      (λ t. let q = fits_parts left s t in
      turn.fits_yes (mask_of ds left) (mask_of ds s.detectors) (λ z. clash (eq-eqb (mask_of ds s.detectors) 0 z) (sym (empty_mask s.detectors p.1) ∙ p.0)) (mask_and ds left s.detectors q.1))

  -- a mechanism that is no candidate fits in no part of ds
  pub fits_less : (left : List ℕ) (s : Symptom) → Within ds left → chosen_fits ds s ≡ false → chosen_fits left s ≡ false
  fits_less left s w f = not_so (chosen_fits left s) (λ t. let p = fits_parts left s t in clash (fits_of ds s p.0 (λ d m. w d (p.1 d m))) f)

-- ---- words

pub from_member : (d n a : ℕ) → a ≤ d → d < n + a → member d (from n a) ≡ true
unfolding member from
from_member d zero a h k = absurd (omega arith)
from_member d (suc n) a h k = case-of (eqb d a) (λ t. rw t) (λ f. rw f (from_member d n (suc a) (omega (arith, eqb-false d a f)) (omega arith)))

pub empty_words : (l : List ℕ) → Small l → is_empty l ≡ (eqb (word_of 0 l) 0 && eqb (word_of 64 l) 0)
unfolding word_of
empty_words l s = iff_eq (is_empty l) (eqb (word_of 0 l) 0 && eqb (word_of 64 l) 0)
    (λ t. rw (mask_none (from 64 0) l (empty_none l t), mask_none (from 64 64) l (empty_none l t)))
    (λ t. none_empty l (λ o. not_so (member o l) (λ m. clash m (absent o (s o m) t (dec_lt o 64)))))
  where
    absent : (o : ℕ) → o < 128 → (eqb (word_of 0 l) 0 && eqb (word_of 64 l) 0) ≡ true → Dec (o < 64) → member o l ≡ false
    absent o h t (yes k) = none_mask (from 64 0) l (eqb-true (word_of 0 l) 0 (and_left (eqb (word_of 0 l) 0) (eqb (word_of 64 l) 0) t)) o (from_member o 64 0 (omega arith) (omega arith))
    absent o h t (no k) = none_mask (from 64 64) l (eqb-true (word_of 64 l) 0 (and_right (eqb (word_of 0 l) 0) (eqb (word_of 64 l) 0) t)) o (from_member o 64 64 (omega arith) (omega arith))

pub word_xor : (f : ℕ) (a b : List ℕ) → word_of f (difference a b) ≡ bit_xor (word_of f a) (word_of f b)
unfolding word_of
word_xor f a b = mask_xor (from 64 f) a b (difference a b) (λ o. member_difference o a b)

small_difference : (a b : List ℕ) → Small a → Small b → Small (difference a b)
small_difference a b s r o m = case-of (member o a) (λ t. s o t)
    (λ f. r o (let k = sym (member_difference o a b) ∙ m in let j : xor false (member o b) ≡ true = rw f at k in sym (false_xor (member o b)) ∙ j))

left_table : (p q : Bool) → (p ≡ true → q ≡ true) → (not p && q) ≡ xor q p
unfolding xor
left_table true true h = refl
left_table true false h = clash (h refl) refl
left_table false true h = refl
left_table false false h = refl

left_xor : (ds left e : List ℕ) → Within left e → mask_of ds (without e left) ≡ bit_xor (mask_of ds left) (mask_of ds e)
left_xor ds left e w = mask_xor ds left e (without e left) (λ d. member_without d e left ∙ left_table (member d e) (member d left) (w d))

pub same_test : (ds : List ℕ) (s : Symptom) → chosen_fits ds s ≡ is_candidate ds s.detectors
unfolding chosen_fits is_candidate
same_test ds s = refl

-- ---- the search

module _ (ds : List ℕ) (symptoms : ℕ → Symptom) where
  pub by_masks : (n at : ℕ) (left obs : List ℕ) → Within ds left → Small obs → ((k : ℕ) → k < n + at → Small (symptoms k).observables)
      → cover_from (map symptoms (from n at)) at left obs ≡ cover_of (map (candidate_of ds symptoms) (candidates_from ds (λ k. (symptoms k).detectors) n at)) (mask_of ds left) (word_of 0 obs) (word_of 64 obs)
  unfolding cover_from cover_of candidate_of candidates_from filter from
  by_masks zero at left obs w s ss = ap₂ (λ (x y : Bool). closes (x && y)) (empty_mask ds left w) (empty_words obs s)
  by_masks (suc n) at left obs w s ss =
      let it = symptoms at in
      let more : (k : ℕ) → k < n + suc at → Small (symptoms k).observables = λ k h. ss k (omega arith) in
      let without-it = by_masks n (suc at) left obs w s more in
      case-of (is_candidate ds it.detectors)
      (λ t. case-of (chosen_fits left it)
      (λ u.
      let inside = (fits_parts left it u).1 in
      let less : Within ds (without it.detectors left) = λ d m. w d (and_right (not (member d it.detectors)) (member d left) (sym (member_without d it.detectors left) ∙ m)) in
      let with_it = by_masks n (suc at) (without it.detectors left) (difference obs it.observables) less (small_difference obs it.observables s (ss at (omega arith))) more in
      let e = left_xor ds left it.detectors inside in
      let f = word_xor 0 obs it.observables in
      let g = word_xor 64 obs it.observables in
      rw (t, u, fits_same ds left it (same_test ds it ∙ t) ∙ u) (ap₂ (choose true at) (rw (e, f, g) at with_it) without-it))
      (λ u. rw (t, u, fits_same ds left it (same_test ds it ∙ t) ∙ u) without-it))
      (λ f. rw (f, fits_less ds left it w (same_test ds it ∙ f)) without-it)
