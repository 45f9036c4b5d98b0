-- One more mechanism in the tables of starts and counts.
use Prim.Native.Nat.{ℕ, ◌+◌, ◌-◌, ◌<◌, ◌≤◌}
use native.Mathlib.Omega.{arith}
use mathlib.Core.Path.{◌≡◌}
use mathlib.Core.List.{List}
use mathlib.Core.Bool.{true}
use lib.Dec.{eqb, leb}
use lib.ListN.{length, set, take, drop, length-set}
use lib.Seq.{get_or-set_same, get_or-set_other}
use borrow.Author.Tests.{eqb-true, eqb-false, leb-true, le-leb}
use Rattle.lists.proofs.Truth.{case-of, iff_eq}
use Rattle.dem.specs.Model.{list_fits}
use Rattle.cover.specs.Kept.{detectors_at, symptom_at, Detectors, Observables}

pub leb_sub : (a b c : ℕ) → a ≤ c → leb b (c - a) ≡ leb (a + b) c
leb_sub a b c h = iff_eq (leb b (c - a)) (leb (a + b) c) (λ t. let e = leb-true b (c - a) t in le-leb (a + b) c (omega arith)) (λ t. let e = leb-true (a + b) c t in le-leb b (c - a) (omega arith))

other : (k n : ℕ) → k < n → k ≡ n → ⊥
other k n h e = omega arith

module _ (n a c o : ℕ) (es starts counts others : List ℕ) where
  pub detectors_before : (k : ℕ) → k < n → detectors_at starts counts es k ≡ detectors_at (set starts n a) (set counts n c) es k
  detectors_before k h = rw (get_or-set_other starts n k a 0 (other k n h), get_or-set_other counts n k c 0 (other k n h))

  pub symptom_before : (k : ℕ) → k < n → symptom_at starts counts others es k ≡ symptom_at (set starts n a) (set counts n c) (set others n o) es k
  symptom_before k h = rw (get_or-set_other starts n k a 0 (other k n h), get_or-set_other counts n k c 0 (other k n h), get_or-set_other others n k o 0 (other k n h))

  module _ (hs : n < length starts) (hc : n < length counts) where
    pub detectors_here : detectors_at (set starts n a) (set counts n c) es n ≡ take c (drop a es)
    detectors_here = rw (get_or-set_same starts n a 0 hs, get_or-set_same counts n c 0 hc)

    pub more_detectors : (d : ℕ) → Detectors starts counts es n d → n < 16384 → a + c ≤ length es → list_fits d (take c (drop a es)) ≡ true → Detectors (set starts n a) (set counts n c) es (n + 1) d
    more_detectors d t f i l = record {
      few = omega arith;
      started = omega (arith, length-set starts n a);
      counted = omega (arith, length-set counts n c);
      listed = λ k h. case-of (eqb k n)
          (λ u. rw (eqb-true k n u, get_or-set_same starts n a 0 hs, get_or-set_same counts n c 0 hc) i)
          (λ u. let g : k < n = omega (arith, eqb-false k n u) in
          rw (get_or-set_other starts n k a 0 (other k n g), get_or-set_other counts n k c 0 (other k n g)) (t.listed k g));
      checked = λ k h. case-of (eqb k n)
          (λ u. rw (eqb-true k n u, detectors_here) l)
          (λ u. let g : k < n = omega (arith, eqb-false k n u) in rw (← detectors_before k g) (t.checked k g));
    }

    module _ (ho : n < length others) where
      pub symptom_here : symptom_at (set starts n a) (set counts n c) (set others n o) es n ≡ record { detectors = take c (drop a es); observables = take o (drop (a + c) es) }
      symptom_here = rw (get_or-set_same starts n a 0 hs, get_or-set_same counts n c 0 hc, get_or-set_same others n o 0 ho)

      pub more_observables : Observables starts counts others es n → a + c + o ≤ length es → list_fits 128 (take o (drop (a + c) es)) ≡ true → Observables (set starts n a) (set counts n c) (set others n o) es (n + 1)
      more_observables t i l = record {
        observed = omega (arith, length-set others n o);
        listed = λ k h. case-of (eqb k n)
            (λ u. rw (eqb-true k n u, get_or-set_same starts n a 0 hs, get_or-set_same counts n c 0 hc, get_or-set_same others n o 0 ho) i)
            (λ u. let g : k < n = omega (arith, eqb-false k n u) in
            rw (get_or-set_other starts n k a 0 (other k n g), get_or-set_other counts n k c 0 (other k n g), get_or-set_other others n k o 0 (other k n g)) (t.listed k g));
        checked = λ k h. case-of (eqb k n)
            (λ u. rw (eqb-true k n u, get_or-set_same starts n a 0 hs, get_or-set_same counts n c 0 hc, get_or-set_same others n o 0 ho) l)
            (λ u. let g : k < n = omega (arith, eqb-false k n u) in
            rw (get_or-set_other starts n k a 0 (other k n g), get_or-set_other counts n k c 0 (other k n g), get_or-set_other others n k o 0 (other k n g)) (t.checked k g));
      }
