-- The model check on columns that are alike.
use Rattle.std.specs.Prelude.{Ok, Err}
use Prim.Native.Nat.{ℕ, zero, suc, ◌+◌, ◌<◌}
use native.Mathlib.Numerals.{one-add}
use native.Mathlib.Omega.{arith}
use mathlib.Core.Path.{◌≡◌, refl, sym, ap, ap₂, ◌∙◌}
use mathlib.Core.List.{List, ◌∷◌}
use mathlib.Core.Bool.{Bool, true, false, cond, not, ◌&&◌}
use lib.ListN.{length, get_or, take, drop}
use lib.Seq.{get_or-drop}
use lib.Dec.{ltb}
use lib.Ieee as Ieee
use lib.Ieee.{Float, binary64, nan, inf, fin}
use lib.Ieee.Bits.{nan_bits_is}
use borrow.Author.Tests.{ltb-true, ltb-false, lt-leb}
use Rattle.lists.proofs.Truth.{case-of, clash}
use Rattle.codes.specs.declared.Refusal.TheVariants.{Index, Probability}
use Rattle.codes.specs.Order.{Checked, refuse_if, and_then}
use Rattle.dem.specs.Model.{Symptom, ErrorMechanism, symptom_fits, symptoms_fit, lists_fit, probability_fits, check_mechanism, check_model}
use Rattle.dem.specs.Tables.{components_of, component_entries, first_of, first_entries, rest_of, model_of}
use Rattle.dem.specs.Positions.{tables}
use Rattle.codes.proofs.Checks.{then_accepted}
use Rattle.model_check.specs.Bits.{two, probability_of, Alike, Bytes}
use Rattle.model_check.specs.BitLaws.{Laws}

-- ---- bits

nan_fits : (v : Float) → Ieee.is_nan v ≡ true → probability_fits v ≡ false
unfolding probability_fits Ieee.is_nan Ieee.le Ieee.lt
nan_fits nan h = refl
nan_fits (inf s) h = clash h refl
nan_fits (fin s m e) h = clash h refl

-- a NaN is told by the number that the bits give
pub by_number : (b : ℕ) → probability_of b ≡ cond (Ieee.is_nan (Ieee.of_bits binary64 b)) two (Ieee.of_bits binary64 b)
unfolding probability_of
by_number b = ap (λ (t : Bool). cond t two (Ieee.of_bits binary64 b)) (nan_bits_is binary64 b)

two_fits : probability_fits two ≡ false
unfolding probability_fits Ieee.le Ieee.lt Ieee.of_bits
two_fits = refl

nan_refused : (b : ℕ) → Ieee.nan_bits binary64 b ≡ true → probability_fits (probability_of b) ≡ false
unfolding probability_of
nan_refused b t = rw t two_fits

number_bits : (b : ℕ) → Ieee.nan_bits binary64 b ≡ false → probability_of b ≡ Ieee.of_bits binary64 b
unfolding probability_of
number_bits b f = rw f

fits_bits : (b : ℕ) → probability_fits (probability_of b) ≡ probability_fits (Ieee.of_bits binary64 b)
fits_bits b =
    case-of (Ieee.nan_bits binary64 b)
    (λ (t : Ieee.nan_bits binary64 b ≡ true). nan_refused b t ∙ sym (nan_fits (Ieee.of_bits binary64 b) (sym (nan_bits_is binary64 b) ∙ t)))
    (λ (f : Ieee.nan_bits binary64 b ≡ false). ap probability_fits (number_bits b f))

same_bits : (b : ℕ) → probability_fits (probability_of b) ≡ true → probability_of b ≡ Ieee.of_bits binary64 b
same_bits b h =
    case-of (Ieee.nan_bits binary64 b)
    (λ (t : Ieee.nan_bits binary64 b ≡ true). clash h (nan_refused b t))
    (λ (f : Ieee.nan_bits binary64 b ≡ false). number_bits b f)

-- ---- one mechanism

and_none : (a b : Bool) → (a && (false && b)) ≡ false
and_none true b = refl
and_none false b = refl

many : (n : ℕ) (ds os es : List ℕ) → length (components_of n ds os es) ≡ n
unfolding components_of
many zero ds os es = refl
many (suc n) ds os es = ap suc (many n (drop 1 ds) (drop 1 os) (drop (get_or ds 0 0 + get_or os 0 0) es))

-- more components than 16
refused_many : (D O i : ℕ) (m : ErrorMechanism) → 16 < length m.components → check_mechanism D O i m ≡ Err (Index i)
unfolding check_mechanism lists_fit
refused_many D O i m h =
    let e : lists_fit D O m ≡ false = rw (lt-leb (length m.components) 16 h) (and_none (symptom_fits D O m.symptom) (symptoms_fit D O m.components)) in
    rw e

-- another probability that passes alike
check_other : (D O i : ℕ) (p q : Float) (y : Symptom) (cs : List Symptom) → probability_fits q ≡ probability_fits p
    → check_mechanism D O i (record { probability = q; symptom = y; components = cs }) ≡ check_mechanism D O i (record { probability = p; symptom = y; components = cs })
unfolding check_mechanism lists_fit
check_other D O i p q y cs h = rw h

-- the probability of a mechanism that is accepted
accepted_fits : (D O i : ℕ) (m : ErrorMechanism) → check_mechanism D O i m ≡ Ok tt → probability_fits m.probability ≡ true
unfolding check_mechanism
accepted_fits D O i m = go (not (lists_fit D O m)) (probability_fits m.probability)
  where
    go : (a b : Bool) → and_then (refuse_if a (Index i)) (refuse_if (not b) (Probability i)) ≡ Ok tt → b ≡ true
    go true true h = refl
    go true false h = cc
    go false true h = refl
    go false false h = cc

-- ---- a model

at_first : {A : Type 0} (l : List A) (k : ℕ) (z : A) → get_or (drop 1 l) k z ≡ get_or l (suc k) z
at_first l k z = get_or-drop 1 l k z ∙ ap (λ (j : ℕ). get_or l j z) (one-add k)

alike_rest : (n : ℕ) (ps qs : List Float) → Alike (suc n) ps qs → Alike n (drop 1 ps) (drop 1 qs)
alike_rest n ps qs h = record {
  fits = λ k l. rw (at_first ps k nan, at_first qs k nan) (h.fits (suc k) (omega arith));
  same = λ k l e. rw (at_first ps k nan, at_first qs k nan) (h.same (suc k) (omega arith) (rw (at_first qs k nan) at e));
}

bytes_rest : (n : ℕ) (cs bs : List ℕ) → Bytes (suc n) cs bs → Bytes n (drop 1 cs) (drop 1 bs)
bytes_rest n cs bs h = λ k l. rw (at_first cs k 0, at_first bs k 0) (h (suc k) (omega arith))

module _ (D O : ℕ) where
  pub check_alike : (n i : ℕ) (ps qs : List Float) (ds os cs bs cds cos es : List ℕ) → Alike n ps qs → Bytes n cs bs
      → check_model D O i (model_of n (tables qs ds os bs cds cos es)) ≡ check_model D O i (model_of n (tables ps ds os cs cds cos es))
  unfolding check_model model_of first_of rest_of first_entries
  check_alike zero i ps qs ds os cs bs cds cos es h k = refl
  check_alike (suc n) i ps qs ds os cs bs cds cos es h k =
      let c = get_or cs 0 0 in
      let T = tables ps ds os cs cds cos es in
      let U = tables qs ds os bs cds cos es in
      case-of (ltb 16 c)
      (λ (t : ltb 16 c ≡ true).
      let l = ltb-true 16 c t in
      let b = k 0 (omega arith) in
      ap (λ (x : Checked). and_then x (check_model D O (suc i) (model_of n (rest_of U)))) (refused_many D O i (first_of U) (omega (arith, many (get_or bs 0 0) cds cos (drop (get_or ds 0 0 + get_or os 0 0) es), b)))
      ∙ sym (ap (λ (x : Checked). and_then x (check_model D O (suc i) (model_of n (rest_of T)))) (refused_many D O i (first_of T) (omega (arith, many c cds cos (drop (get_or ds 0 0 + get_or os 0 0) es))))))
      (λ (f : ltb 16 c ≡ false).
      let l = ltb-false 16 c f in
      let e : get_or bs 0 0 ≡ c = omega (arith, k 0 (omega arith)) in
      let d = get_or ds 0 0 in
      let o = get_or os 0 0 in
      rw e
      (ap₂ and_then
      (check_other D O i (get_or ps 0 nan) (get_or qs 0 nan) (record { detectors = take d es; observables = take o (drop d es) }) (components_of c cds cos (drop (d + o) es)) (h.fits 0 (omega arith)))
      (check_alike n (suc i) (drop 1 ps) (drop 1 qs) (drop 1 ds) (drop 1 os) (drop 1 cs) (drop 1 bs) (drop c cds) (drop c cos) (drop (d + o + component_entries c cds cos) es)
      (alike_rest n ps qs h) (bytes_rest n cs bs k))))

  pub same_accepted : (n i : ℕ) (ps qs : List Float) (ds os cs bs cds cos es : List ℕ) → Alike n ps qs → Bytes n cs bs
      → check_model D O i (model_of n (tables qs ds os bs cds cos es)) ≡ Ok tt
      → model_of n (tables qs ds os bs cds cos es) ≡ model_of n (tables ps ds os cs cds cos es)
  unfolding check_model model_of first_of rest_of first_entries
  same_accepted zero i ps qs ds os cs bs cds cos es h k a = refl
  same_accepted (suc n) i ps qs ds os cs bs cds cos es h k a =
      let c = get_or cs 0 0 in
      let U = tables qs ds os bs cds cos es in
      let parts = then_accepted (check_mechanism D O i (first_of U)) (check_model D O (suc i) (model_of n (rest_of U))) a in
      case-of (ltb 16 c)
      (λ (t : ltb 16 c ≡ true).
      let l = ltb-true 16 c t in
      let b = k 0 (omega arith) in
      let r = refused_many D O i (first_of U) (omega (arith, many (get_or bs 0 0) cds cos (drop (get_or ds 0 0 + get_or os 0 0) es), b)) in
      let y = parts.0 in
      let z : ◌≡◌ {A = ℕ} 0 1 = cc in
      absurd (omega arith))
      (λ (f : ltb 16 c ≡ false).
      let l = ltb-false 16 c f in
      let e : get_or bs 0 0 ≡ c = omega (arith, k 0 (omega arith)) in
      let d = get_or ds 0 0 in
      let o = get_or os 0 0 in
      rw e
      (ap₂ {C = List ErrorMechanism} (λ (m : ErrorMechanism) (ms : List ErrorMechanism). m ∷ ms)
      (ap {B = ErrorMechanism} (λ (p : Float). record { probability = p; symptom = record { detectors = take d es; observables = take o (drop d es) }; components = components_of c cds cos (drop (d + o) es) })
      (h.same 0 (omega arith) (accepted_fits D O i (first_of U) parts.0)))
      (same_accepted n (suc i) (drop 1 ps) (drop 1 qs) (drop 1 ds) (drop 1 os) (drop 1 cs) (drop 1 bs) (drop c cds) (drop c cos) (drop (d + o + component_entries c cds cos) es)
      (alike_rest n ps qs h) (bytes_rest n cs bs k) (rw e at parts.1))))

pub laws : Laws
laws = record {
  fits_bits = fits_bits;
  same_bits = same_bits;
  nan_refused = nan_refused;
  number_bits = number_bits;
  check_alike = λ n D O i. check_alike D O n i;
  same_accepted = λ n D O i. same_accepted D O n i;
}
