-- What an accepted check tells.
use Rattle.std.specs.Prelude.{Ok}
use Prim.Native.Nat.{ℕ, zero, suc, ◌<◌, ◌≤◌}
use native.Mathlib.Nat.{not-suc-le-zero, le_of_suc-le-suc}
use mathlib.Core.Path.{◌≡◌}
use mathlib.Core.List.{List, [], ◌∷◌}
use mathlib.Core.Bool.{true, not, ◌&&◌}
use lib.Dec.{leb, ltb}
use lib.ListN.{length, get_or}
use borrow.Author.Tests.{leb-true, ltb-true}
use Rattle.lists.proofs.Truth.{and_left, and_right}
use Rattle.codes.specs.declared.Refusal.TheVariants.{Probability, Index}
use Rattle.codes.specs.Order.{refuse_if}
use Rattle.codes.proofs.Checks.{then_accepted, unless_accepted}
use Rattle.codes.specs.Limits.{max_entries}
use Rattle.dem.specs.Model.{Symptom, ErrorMechanism, ascending, list_fits, symptom_fits, symptoms_fit, lists_fit, probability_fits, check_mechanism, check_model}
use Rattle.dem.specs.Cover.{none_such}
use Rattle.dem.specs.Laws.{Fits, SymptomFits, MechanismFits}

-- ---- lists

record Above (low bound : ℕ) (xs : List ℕ) : Type 0 where
  head : 0 < length xs → low ≤ get_or xs 0 0
  below : (k : ℕ) → k < length xs → get_or xs k 0 < bound
  ascends : (k : ℕ) → suc k < length xs → get_or xs k 0 < get_or xs (suc k) 0

above : (low bound : ℕ) (xs : List ℕ) → ascending low bound xs ≡ true → Above low bound xs
unfolding ascending
above low bound [] h = record { head = λ l. absurd (not-suc-le-zero l); below = λ k l. absurd (not-suc-le-zero l); ascends = λ k l. absurd (not-suc-le-zero l) }
above low bound (x ∷ xs) h =
    let rest = ascending (suc x) bound xs in
    let p = and_right (leb low x) (ltb x bound && rest) h in
    go (leb-true low x (and_left (leb low x) (ltb x bound && rest) h)) (ltb-true x bound (and_left (ltb x bound) rest p))
    (above (suc x) bound xs (and_right (ltb x bound) rest p))
  where
    go : low ≤ x → x < bound → Above (suc x) bound xs → Above low bound (x ∷ xs)
    go a b r = record { head = λ l. a; below = bd; ascends = asc }
      where
        bd : (k : ℕ) → k < length (x ∷ xs) → get_or (x ∷ xs) k 0 < bound
        bd zero l = b
        bd (suc k) l = r.below k (le_of_suc-le-suc l)

        asc : (k : ℕ) → suc k < length (x ∷ xs) → get_or (x ∷ xs) k 0 < get_or (x ∷ xs) (suc k) 0
        asc zero l = r.head (le_of_suc-le-suc l)
        asc (suc k) l = r.ascends k (le_of_suc-le-suc l)

pub list_fits_lem : (bound : ℕ) (xs : List ℕ) → list_fits bound xs ≡ true → Fits bound xs
unfolding list_fits
list_fits_lem bound xs h =
    let few = leb (length xs) max_entries in
    let r = above 0 bound xs (and_right few (ascending 0 bound xs) h) in
    record { short = leb-true _ _ (and_left few (ascending 0 bound xs) h); below = r.below; ascends = r.ascends }

pub symptom_fits_lem : (D O : ℕ) (s : Symptom) → symptom_fits D O s ≡ true → SymptomFits D O s
unfolding symptom_fits
symptom_fits_lem D O s h =
    let d = list_fits D s.detectors in
    let o = list_fits O s.observables in
    record { detectors = list_fits_lem D s.detectors (and_left d o h); observables = list_fits_lem O s.observables (and_right d o h) }

symptoms_fit_lem : (D O : ℕ) (ss : List Symptom) → symptoms_fit D O ss ≡ true → (k : ℕ) → k < length ss → SymptomFits D O (get_or ss k none_such)
unfolding symptoms_fit
symptoms_fit_lem D O [] h k l = absurd (not-suc-le-zero l)
symptoms_fit_lem D O (s ∷ ss) h zero l = symptom_fits_lem D O s (and_left (symptom_fits D O s) (symptoms_fit D O ss) h)
symptoms_fit_lem D O (s ∷ ss) h (suc k) l = symptoms_fit_lem D O ss (and_right (symptom_fits D O s) (symptoms_fit D O ss) h) k (le_of_suc-le-suc l)

-- ---- mechanisms

pub mechanism_fits : (D O i : ℕ) (m : ErrorMechanism) → check_mechanism D O i m ≡ Ok tt → MechanismFits D O m
unfolding check_mechanism lists_fit
mechanism_fits D O i m h =
    let l = lists_fit D O m in
    let f = probability_fits m.probability in
    let (a, b) = then_accepted (refuse_if (not l) (Index i)) (refuse_if (not f) (Probability i)) h in
    let p = unless_accepted l (Index i) a in
    let own = symptom_fits D O m.symptom in
    let few = leb (length m.components) max_entries in
    let theirs = symptoms_fit D O m.components in
    let q = and_right own (few && theirs) p in
    record {
      lists = p;
      probability = unless_accepted f (Probability i) b;
      symptom = symptom_fits_lem D O m.symptom (and_left own (few && theirs) p);
      few = leb-true _ _ (and_left few theirs q);
      components = symptoms_fit_lem D O m.components (and_right few theirs q);
    }

pub model_fits : (D O i : ℕ) (ms : List ErrorMechanism) → check_model D O i ms ≡ Ok tt → (k : ℕ) (z : ErrorMechanism) → k < length ms → MechanismFits D O (get_or ms k z)
unfolding check_model
model_fits D O i [] h k z l = absurd (not-suc-le-zero l)
model_fits D O i (m ∷ ms) h zero z l = mechanism_fits D O i m (then_accepted (check_mechanism D O i m) (check_model D O (suc i) ms) h).0
model_fits D O i (m ∷ ms) h (suc k) z l = model_fits D O (suc i) ms (then_accepted (check_mechanism D O i m) (check_model D O (suc i) ms) h).1 k z (le_of_suc-le-suc l)
