-- The kept mechanisms in their tables, and the chains by first detector.
use Rattle.std.specs.Prelude.{ℕ, zero, suc, ◌+◌, ◌-◌, ◌<◌, ◌≤◌, ◌≡◌, List, [], ◌∷◌, map, Bool, true, false, cond, length, get_or, take, drop, eqb}
use Rattle.lists.specs.Lists.{below}
use Rattle.dem.specs.Model.{Symptom, list_fits}

-- kept mechanism k: its detectors begin at its start, its observables follow
abbrev pub detectors_at : List ℕ → List ℕ → List ℕ → ℕ → List ℕ
detectors_at starts ds es k = take (get_or ds k 0) (drop (get_or starts k 0) es)

abbrev pub observables_at : List ℕ → List ℕ → List ℕ → List ℕ → ℕ → List ℕ
observables_at starts ds os es k = take (get_or os k 0) (drop (get_or starts k 0 + get_or ds k 0) es)

abbrev pub symptom_at : List ℕ → List ℕ → List ℕ → List ℕ → ℕ → Symptom
symptom_at starts ds os es k = record { detectors = detectors_at starts ds es k; observables = observables_at starts ds os es k }

-- the n kept mechanisms of the tables
unfoldable pub kept_in : List ℕ → List ℕ → List ℕ → List ℕ → ℕ → List Symptom
unfolding below
kept_in starts ds os es n = map (symptom_at starts ds os es) (below n)

-- the tables hold the detectors of n mechanisms, each list strictly ascending and below d
pub record Detectors (starts ds es : List ℕ) (n d : ℕ) : Type 0 where
  pub few : n ≤ 16384
  pub started : n ≤ length starts
  pub counted : n ≤ length ds
  pub listed : (k : ℕ) → k < n → get_or starts k 0 + get_or ds k 0 ≤ length es
  pub checked : (k : ℕ) → k < n → list_fits d (detectors_at starts ds es k) ≡ true

-- and their observables, each list strictly ascending and below 128
pub record Observables (starts ds os es : List ℕ) (n : ℕ) : Type 0 where
  pub observed : n ≤ length os
  pub listed : (k : ℕ) → k < n → get_or starts k 0 + get_or ds k 0 + get_or os k 0 ≤ length es
  pub checked : (k : ℕ) → k < n → list_fits 128 (observables_at starts ds os es k) ≡ true

-- ---- chains

-- no mechanism
abbrev pub nowhere : ℕ
nowhere = 4294967295

-- the first of the n numbers from `at` on that passes
unfoldable pub lowest : (ℕ → Bool) → ℕ → ℕ → ℕ
lowest p zero at = nowhere
lowest p (suc n) at = cond (p at) at (lowest p n (suc at))

abbrev pub starts_with : ℕ → List ℕ → Bool
starts_with d [] = false
starts_with d (x ∷ xs) = eqb x d

-- of n mechanisms with these detectors, the lowest from `at` on whose first detector is d
abbrev pub lowest_from : (ℕ → List ℕ) → ℕ → ℕ → ℕ → ℕ
lowest_from lists n d at = lowest (λ k. starts_with d (lists k)) (n - at) at

-- the chain of a detector begins at the lowest mechanism whose first detector it is, and goes from each to the next higher one;
-- a mechanism with no detectors is in none
pub record Chains (lists : ℕ → List ℕ) (n : ℕ) (first next : List ℕ) : Type 0 where
  pub begins : (d : ℕ) → d < length first → get_or first d 0 ≡ lowest_from lists n d 0
  pub linked : (k d : ℕ) → k < n → starts_with d (lists k) ≡ true → get_or next k 0 ≡ lowest_from lists n d (k + 1)

-- followed from k on, the chain is this list
abbrev pub Follows : List ℕ → ℕ → List ℕ → Type 0
Follows next k [] = k ≡ nowhere
Follows next k (x ∷ xs) = (k ≡ x) × Follows next (get_or next x 0) xs
