-- The first cover: docs/RULES.md, "Decomposition".
use Rattle.std.specs.Prelude.{Option, None, Some, ℕ, suc, ◌<◌, ◌≤◌, ◌≡◌, List, [], ◌∷◌, ◌++◌, Bool, true, false, not, ◌&&◌, ◌⊎◌, length, get_or}
use Rattle.lists.specs.Lists.{filter, any, odd, member}
use Rattle.dem.specs.Model.{Symptom}

abbrev pub one : Bool → ℕ
one true = 1
one false = 0

abbrev pub is_empty : List ℕ → Bool
is_empty [] = true
is_empty (x ∷ xs) = false

-- the elements of a that are not in b
abbrev pub without : List ℕ → List ℕ → List ℕ
without b a = filter (λ x. not (member x b)) a

-- the elements of just one of the two
unfoldable pub difference : List ℕ → List ℕ → List ℕ
unfolding filter member
difference a b = without b a ++ without a b

-- every element of a is in b
unfoldable pub within : List ℕ → List ℕ → Bool
unfolding any member
within b a = not (any (λ x. not (member x b)) a)

-- mechanism s may be chosen: its detectors are not empty and all still uncovered
unfoldable pub chosen_fits : List ℕ → Symptom → Bool
unfolding within
chosen_fits left s = not (is_empty s.detectors) && within left s.detectors

-- the mechanism `at` in front of a cover of what it leaves, where there is one; else what is found without it
abbrev pub choose : Bool → ℕ → Option (List ℕ) → Option (List ℕ) → Option (List ℕ)
choose true at (Some cs) r = Some (at ∷ cs)
choose true at None r = r
choose false at t r = r

-- nothing is left to cover, and no observable is left to match
abbrev pub closes : Bool → Option (List ℕ)
closes true = Some []
closes false = None

-- of the kept mechanisms from number `at` on, the first cover of the detectors and observables left
unfoldable pub cover_from : List Symptom → ℕ → List ℕ → List ℕ → Option (List ℕ)
unfolding chosen_fits difference filter member
cover_from [] at left obs = closes (is_empty left && is_empty obs)
cover_from (s ∷ ss) at left obs =
    let with_it = cover_from ss (suc at) (without s.detectors left) (difference obs s.observables) in
    let without-it = cover_from ss (suc at) left obs in
    choose (chosen_fits left s) at with_it without-it

unfoldable pub first_cover : List Symptom → Symptom → Option (List ℕ)
unfolding cover_from
first_cover kept s = cover_from kept 0 s.detectors s.observables

-- ---- the same in words of sets

abbrev pub none_such : Symptom
none_such = record { detectors = []; observables = [] }

-- an ascending choice from `at` on and below n
abbrev pub Ascending : ℕ → ℕ → List ℕ → Type 0
Ascending n at [] = Unit {0}
Ascending n at (c ∷ cs) = (at ≤ c) × (c < n) × Ascending n (suc c) cs

-- cs is ds, or comes before it: "lowest mechanism number, then the next"
abbrev pub Before : List ℕ → List ℕ → Type 0
Before [] ds = Unit {0}
Before (c ∷ cs) [] = ⊥
Before (c ∷ cs) (d ∷ ds) = (c < d) ⊎ ((c ≡ d) × Before cs ds)

module _ (kept : List Symptom) (s : Symptom) where
  abbrev pub detectors_of : ℕ → List ℕ
  detectors_of c = (get_or kept c none_such).detectors

  abbrev pub observables_of : ℕ → List ℕ
  observables_of c = (get_or kept c none_such).observables

  -- "an ascending choice of kept mechanisms whose non-empty detector sets partition the detectors and whose observables XOR to its own"
  pub record IsCover (cs : List ℕ) : Type 0 where
    pub ascends : Ascending (length kept) 0 cs
    pub filled : (c : ℕ) → member c cs ≡ true → is_empty (detectors_of c) ≡ false
    -- a detector of s is in just one of the sets, and any other in none
    pub partitions : (d : ℕ) → length (filter (λ c. member d (detectors_of c)) cs) ≡ one (member d s.detectors)
    pub matches : (o : ℕ) → odd (λ c. member o (observables_of c)) cs ≡ member o s.observables

  -- what the first cover is: a cover before all others, or there is none
  abbrev pub IsFirst : Option (List ℕ) → Type 0
  IsFirst None = (ds : List ℕ) → IsCover ds → ⊥
  IsFirst (Some cs) = IsCover cs × ((ds : List ℕ) → IsCover ds → Before cs ds)
