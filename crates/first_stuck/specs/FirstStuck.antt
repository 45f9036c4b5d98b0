-- The first stuck cluster.
use Rattle.std.specs.Prelude.{Option, None, Some, ℕ, ◌<◌, ◌≤◌, List, [], ◌∷◌, Bool, false, cond, length, get_or}

-- a active clusters
pub record Checking (active : List ℕ) (a : ℕ) (free : List Bool) : Type 0 where
  pub actives : a ≤ length active
  pub inside : (i : ℕ) → i < a → get_or active i 0 < length free

-- the first of the list that is not free
unfoldable pub first_shut : List Bool → List ℕ → Option ℕ
first_shut free [] = None
first_shut free (r ∷ l) = cond (get_or free r false) (first_shut free l) (Some r)
