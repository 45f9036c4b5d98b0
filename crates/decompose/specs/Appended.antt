-- The mechanisms that splitting appends: their lists stand in the entries given.
use Rattle.std.specs.Prelude.{ℕ, ◌+◌, ◌-◌, ◌<◌, ◌≤◌, List, map, length, get_or}
use Rattle.lists.specs.Lists.{from}
use Rattle.dem.specs.Model.{Symptom}
use Rattle.dem.specs.Tables.{symptom_entries}
use Rattle.cover.specs.Kept.{symptom_at}

-- the lists of mechanisms k to n, by their starts
unfoldable pub lists_from : List ℕ → List ℕ → List ℕ → List ℕ → ℕ → ℕ → List Symptom
unfolding from
lists_from starts ds os es k n = map (symptom_at starts ds os es) (from (n - k) k)

-- they lie inside the entries given, and after the first `at` entries of `out` there is room for them
pub record Appendable (starts ds os es : List ℕ) (k n at : ℕ) (out : List ℕ) : Type 0 where
  pub ordered : k ≤ n
  pub started : n ≤ length starts
  pub counted : n ≤ length ds
  pub observed : n ≤ length os
  pub listed : (i : ℕ) → i < n → get_or starts i 0 + get_or ds i 0 + get_or os i 0 ≤ length es
  pub room : at + length (symptom_entries (lists_from starts ds os es k n)) ≤ length out
