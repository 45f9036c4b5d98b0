-- What the lit detectors of a shot put into clean tables.
use Rattle.std.specs.Prelude.{ℕ, ◌<◌, ◌≤◌, ◌≡◌, Bool, true, false, ◌||◌, List, [], ◌∷◌, length, get_or, set, take}
use Rattle.lists.specs.Lists.{member}
use Rattle.cells.specs.declared.Flags.{Flags}
use Rattle.cells.specs.declared.Stack.{Stack}
use Rattle.cells.specs.Tables.{at_active, at_hot, at_known, at_lit, at_odd, at_seen, lits, knowns, odds, hots, seen, active, SameFlags, SameStacks}

-- l detectors, and a place for each in every table
pub record Lighting (d : ℕ) (defects : List ℕ) (l : ℕ) (lit odd known hot : List Bool) (active seen : List ℕ) : Type 0 where
  pub few : l ≤ length defects
  pub inside : (i : ℕ) → i < l → get_or defects i 0 < d
  pub lit_long : length lit ≡ d
  pub odd_long : length odd ≡ d
  pub known_long : length known ≡ d
  pub hot_long : length hot ≡ d
  pub actives : l ≤ length active
  pub seens : l ≤ length seen

-- the tables have the detectors xs besides
pub record LitBy (xs : List ℕ) (l : ℕ) (lit odd known hot lit' odd' known' hot' : List Bool) (active' seen' : List ℕ) : Type 0 where
  pub lit_is : (x : ℕ) → get_or lit' x false ≡ (get_or lit x false || member x xs)
  pub odd_is : (x : ℕ) → get_or odd' x false ≡ (get_or odd x false || member x xs)
  pub known_is : (x : ℕ) → get_or known' x false ≡ (get_or known x false || member x xs)
  pub hot_is : (x : ℕ) → get_or hot' x false ≡ (get_or hot x false || member x xs)
  pub active_is : take l active' ≡ xs
  pub seen_is : take l seen' ≡ xs

-- the detector k is lit, and an active cluster
pub record Lighted (f : List Flags) (k : ℕ) (f' : List Flags) : Type 0 where
  pub lit_is : lits f' ≡ set (lits f) k true
  pub odd_is : odds f' ≡ set (odds f) k true
  pub known_is : knowns f' ≡ set (knowns f) k true
  pub hot_is : hots f' ≡ set (hots f) k true
  pub kept : SameFlags (at_lit ∷ at_known ∷ at_odd ∷ at_hot ∷ []) f f'

-- x is the active cluster i, and the detector i that is seen
pub record Pushed (s : List Stack) (i x : ℕ) (s' : List Stack) : Type 0 where
  pub active_is : active s' ≡ set (active s) i x
  pub seen_is : seen s' ≡ set (seen s) i x
  pub kept : SameStacks (at_seen ∷ at_active ∷ []) s s'
