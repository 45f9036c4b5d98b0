-- The edges so far in chains, one for each first detector: from the last edge to the one before it.
use Rattle.std.specs.Prelude.{Option, Some, None}
use Rattle.std.specs.Prelude.{ℕ, zero, suc, ◌<◌, ◌≡◌, List, Bool, false, cond, ◌&&◌, length, get_or, eqb}

-- the end of a chain
abbrev pub chain_end : ℕ
chain_end = 4294967295

-- the last of the first n edges whose first end is a
unfoldable pub last_with : List ℕ → ℕ → ℕ → ℕ
last_with us a zero = chain_end
last_with us a (suc e) = cond (eqb (get_or us e 0) a) e (last_with us a e)

-- edge e has the ends a and b
abbrev pub same_ends : List ℕ → List ℕ → ℕ → ℕ → ℕ → Bool
same_ends us vs a b e = eqb (get_or us e 0) a && eqb (get_or vs e 0) b

-- the last of the first n edges with the ends a and b
unfoldable pub last_ends : List ℕ → List ℕ → ℕ → ℕ → ℕ → Option ℕ
last_ends us vs a b zero = None
last_ends us vs a b (suc e) = cond (same_ends us vs a b e) (Some e) (last_ends us vs a b e)

-- n edges with the ends us and vs, no two of them with the same, in their chains
pub record Chained (n : ℕ) (us vs first next : List ℕ) : Type 0 where
  pub few : n < chain_end
  pub starts : (a : ℕ) → a < length first → get_or first a 0 ≡ last_with us a n
  pub goes_on : (e : ℕ) → e < n → get_or next e 0 ≡ last_with us (get_or us e 0) e
  pub distinct : (i j : ℕ) → i < j → j < n → same_ends us vs (get_or us j 0) (get_or vs j 0) i ≡ false
