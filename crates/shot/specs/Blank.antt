-- A shot with no bit set.
use Rattle.std.specs.Prelude.{ℕ, List, Bool, not, eqb}
use Rattle.lists.specs.Lists.{any}

-- no word of a row has a bit set
abbrev pub is_blank : List ℕ → Bool
is_blank row = not (any (λ w. not (eqb w 0)) row)
