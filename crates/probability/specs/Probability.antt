-- p is added to entries of a column of probabilities.
use Rattle.std.specs.Prelude.{ℕ, List, [], ◌∷◌, get_or, set, Float}
use Rattle.std.specs.Float.{nan}
use Rattle.dem.specs.Decompose.{plus}

-- to entry k
unfoldable pub raised_at : Float → ℕ → List Float → List Float
unfolding plus
raised_at p k xs = set xs k (plus (get_or xs k nan) p)

-- and to each of a list of entries, in order
unfoldable pub raised_all : Float → List ℕ → List Float → List Float
unfolding raised_at
raised_all p [] xs = xs
raised_all p (k ∷ ks) xs = raised_all p ks (raised_at p k xs)
