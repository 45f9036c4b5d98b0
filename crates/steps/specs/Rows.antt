-- Rows of observables: the XOR of what the edges of a list flip.
use Rattle.std.specs.Prelude.{ℕ, List, [], ◌∷◌, get_or, replicate}
use Rattle.bits.specs.Rows.{words, xor_row}
use Rattle.steps.specs.Graph.{Graph}

-- the zero row
unfoldable pub zeros : Graph → List ℕ
unfolding words
zeros g = replicate (words g.observables) 0

-- the XOR of the edges' observables; of no edges it is zero
unfoldable pub row_of : Graph → List ℕ → List ℕ
unfolding xor_row zeros
row_of g [] = zeros g
row_of g (e ∷ es) = xor_row (row_of g es) (get_or g.edge_obs e [])
