-- The observables that a list of edges flips: the words of each edge, by exclusive or into a row.
use Rattle.std.specs.Prelude.{ℕ, ◌*◌, ◌<◌, ◌≤◌, ◌≡◌, List, [], ◌∷◌, length, get_or, take, drop}
use Rattle.steps.specs.Graph.{Graph}
use Rattle.bits.specs.Rows.{words, xor_row}

-- the w words of edge e
abbrev pub words_of : ℕ → List ℕ → ℕ → List ℕ
words_of w obs e = take w (drop (e * w) obs)

-- the words of each edge in turn
unfoldable pub flip_all : ℕ → List ℕ → List ℕ → List ℕ → List ℕ
unfolding xor_row
flip_all w obs row [] = row
flip_all w obs row (e ∷ es) = flip_all w obs (xor_row row (words_of w obs e)) es

-- the first n entries of list are edges of a table of m edges, w words each; the row may be longer than its w words
pub record Edges (m w : ℕ) (obs row list : List ℕ) (n : ℕ) : Type 0 where
  pub table : m * w ≤ length obs
  pub wide : w ≤ length row
  pub few : n ≤ length list
  pub known : (i : ℕ) → i < n → get_or list i 0 < m

-- obs has the words of the graph's edges, w for each
pub record Flat (g : Graph) (w : ℕ) (obs : List ℕ) : Type 0 where
  pub wide : w ≡ words g.observables
  pub table : length g.edge_u * w ≤ length obs
  pub each : (e : ℕ) → e < length g.edge_u → get_or g.edge_obs e [] ≡ words_of w obs e
