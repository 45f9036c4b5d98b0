-- What compiling leaves in the lent tables.
use Rattle.std.specs.Prelude.{ℕ, ◌+◌, ◌*◌, ◌≤◌, ◌<◌, ◌≡◌, List, [], ◌∷◌, ◌++◌, map, cond, ltb, length, get_or, take, drop, Float}
use Rattle.bits.specs.Rows.{words}
use Rattle.weight.specs.Weight.{weight_of}
use Rattle.codes.specs.Limits.{max_observables, max_mechanisms}
use Rattle.dem.specs.Tables.{written}
use Rattle.steps.specs.Graph.{boundary}
use Rattle.edges.specs.Compile.{Edge, share, obs_row}

-- the four tables of the graph, and the probability of each edge
pub record Slices : Type 0 where
  pub edge_u : List ℕ
  pub edge_v : List ℕ
  pub edge_weight : List Float
  pub edge_obs : List ℕ
  pub edge_p : List Float

abbrev pub slices : List ℕ → List ℕ → List Float → List ℕ → List Float → Slices
slices u v weight obs p = record { edge_u = u; edge_v = v; edge_weight = weight; edge_obs = obs; edge_p = p }

-- rows one after the other
unfoldable pub flat : List (List ℕ) → List ℕ
flat [] = []
flat (row ∷ rows) = row ++ flat rows

-- row e of w words, written over
unfoldable pub put_row : ℕ → ℕ → List ℕ → List ℕ → List ℕ
put_row w e obs row = take (e * w) obs ++ (row ++ drop (e * w + w) obs)

-- the edges at the front of every table, then the old contents
unfoldable pub filled : ℕ → List Edge → Slices → Slices
unfolding weight_of obs_row flat
filled o es was = record {
  edge_u = written (map (λ e. e.u) es) was.edge_u;
  edge_v = written (map (λ e. e.v) es) was.edge_v;
  edge_weight = written (map (λ e. weight_of e.probability) es) was.edge_weight;
  edge_obs = written (flat (map (λ e. obs_row o e.observables) es)) was.edge_obs;
  edge_p = written (map (λ e. e.probability) es) was.edge_p;
}

-- an edge with the ends a and b
abbrev pub edge_with : ℕ → ℕ → Float → List ℕ → Edge
edge_with a b p obs = record { u = a; v = b; probability = p; observables = obs }

-- the tables have a place n for one edge more
pub record Room (o n : ℕ) (t : Slices) (next : List ℕ) : Type 0 where
  pub observables : o ≤ max_observables
  pub few : n < max_mechanisms
  pub ends : n < length t.edge_u
  pub others : n < length t.edge_v
  pub weights : n < length t.edge_weight
  pub rows : n * words o + words o ≤ length t.edge_obs
  pub probabilities : n < length t.edge_p
  pub chains : n < length next

-- where the n edges at the front of the tables are es, they are `share new es` after
abbrev pub Shares : ℕ → ℕ → Edge → ℕ → Slices → Slices → Type 0
Shares o n new r entry exit = (es : List Edge) (was : Slices) → length es ≡ n → entry ≡ filled o es was → (r ≡ length (share new es)) × (exit ≡ filled o (share new es) was)

-- the second end of an edge whose d detectors stand at an entry: the boundary where there is one
abbrev pub second_end : ℕ → ℕ → List ℕ → ℕ
second_end d at entries = cond (ltb d 2) boundary (get_or entries (at + 1) 0)
