-- The edge graph: docs/RULES.md, "Graphs".
use Rattle.std.specs.Prelude.{ℕ, ◌<◌, ◌≡◌, List, Bool, true, not, ◌&&◌, ◌||◌, length, get_or, eqb, Float}
use Rattle.lists.specs.Lists.{below, odd}

-- the second end of a boundary edge
abbrev pub boundary : ℕ
boundary = 4294967295

-- D detectors, O observables, and four tables of which row e is edge e
pub record Graph : Type 0 where
  pub detectors : ℕ
  pub observables : ℕ
  -- the two ends; the second is `boundary` for a boundary edge
  pub edge_u : List ℕ
  pub edge_v : List ℕ
  pub edge_weight : List Float
  -- the observables that the edge flips, as a row of words
  pub edge_obs : List (List ℕ)

module _ (g : Graph) where
  abbrev pub inner : ℕ → ℕ
  inner e = get_or g.edge_u e boundary

  abbrev pub outer : ℕ → ℕ
  outer e = get_or g.edge_v e boundary

  -- the edges, by number
  abbrev pub edges : List ℕ
  edges = below (length g.edge_u)

  -- edge e joins two detectors
  abbrev pub is_pair : ℕ → Bool
  is_pair e = not (eqb (outer e) boundary)

  -- edge e ends at detector d
  abbrev pub ends : ℕ → ℕ → Bool
  ends e d = eqb (inner e) d || (is_pair e && eqb (outer e) d)

  -- an odd number of the edges of the list end at d
  abbrev pub flipped : List ℕ → ℕ → Bool
  flipped es d = odd (λ e. ends e d) es

-- what the check of a lent graph leaves true of the ends
pub record Ends (g : Graph) : Type 0 where
  pub as_many : length g.edge_v ≡ length g.edge_u
  pub small : g.detectors < boundary
  pub inside : (e : ℕ) → e < length g.edge_u → inner g e < g.detectors
  pub paired : (e : ℕ) → e < length g.edge_u → is_pair g e ≡ true → (inner g e < outer g e) × (outer g e < g.detectors)
