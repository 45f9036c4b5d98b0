-- What the passes of the marker leave in their scratch rows, and what they read off them.
use Rattle.std.specs.Prelude.{ℕ, ◌+◌, ◌*◌, ◌/◌, ◌≤◌, ◌<◌, ◌≡◌, List, [], ◌∷◌, cond, true, false, eqb, length, get_or, replicate, Option, Some, None}
use Rattle.lists.specs.Lists.{member}
use Rattle.bits.specs.Rows.{words, bit, is_clear, set_bit, flip_bit, xor_row}
use Rattle.codes.specs.Limits.{max_detectors}
use Rattle.packed.specs.Packed.{row_at}
use Rattle.steps.specs.Graph.{Graph, Ends, boundary, inner, outer}
use Rattle.steps.specs.Call.{graph_of}

-- a graph of ends alone: D detectors and the first n edges of the tables
abbrev pub ends_graph : ℕ → ℕ → List ℕ → List ℕ → Graph
ends_graph d n u v = graph_of d 0 n u v [] []

-- the edges of a list that were met, set in a row
unfoldable pub met_after : List ℕ → List ℕ → List ℕ
unfolding set_bit
met_after row [] = row
met_after row (e ∷ es) = set_bit (met_after row es) e

-- a row with the ends of an edge flipped; the boundary is no detector
unfoldable pub flip_ends : List ℕ → ℕ → ℕ → List ℕ
unfolding flip_bit
flip_ends row u v = cond (eqb v boundary) (flip_bit row u) (flip_bit (flip_bit row u) v)

-- the wrong detectors: the shot with the ends of each edge of a list flipped
unfoldable pub wrong_after : Graph → List ℕ → List ℕ → List ℕ
unfolding flip_ends
wrong_after g row [] = row
wrong_after g row (e ∷ es) = flip_ends (wrong_after g row es) (inner g e) (outer g e)

-- the first of the set bits, ascending
abbrev pub lowest_of : List ℕ → Option ℕ
lowest_of [] = None
lowest_of (d ∷ ds) = Some d

-- the XOR of rows of w words, of edges numbered by the list; of no edges it is zero
unfoldable pub xor_rows : ℕ → List ℕ → List ℕ → List ℕ
unfolding xor_row
xor_rows w obs [] = replicate w 0
xor_rows w obs (e ∷ es) = xor_row (xor_rows w obs es) (row_at w obs e)

-- ---- what the passes ask for

-- both ends of edge e have a place in the row
pub record EndsFit (u v wrong : List ℕ) (e : ℕ) : Type 0 where
  pub near : get_or u e 0 / 64 < length wrong
  pub far : (get_or v e 0 ≡ boundary → ⊥) → get_or v e 0 / 64 < length wrong

-- n edges in the tables, none of them met yet
pub record Unmet (n : ℕ) (u v marks wrong : List ℕ) : Type 0 where
  pub u_long : n ≤ length u
  pub v_long : n ≤ length v
  pub place : (e : ℕ) → e < n → e / 64 < length marks
  pub clear : (e : ℕ) → bit marks e ≡ false
  pub ends : (e : ℕ) → e < n → EndsFit u v wrong e

-- an accepted graph's ends, a shot of its width, and scratch rows of as many words as the edges and the detectors need
pub record Ready (d n : ℕ) (u v shot marks wrong : List ℕ) : Type 0 where
  pub few : d ≤ max_detectors
  pub u_long : n ≤ length u
  pub v_long : n ≤ length v
  pub ends : Ends (ends_graph d n u v)
  pub shot_long : length shot ≡ words d
  pub shot_clear : is_clear d shot ≡ true
  pub marks_long : length marks ≡ words n
  pub wrong_long : length wrong ≡ words d

-- the row of each listed edge ends within the table
abbrev pub InTable : ℕ → List ℕ → List ℕ → Type 0
InTable w obs list = (e : ℕ) → member e list ≡ true → e * w + w ≤ length obs
