-- The tables of edges and the scratch of compiling as structs of slices: the same ones after a call as before it.
use Rattle.std.specs.Prelude.{ℕ, ◌≡◌, List, false, pos, length, replicate, Float}
use Rattle.std.specs.Float.{fin}
use Rattle.edges.specs.declared.EdgeTables.{EdgeTables}
use Rattle.edges.specs.declared.Scratch.{Scratch}
use Rattle.edges.specs.Tables.{Slices, slices, Room}
use Rattle.edges.specs.Chains.{Chained}

-- the four tables, and the probabilities ps of their edges
abbrev pub slices_of : EdgeTables → List Float → Slices
slices_of t ps = slices t.edge_u.now t.edge_v.now t.edge_weight.now t.edge_obs.now ps

-- the first n edges in their chains, and a place for one more
abbrev pub ChainedIn : ℕ → EdgeTables → Scratch → Type 0
ChainedIn n t s = Chained n t.edge_u.now t.edge_v.now s.first.now s.next.now

abbrev pub RoomIn : ℕ → ℕ → EdgeTables → Scratch → Type 0
RoomIn o n t s = Room o n (slices_of t s.edge_p.now) s.next.now

-- each table zero, whole
pub record Zeroed (t t' : EdgeTables) : Type 0 where
  pub edge_u : t'.edge_u.now ≡ replicate (length t.edge_u.now) 0
  pub edge_v : t'.edge_v.now ≡ replicate (length t.edge_v.now) 0
  pub edge_weight : t'.edge_weight.now ≡ replicate (length t.edge_weight.now) (fin false 0 (pos 0))
  pub edge_obs : t'.edge_obs.now ≡ replicate (length t.edge_obs.now) 0

-- each slice is the one that was lent, and as long
pub record SameEdges (t t' : EdgeTables) : Type 0 where
  pub edge_u : t'.edge_u.ghost_name ≡ t.edge_u.ghost_name
  pub edge_v : t'.edge_v.ghost_name ≡ t.edge_v.ghost_name
  pub edge_weight : t'.edge_weight.ghost_name ≡ t.edge_weight.ghost_name
  pub edge_obs : t'.edge_obs.ghost_name ≡ t.edge_obs.ghost_name
  pub edge_u_long : length t'.edge_u.now ≡ length t.edge_u.now
  pub edge_v_long : length t'.edge_v.now ≡ length t.edge_v.now
  pub edge_weight_long : length t'.edge_weight.now ≡ length t.edge_weight.now
  pub edge_obs_long : length t'.edge_obs.now ≡ length t.edge_obs.now

pub record SameScratch (t t' : Scratch) : Type 0 where
  pub edge_p : t'.edge_p.ghost_name ≡ t.edge_p.ghost_name
  pub first : t'.first.ghost_name ≡ t.first.ghost_name
  pub next : t'.next.ghost_name ≡ t.next.ghost_name
  pub edge_p_long : length t'.edge_p.now ≡ length t.edge_p.now
  pub first_long : length t'.first.now ≡ length t.first.now
  pub next_long : length t'.next.now ≡ length t.next.now
