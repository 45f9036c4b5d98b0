-- The scratch slices as a struct: the same ones after a call as before it.
use Rattle.std.specs.Prelude.{◌≡◌, length}
use Rattle.cells.specs.Lent.{SameSlices}
use Rattle.scratch.specs.declared.Scratch.{Scratch}

-- each slice is the one that was lent, and as long
pub record SameScratch (s s' : Scratch) : Type 0 where
  pub adj_offsets : s'.adj_offsets.ghost_name ≡ s.adj_offsets.ghost_name
  pub adj : s'.adj.ghost_name ≡ s.adj.ghost_name
  pub adj_offsets_long : length s'.adj_offsets.now ≡ length s.adj_offsets.now
  pub adj_long : length s'.adj.now ≡ length s.adj.now
  pub tables : SameSlices s.tables s'.tables
