-- The tables of a shot as a struct of slices: the same ones after a call as before it.
use Rattle.std.specs.Prelude.{◌≡◌, length}
use Rattle.cells.specs.declared.Tables.{Tables}

-- each slice is the one that was lent, and as long
pub record SameSlices (t t' : Tables) : Type 0 where
  pub tree : t'.tree.ghost_name ≡ t.tree.ghost_name
  pub flags : t'.flags.ghost_name ≡ t.flags.ghost_name
  pub stacks : t'.stacks.ghost_name ≡ t.stacks.ghost_name
  pub links : t'.links.ghost_name ≡ t.links.ghost_name
  pub growth : t'.growth.ghost_name ≡ t.growth.ghost_name
  pub sat : t'.sat.ghost_name ≡ t.sat.ghost_name
  pub tree_long : length t'.tree.now ≡ length t.tree.now
  pub flags_long : length t'.flags.now ≡ length t.flags.now
  pub stacks_long : length t'.stacks.now ≡ length t.stacks.now
  pub links_long : length t'.links.now ≡ length t.links.now
  pub growth_long : length t'.growth.now ≡ length t.growth.now
  pub sat_long : length t'.sat.now ≡ length t.sat.now
