-- The same slices after one call and the next.
use mathlib.Core.Path.{◌∙◌, refl}
use Rattle.cells.specs.declared.Tables.{Tables}
use Rattle.cells.specs.Lent.{SameSlices}

pub same_none : (t : Tables) → SameSlices t t
same_none t = record { tree = refl; flags = refl; stacks = refl; links = refl; growth = refl; sat = refl; tree_long = refl; flags_long = refl; stacks_long = refl; links_long = refl; growth_long = refl; sat_long = refl }

pub same_then : {t t' t'' : Tables} → SameSlices t t' → SameSlices t' t'' → SameSlices t t''
same_then a b = record {
  tree = b.tree ∙ a.tree;
  flags = b.flags ∙ a.flags;
  stacks = b.stacks ∙ a.stacks;
  links = b.links ∙ a.links;
  growth = b.growth ∙ a.growth;
  sat = b.sat ∙ a.sat;
  tree_long = b.tree_long ∙ a.tree_long;
  flags_long = b.flags_long ∙ a.flags_long;
  stacks_long = b.stacks_long ∙ a.stacks_long;
  links_long = b.links_long ∙ a.links_long;
  growth_long = b.growth_long ∙ a.growth_long;
  sat_long = b.sat_long ∙ a.sat_long;
}
