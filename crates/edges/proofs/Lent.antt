-- The same slices after one call and the next.
use mathlib.Core.Path.{◌∙◌, refl}
use Rattle.edges.specs.declared.EdgeTables.{EdgeTables}
use Rattle.edges.specs.declared.Scratch.{Scratch}
use Rattle.edges.specs.Lent.{SameEdges, SameScratch}

pub edges_none : (t : EdgeTables) → SameEdges t t
edges_none t = record { edge_u = refl; edge_v = refl; edge_weight = refl; edge_obs = refl; edge_u_long = refl; edge_v_long = refl; edge_weight_long = refl; edge_obs_long = refl }

pub edges_then : {t t' t'' : EdgeTables} → SameEdges t t' → SameEdges t' t'' → SameEdges t t''
edges_then a b = record {
  edge_u = b.edge_u ∙ a.edge_u;
  edge_v = b.edge_v ∙ a.edge_v;
  edge_weight = b.edge_weight ∙ a.edge_weight;
  edge_obs = b.edge_obs ∙ a.edge_obs;
  edge_u_long = b.edge_u_long ∙ a.edge_u_long;
  edge_v_long = b.edge_v_long ∙ a.edge_v_long;
  edge_weight_long = b.edge_weight_long ∙ a.edge_weight_long;
  edge_obs_long = b.edge_obs_long ∙ a.edge_obs_long;
}

pub scratch_none : (t : Scratch) → SameScratch t t
scratch_none t = record { edge_p = refl; first = refl; next = refl; edge_p_long = refl; first_long = refl; next_long = refl }

pub scratch_then : {t t' t'' : Scratch} → SameScratch t t' → SameScratch t' t'' → SameScratch t t''
scratch_then a b = record {
  edge_p = b.edge_p ∙ a.edge_p;
  first = b.first ∙ a.first;
  next = b.next ∙ a.next;
  edge_p_long = b.edge_p_long ∙ a.edge_p_long;
  first_long = b.first_long ∙ a.first_long;
  next_long = b.next_long ∙ a.next_long;
}
