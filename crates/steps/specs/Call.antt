-- What a call reads and leaves: the lent tables as a graph, its check, the shot in a row of words, the list and the rows.
use Rattle.std.specs.Prelude.{Ok, ℕ, ◌*◌, ◌≡◌, List, [], ◌∷◌, ◌++◌, map, Bool, not, ◌&&◌, ◌||◌, length, get_or, take, drop, eqb, ltb, Float}
use Rattle.std.specs.Float.{nan}
use Rattle.lists.specs.Lists.{below}
use Rattle.bits.specs.Rows.{words, bits_of, is_clear}
use Rattle.weight.specs.Weight.{weight_fits}
use Rattle.codes.specs.declared.Refusal.TheVariants.{Probability, Index}
use Rattle.codes.specs.Order.{Checked, refuse_if, and_then}
use Rattle.codes.specs.Limits.{check_counts}
use Rattle.steps.specs.Graph.{Graph, inner, outer, edges, is_pair}
use Rattle.steps.specs.Shot.{Decoded, impossible, corrected}
use Rattle.steps.specs.Marker.{Marked, pass, differs, unfit}

-- ---- what is read

-- the graph of D detectors, O observables and n edges in lent tables: one entry an edge, and words(O) words of observables
unfoldable pub graph_of : ℕ → ℕ → ℕ → List ℕ → List ℕ → List Float → List ℕ → Graph
unfolding words below
graph_of d o n u v weight obs = record {
  detectors = d;
  observables = o;
  edge_u = take n u;
  edge_v = take n v;
  edge_weight = take n weight;
  edge_obs = map (λ e. take (words o) (drop (e * words o) obs)) (below n);
}

-- detector d is lit if its bit is set in the row as handed in
abbrev pub lit_of : ℕ → List ℕ → List Bool
lit_of d row = bits_of d row

-- ---- the check of a lent graph

-- both ends are detectors, the first below the second, or the second is the boundary
unfoldable pub ends_fit : Graph → ℕ → Bool
ends_fit g e = ltb (inner g e) g.detectors && (not (is_pair g e) || (ltb (inner g e) (outer g e) && ltb (outer g e) g.detectors))

-- the observables are a row of words(O) words, with no bit past O
unfoldable pub observables_fit : Graph → ℕ → Bool
unfolding words is_clear
observables_fit g e = eqb (length (get_or g.edge_obs e [])) (words g.observables) && is_clear g.observables (get_or g.edge_obs e [])

-- of one edge: 5, then 4
unfoldable pub check_edge : Graph → ℕ → Checked
unfolding ends_fit observables_fit weight_fits
check_edge g e =
    and_then
    (refuse_if (not (ends_fit g e && observables_fit g e)) (Index e))
    (refuse_if (not (weight_fits (get_or g.edge_weight e nan))) (Probability e))

-- edge by edge
unfoldable pub check_edges : Graph → List ℕ → Checked
unfolding check_edge
check_edges g [] = Ok tt
check_edges g (e ∷ es) = and_then (check_edge g e) (check_edges g es)

-- "A graph within the limits that passes is accepted"; a lent graph has an entry for each edge in every table
pub record AcceptedGraph (g : Graph) : Type 0 where
  pub limits : check_counts g.detectors g.observables (length g.edge_u) ≡ Ok tt
  pub ends_table : length g.edge_v ≡ length g.edge_u
  pub weight_table : length g.edge_weight ≡ length g.edge_u
  pub obs_table : length g.edge_obs ≡ length g.edge_u
  pub passes : check_edges g (edges g) ≡ Ok tt

-- ---- what is left

-- the correction list, written from the start of a slice that may be longer; a Stuck shot's is untouched
unfoldable pub list_left : List ℕ → Decoded → List ℕ
list_left was (impossible n d) = was
list_left was (corrected n list) = list ++ drop (length list) was

-- the marker's row, written on Pass alone
unfoldable pub row_marked : List ℕ → Marked → List ℕ
row_marked was (pass row) = row ++ drop (length row) was
row_marked was (differs d) = was
row_marked was unfit = was
