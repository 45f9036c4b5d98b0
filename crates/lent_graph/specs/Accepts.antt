-- What an accepted call leaves true. Each statement is proved in proofs/ under the same name in small letters.
use Rattle.std.specs.Prelude.{Ok, ℕ, ◌+◌, ◌*◌, ◌≤◌, ◌<◌, ◌≡◌, List, [], Bool, true, length, get_or}
use Rattle.bits.specs.Rows.{words, is_clear}
use Rattle.codes.specs.Limits.{max_detectors, max_observables, max_mechanisms, max_shots}
use Rattle.packed.specs.Packed.{row_at}
use Rattle.steps.specs.Graph.{Ends, inner, outer}
use Rattle.steps.specs.Call.{AcceptedGraph}
use Rattle.lent_graph.specs.Call.{Lent, graph_in, check_call}

-- edge e of the graph, in the tables
pub record EdgeIn (l : Lent) (e : ℕ) : Type 0 where
  pub first : inner (graph_in l) e ≡ get_or l.u e 0
  pub second : outer (graph_in l) e ≡ get_or l.v e 0
  pub row : get_or (graph_in l).edge_obs e [] ≡ row_at (words l.observables) l.obs e
  pub row_long : length (get_or (graph_in l).edge_obs e []) ≡ words l.observables
  pub row_clear : is_clear l.observables (get_or (graph_in l).edge_obs e []) ≡ true

-- all that a decoder, a marker and a batch take from the check
pub record Accepts (l : Lent) (long : Bool) (rows : List ℕ) (shots width : ℕ) : Type 0 where
  -- the limits
  pub few_detectors : l.detectors ≤ max_detectors
  pub few_observables : l.observables ≤ max_observables
  pub few_edges : l.edges ≤ max_mechanisms
  pub few_shots : shots ≤ max_shots
  -- the tables, and the call's own slices
  pub u_long : l.edges ≤ length l.u
  pub v_long : l.edges ≤ length l.v
  pub weight_long : l.edges ≤ length l.weight
  pub obs_long : l.edges * words l.observables ≤ length l.obs
  pub own_long : long ≡ true
  -- the graph
  pub graph : AcceptedGraph (graph_in l)
  pub ends : Ends (graph_in l)
  pub counted : length (graph_in l).edge_u ≡ l.edges
  pub edge : (e : ℕ) → e < l.edges → EdgeIn l e
  -- the shots: width D, a word per 64 bits begun, each row within the data, no padding set
  pub wide : width ≡ l.detectors
  pub rows_long : length rows ≡ shots * words l.detectors
  pub row_ends : (s : ℕ) → s < shots → (s + 1) * words l.detectors ≤ length rows
  pub row_long : (s : ℕ) → s < shots → length (row_at (words l.detectors) rows s) ≡ words l.detectors
  pub row_clear : (s : ℕ) → s < shots → is_clear l.detectors (row_at (words l.detectors) rows s) ≡ true

abbrev pub CallAccepted : Type 0
CallAccepted = (l : Lent) (long : Bool) (rows : List ℕ) (shots width : ℕ) → check_call l long rows shots width ≡ Ok tt → Accepts l long rows shots width
