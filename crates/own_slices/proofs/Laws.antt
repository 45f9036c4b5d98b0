-- What the edges at each detector are worked out from, and what a shot asks of an accepted call.
use Prim.Native.Nat.{ℕ, ◌+◌, ◌*◌, ◌≤◌}
use native.Mathlib.Omega.{arith}
use mathlib.Core.List.{List}
use mathlib.Core.Bool.{Bool}
use lib.Ieee.{Float}
use lib.ListN.{length}
use Rattle.steps.specs.Call.{graph_of}
use Rattle.found.proofs.Accepted.{accepted_weights}
use Rattle.adjacency.specs.declared.Neighbor.{Neighbor}
use Rattle.adjacency.specs.Pairs.{Tabled, AdjacentParts}
use Rattle.lent_graph.specs.Call.{lent_of}
use Rattle.lent_graph.specs.Accepts.{Accepts}
use Rattle.shot.specs.Longer.{Longer}

module _ {d o n : ℕ} {u v : List ℕ} {weight : List Float} {obs : List ℕ} {own : Bool} {rows : List ℕ} {shots width : ℕ} (a : Accepts (lent_of d o n u v weight obs) own rows shots width) where
  -- what the edges at each detector are worked out from
  pub to_tabulate : (off : List ℕ) (adj : List Neighbor) → d + 1 ≤ length off → 2 * n ≤ length adj → Tabled d n u v off adj
  unfolding graph_of
  to_tabulate off adj p q =
      let k = a.ends in
      record {
        ends = record { as_many = k.as_many; small = k.small; inside = k.inside; paired = k.paired };
        few = omega (arith, a.few_edges);
        firsts = a.u_long;
        others = a.v_long;
        offs = p;
        rows = q;
      }

  -- with them, what a shot asks
  pub longer : (off : List ℕ) (adj : List Neighbor) → d + 1 ≤ length off → AdjacentParts d n u v off adj → Longer d o n u v weight obs off adj
  longer off adj p t = record {
    ends = a.ends;
    fits = accepted_weights (graph_of d o n u v weight obs) a.graph;
    firsts = a.u_long;
    others = a.v_long;
    weights = a.weight_long;
    rows = a.obs_long;
    few = omega (arith, a.few_edges);
    offs = p;
    adjacent = t;
  }
