-- What every call on a lent graph checks: docs/RULES.md, "Graphs" and "Refusals".
use Rattle.std.specs.Prelude.{ℕ, List, Bool, not, ◌&&◌, eqb, Float}
use Rattle.lists.specs.Lists.{below}
use Rattle.codes.specs.declared.Refusal.TheVariants.{Short, Width}
use Rattle.codes.specs.Order.{Checked, refuse_if, and_then}
use Rattle.codes.specs.Limits.{check_counts, check_shots}
use Rattle.packed.specs.Packed.{check_packed}
use Rattle.steps.specs.Graph.{Graph}
use Rattle.steps.specs.Call.{graph_of, check_edges}
use Rattle.lent_graph.specs.Lent.{tables_long}

-- a lent graph as it is handed in: three counts and four tables
pub record Lent : Type 0 where
  pub detectors : ℕ
  pub observables : ℕ
  pub edges : ℕ
  pub u : List ℕ
  pub v : List ℕ
  pub weight : List Float
  pub obs : List ℕ

abbrev pub lent_of : ℕ → ℕ → ℕ → List ℕ → List ℕ → List Float → List ℕ → Lent
lent_of d o n u v weight obs = record { detectors = d; observables = o; edges = n; u = u; v = v; weight = weight; obs = obs }

-- of shots for D detectors: 8, 9, then 10
unfoldable pub check_rows : ℕ → List ℕ → ℕ → ℕ → Checked
unfolding check_packed
check_rows d rows shots width = and_then (check_packed rows shots width) (refuse_if (not (eqb width d)) Width)

module _ (l : Lent) where
  abbrev pub graph_in : Graph
  graph_in = graph_of l.detectors l.observables l.edges l.u l.v l.weight l.obs

  abbrev pub tables_in : Bool
  tables_in = tables_long l.observables l.edges l.u l.v l.weight l.obs

  -- 1, 2 (the tables, and whether the call's own slices are long enough), the graph, then 8, 9, 10
  unfoldable pub check_call : Bool → List ℕ → ℕ → ℕ → Checked
  unfolding check_counts check_shots tables_long graph_of check_edges below check_rows
  check_call long rows shots width =
      and_then (check_counts l.detectors l.observables l.edges)
      (and_then (check_shots shots)
      (and_then (refuse_if (not (tables_in && long)) Short)
      (and_then (check_edges graph_in (below l.edges)) (check_rows l.detectors rows shots width))))
