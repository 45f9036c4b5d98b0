-- What the rate checks before it decodes: docs/RULES.md, "The rate".
use Rattle.std.specs.Prelude.{ℕ, List, Bool, not, ◌&&◌, eqb}
use Rattle.lists.specs.Lists.{below}
use Rattle.codes.specs.declared.Refusal.TheVariants.{Short, Width}
use Rattle.codes.specs.Order.{Checked, refuse_if, and_then}
use Rattle.codes.specs.Limits.{check_counts, check_shots}
use Rattle.packed.specs.Packed.{check_packed}
use Rattle.steps.specs.Call.{check_edges}
use Rattle.lent_graph.specs.Call.{Lent, graph_in, tables_in}

-- of shots for D detectors and true observables: both packings (8, 9), detectors first, then the width (10)
unfoldable pub check_both : ℕ → List ℕ → ℕ → ℕ → List ℕ → ℕ → ℕ → Checked
unfolding check_packed
check_both d rows shots width truth true_shots true_width =
    and_then (check_packed rows shots width) (and_then (check_packed truth true_shots true_width) (refuse_if (not (eqb width d)) Width))

-- 1 (the counts, the shots, the true shots), 2 (the tables, and whether the call's own slices are long enough), the graph, then 8, 9, 10
unfoldable pub check_rate : Lent → Bool → List ℕ → ℕ → ℕ → List ℕ → ℕ → ℕ → Checked
unfolding check_counts check_shots check_edges below check_both
check_rate l long rows shots width truth true_shots true_width =
    and_then (check_counts l.detectors l.observables l.edges)
    (and_then (check_shots shots)
    (and_then (check_shots true_shots)
    (and_then (refuse_if (not (tables_in l && long)) Short)
    (and_then (check_edges (graph_in l) (below l.edges)) (check_both l.detectors rows shots width truth true_shots true_width)))))
