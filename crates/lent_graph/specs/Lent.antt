-- The check of a lent graph: docs/RULES.md, "Graphs" and "Refusals".
use Rattle.std.specs.Prelude.{ℕ, ◌*◌, List, Bool, not, ◌&&◌, ◌||◌, length, eqb, leb, ltb, Float}
use Rattle.lists.specs.Lists.{below}
use Rattle.bits.specs.Rows.{words, is_clear}
use Rattle.weight.specs.Weight.{weight_fits}
use Rattle.codes.specs.declared.Refusal.TheVariants.{Short, Probability, Index}
use Rattle.codes.specs.Order.{Checked, refuse_if, and_then}
use Rattle.codes.specs.Limits.{check_counts}
use Rattle.steps.specs.Graph.{boundary}
use Rattle.steps.specs.Call.{graph_of, check_edges}

-- both ends are detectors, the first below the second, or the second is the boundary
unfoldable pub ends_of : ℕ → ℕ → ℕ → Bool
ends_of d u v = ltb u d && (eqb v boundary || (ltb u v && ltb v d))

-- of edge e with these ends, weight and row of observables: 5, then 4
unfoldable pub check_row : ℕ → ℕ → ℕ → ℕ → ℕ → Float → List ℕ → Checked
unfolding ends_of is_clear weight_fits
check_row d o e u v weight row = and_then (refuse_if (not (ends_of d u v && is_clear o row)) (Index e)) (refuse_if (not (weight_fits weight)) (Probability e))

-- an entry for each of the edges in three tables, and their words of observables in the fourth
unfoldable pub tables_long : ℕ → ℕ → List ℕ → List ℕ → List Float → List ℕ → Bool
unfolding words
tables_long o edges u v weight obs = leb edges (length u) && (leb edges (length v) && (leb edges (length weight) && leb (edges * words o) (length obs)))

-- 1, 2, then edge by edge
unfoldable pub check_lent : ℕ → ℕ → ℕ → List ℕ → List ℕ → List Float → List ℕ → Checked
unfolding check_counts tables_long graph_of check_edges below
check_lent d o edges u v weight obs =
    and_then (check_counts d o edges)
    (and_then (refuse_if (not (tables_long o edges u v weight obs)) Short) (check_edges (graph_of d o edges u v weight obs) (below edges)))
