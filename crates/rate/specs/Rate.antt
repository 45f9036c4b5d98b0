-- The logical error rate of a batch: docs/RULES.md, "The rate" and "Refusals".
use Rattle.failures.specs.declared.ErrorRate.{ErrorRate}
use Rattle.std.specs.Prelude.{ℕ, ◌≡◌, List, Bool}
use Rattle.std.proofs.Math.ListN.{length}
use Rattle.lists.specs.Lists.{below, filter}
use Rattle.bits.specs.Rows.{words}
use Rattle.codes.specs.Order.{Checked, and_then}
use Rattle.packed.specs.Packed.{row_at}
use Rattle.steps.specs.Graph.{Graph}
use Rattle.lent_graph.specs.Call.{graph_in}
use Rattle.batch_rows.specs.Row.{row_for}
use Rattle.batch_rows.specs.Rows.{check_shots_of, rows_of}
use Rattle.batch.specs.Batch.{Handed, own_long, out_after}
use Rattle.failures.specs.Failures.{differs, rate_of, shape_of, sheet_of, call_row, answer_of}
use Rattle.rate.specs.Checks.{check_rate}

-- what the rate is handed: a batch, and the true observables with their own number of shots and width
pub record Compared : Type 0 where
  pub batch : Handed
  pub truth : List ℕ
  pub true_shots : ℕ
  pub true_width : ℕ

abbrev pub compared : Handed → List ℕ → ℕ → ℕ → Compared
compared batch truth shots width = record { batch = batch; truth = truth; true_shots = shots; true_width = width }

module _ (c : Compared) where
  abbrev pub graph_of_call : Graph
  graph_of_call = graph_in c.batch.graph

  -- 1 (the counts, the shots, the true shots), 2, the graph, both packings (8, 9), detectors first, then the width (10)
  unfoldable pub checks : Checked
  unfolding own_long check_rate
  checks = check_rate c.batch.graph (own_long c.batch) c.batch.rows c.batch.shots c.batch.width c.truth c.true_shots c.true_width

  -- 12: as many shots, of O observables each
  abbrev pub shape : Checked
  shape = shape_of c.batch.graph.observables c.batch.shots c.true_shots c.true_width

  -- decoding (11) comes before the shape
  abbrev pub outcome : Checked
  outcome = and_then checks (and_then (check_shots_of graph_of_call c.batch.rows (below c.batch.shots)) shape)

  -- "a failure is a shot with any differing observable"
  abbrev pub failed : ℕ → Bool
  failed s = differs c.batch.graph.observables (row_for graph_of_call c.batch.rows s) (row_at (words c.batch.graph.observables) c.truth s)

  unfoldable pub failures : ℕ
  unfolding filter below differs
  failures = length (filter failed (below c.batch.shots))

-- all that the call promises: the answer, and every word of the output, untouched where a check before decoding refuses. What the list and the scratch slices hold after it is free.
pub record Rates (c : Compared) (r : ErrorRate) (out : List ℕ) : Type 0 where
  pub sheet : sheet_of r ≡ call_row (outcome c) (rate_of c.batch.graph.observables (failures c) c.batch.shots)
  pub answers : r ≡ answer_of (outcome c) (rate_of c.batch.graph.observables (failures c) c.batch.shots)
  pub rows : out ≡ out_after (checks c) c.batch.out (rows_of (graph_of_call c) c.batch.rows (below c.batch.shots) c.batch.out)
