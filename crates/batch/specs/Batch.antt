-- The call that decodes a batch: docs/RULES.md, "Shots and rows" and "Refusals".
use Rattle.std.specs.Prelude.{Ok, Err}
use Rattle.std.specs.Prelude.{ℕ, ◌*◌, ◌≡◌, List, Bool, ◌&&◌, length}
use Rattle.std.proofs.Math.Dec.{leb}
use Rattle.lists.specs.Lists.{below}
use Rattle.bits.specs.Rows.{words}
use Rattle.codes.specs.Codes.{checked_row}
use Rattle.codes.specs.Order.{Checked, and_then}
use Rattle.scratch.specs.declared.Lengths.{Lengths}
use Rattle.scratch.specs.Scratch.{scratch_long}
use Rattle.lent_graph.specs.Call.{Lent, graph_in, check_call}
use Rattle.batch_rows.specs.Rows.{check_shots_of, rows_of}

-- what a batch is handed: a graph, packed shots and their width, the output rows, the length of the list that it works in, and scratch slices by their lengths
pub record Handed : Type 0 where
  pub graph : Lent
  pub rows : List ℕ
  pub shots : ℕ
  pub width : ℕ
  pub out : List ℕ
  pub list : ℕ
  pub scratch : Lengths

abbrev pub handed : Lent → List ℕ → ℕ → ℕ → List ℕ → ℕ → Lengths → Handed
handed l rows shots width out list scratch = record { graph = l; rows = rows; shots = shots; width = width; out = out; list = list; scratch = scratch }

module _ (h : Handed) where
  -- a row of words(O) words for each shot, and each scratch slice its own
  unfoldable pub own_long : Bool
  unfolding words scratch_long
  own_long =
      leb (h.shots * words h.graph.observables) (length h.out)
      && (leb h.graph.detectors h.list && scratch_long h.graph.detectors h.graph.edges h.scratch)

  -- 1, 2, the graph, 8, 9, 10
  unfoldable pub checks : Checked
  unfolding own_long check_call
  checks = check_call h.graph own_long h.rows h.shots h.width

  -- then 11, shot by shot
  abbrev pub outcome : Checked
  outcome = and_then checks (check_shots_of (graph_in h.graph) h.rows (below h.shots))

-- the output: untouched where a check refuses
abbrev pub out_after : Checked → List ℕ → List ℕ → List ℕ
out_after (Err r) was done = was
out_after (Ok tt) was done = done

-- all that the call promises. What the list and the scratch slices hold after it is free.
pub record Decodes (h : Handed) (r : Checked) (out : List ℕ) : Type 0 where
  pub sheet : checked_row r ≡ checked_row (outcome h)
  pub answers : r ≡ outcome h
  pub rows : out ≡ out_after (checks h) h.out (rows_of (graph_in h.graph) h.rows (below h.shots) h.out)
