-- What the call answers and leaves: docs/RULES.md, "Growth", "Peeling" and "Refusals".
use Rattle.codes.specs.Order.{Checked}
use Rattle.codes.specs.declared.Refusal.{Refusal}
use Rattle.std.specs.Prelude.{ℕ, ◌≡◌, List, [], ◌∷◌, Bool, ◌&&◌, length, Result, Ok, Err}
use Rattle.std.proofs.Math.Dec.{leb}
use Rattle.bits.specs.Rows.{words}
use Rattle.codes.specs.Codes.{Sheet, refusal_row, success_row}
use Rattle.steps.specs.Graph.{Graph}
use Rattle.steps.specs.Shot.{Decoded, impossible, corrected, decode, row_left}
use Rattle.steps.specs.Call.{lit_of, list_left}
use Rattle.steps.specs.Found.{by_steps, Found}
use Rattle.scratch.specs.declared.Lengths.{Lengths}
use Rattle.scratch.specs.Scratch.{scratch_long}
use Rattle.lent_graph.specs.Call.{Lent, graph_in, check_call}
use Rattle.shot.specs.declared.Shot.{Shot}
use Rattle.shot.specs.declared.Shot.TheVariants as shot
use Rattle.shot.specs.Shots.{shot_of}

-- what a shot decoder is handed: a graph, a shot and its width, the row and the list that it may write, and scratch slices by their lengths
pub record Handed : Type 0 where
  pub graph : Lent
  pub shot : List ℕ
  pub width : ℕ
  pub row : List ℕ
  pub list : List ℕ
  pub scratch : Lengths

abbrev pub handed : Lent → List ℕ → ℕ → List ℕ → List ℕ → Lengths → Handed
handed l shot width row list scratch = record { graph = l; shot = shot; width = width; row = row; list = list; scratch = scratch }

module _ (h : Handed) where
  -- the graph, and the detectors whose bit is set in the shot
  abbrev pub graph_of_call : Graph
  graph_of_call = graph_in h.graph

  abbrev pub lit_of_call : List Bool
  lit_of_call = lit_of h.graph.detectors h.shot

  -- "Rows need O/64 words rounded up, the decoder's list D entries", and each scratch slice its own
  unfoldable pub own_long : Bool
  unfolding words scratch_long
  own_long =
      leb (words h.graph.observables) (length h.row)
      && (leb h.graph.detectors (length h.list) && scratch_long h.graph.detectors h.graph.edges h.scratch)

  -- 1, 2, the graph, 8, 9, 10: a shot by itself is a batch of one
  unfoldable pub checks : Checked
  unfolding own_long check_call
  checks = check_call h.graph own_long h.shot 1 h.width

  -- the steps on what was handed in
  abbrev pub decoded : Decoded
  decoded = decode graph_of_call lit_of_call

-- ---- the answer on the sheet

-- "11, shot, detector": a shot by itself is shot 0. The rounds finished stand behind them
abbrev pub stuck_row : ℕ → ℕ → Sheet
stuck_row rounds detector = record { code = 11; values = 0 ∷ detector ∷ rounds ∷ [] }

-- the rounds finished and the list's length
abbrev pub decoded_row : ℕ → ℕ → Sheet
decoded_row rounds length = success_row (rounds ∷ length ∷ [])

-- the sheet's number and values for each case of the answer
abbrev pub sheet_of : Result Shot Refusal → Sheet
sheet_of (Ok (shot.Decoded rounds length)) = decoded_row rounds length
sheet_of (Ok (shot.Stuck rounds detector)) = stuck_row rounds detector
sheet_of (Err r) = refusal_row r

-- and for the call: the first refusal of the check, else what the steps come to
unfoldable pub call_row : Checked → Decoded → Sheet
call_row (Err r) x = refusal_row r
call_row (Ok tt) (impossible n d) = stuck_row n d
call_row (Ok tt) (corrected n list) = decoded_row n (length list)

-- ---- the answer by its cases, and what is left

-- a refusal of the check, else what the steps come to: the rounds finished, with the list's length or the detector named
unfoldable pub answer_of : Checked → Decoded → Result Shot Refusal
answer_of (Err r) x = Err r
answer_of (Ok tt) x = Ok (shot_of x)

-- the list: untouched after a refusal and after Stuck, else the edges peeled and then what was there
unfoldable pub list_after : Checked → List ℕ → Decoded → List ℕ
unfolding list_left
list_after (Err r) was x = was
list_after (Ok tt) was x = list_left was x

-- the row: untouched after a refusal and after Stuck, else XORed with the observables of the list
unfoldable pub row_after : Checked → Graph → List ℕ → Decoded → List ℕ
unfolding row_left
row_after (Err r) g was x = was
row_after (Ok tt) g was x = row_left g was x

-- all that the call promises: its answer, every word of the list and of the row, and demand 3 of the graph and the shot that it was handed. What the scratch slices hold after it is free.
pub record Decodes (h : Handed) (r : Result Shot Refusal) (list row : List ℕ) : Type 0 where
  pub sheet : sheet_of r ≡ call_row (checks h) (decoded h)
  pub answers : r ≡ answer_of (checks h) (decoded h)
  pub lists : list ≡ list_after (checks h) h.list (decoded h)
  pub rows : row ≡ row_after (checks h) (graph_of_call h) h.row (decoded h)
  pub found : checks h ≡ Ok tt → Found by_steps (graph_of_call h) (lit_of_call h)
