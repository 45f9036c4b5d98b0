-- What a shot comes to at its 06: docs/RULES.md, "Frames" and "The rate".
use Rattle.std.specs.Prelude.{Ok, Err, ℕ, Bool, true, false, not, ◌||◌, List, [], ◌∷◌, ◌++◌, replicate, eqb, Float}
use Rattle.bits.specs.Rows.{words}
use Rattle.codes.specs.declared.Refusal.{Refusal}
use Rattle.codes.specs.declared.Refusal.TheVariants.{Stuck}
use Rattle.codes.specs.Order.{Checked, and_then}
use Rattle.packed.specs.Packed.{check_packed}
use Rattle.steps.specs.Graph.{Graph}
use Rattle.steps.specs.Shot.{Decoded, impossible, corrected, row_after}
use Rattle.scratch.specs.Scratch.{lengths_of}
use Rattle.lent_graph.specs.Call.{Lent, lent_of}
use Rattle.replies.specs.Replies.{line_of, row_reply, list_reply}
use Rattle.decoder.specs.Answer.{Handed, handed, graph_of_call, checks, decoded}

-- ---- text and failure

-- "It writes 85 row, 86 count and edges (2 each) per shot"
unfoldable pub shot_text : List ℕ → List ℕ → List ℕ
unfolding line_of
shot_text row list = line_of (row_reply row) ++ line_of (list_reply list)

-- "a failure is a shot with any differing observable"
unfoldable pub differs : List ℕ → List ℕ → Bool
differs [] truth = false
differs (x ∷ row) [] = true
differs (x ∷ row) (y ∷ truth) = not (eqb x y) || differs row truth

-- what a shot comes to: the text of its lines and whether it is a failure, or a refusal
pub data Outcome : Type 0 where
  told : List ℕ → Bool → Outcome
  refused : Refusal → Outcome

-- the answer of the steps: the row that the list leaves of the row that was there; Stuck is 11
unfoldable pub by_decoded : Graph → List ℕ → List ℕ → Decoded → Outcome
unfolding shot_text differs row_after
by_decoded g was truth (impossible n d) = refused (Stuck 0 d)
by_decoded g was truth (corrected n list) = told (shot_text (row_after g was list) list) (differs (row_after g was list) truth)

abbrev pub only_then : Checked → Outcome → Outcome
only_then (Err r) x = refused r
only_then (Ok tt) x = x

-- ---- the call

-- what the decoder is handed: the shot by its width D, and scratch for 256 detectors and 1,024 edges
abbrev pub handed_for : Lent → List ℕ → List ℕ → List ℕ → Handed
handed_for l shot row list = handed l shot l.detectors row list (lengths_of 257 2048 256 256 256 1025 1024 1024)

-- its checks, then the steps
unfoldable pub decoded_shot : Handed → List ℕ → Outcome
unfolding checks by_decoded
decoded_shot h truth = only_then (checks h) (by_decoded (graph_of_call h) h.row truth (decoded h))

-- "both packings, detectors first", then the shot into a zero row
unfoldable pub shot_outcome : ℕ → ℕ → ℕ → List ℕ → List ℕ → List Float → List ℕ → List ℕ → List ℕ → Outcome
unfolding check_packed decoded_shot words
shot_outcome D O n u v weight obs shot truth =
    only_then (and_then (check_packed shot 1 D) (check_packed truth 1 O))
    (decoded_shot (handed_for (lent_of D O n u v weight obs) shot (replicate (words O) 0) (replicate 256 0)) truth)
