-- Wrong programs, those that the scope names and others: each breaks the statement of demand 3.
use Rattle.std.specs.Prelude.{ℕ, ◌≡◌, List, [], ◌∷◌, Bool, Result, Ok}
use Rattle.steps.specs.Graph.{Graph, boundary}
use Rattle.steps.specs.Cases.{quarter_weight}
use Rattle.steps.specs.Found.{Programs, Blank, Demand3}
use Rattle.scratch.specs.Scratch.{lengths_for}
use Rattle.lent_graph.specs.Call.{lent_of}
use Rattle.codes.specs.declared.Refusal.{Refusal}
use Rattle.shot.specs.declared.Shot.{Shot}
use Rattle.shot.specs.declared.Shot.TheVariants as answer
use Rattle.decoder.specs.Answer.{Handed, handed, graph_of_call, checks, Decodes}
use Rattle.demand3.specs.Stated.{Stated, rounds_told}
use Rattle.refuted.specs.Wrong as Wrong

-- demand 3 does not hold of the programs
abbrev pub Breaks : Programs → Type 0
Breaks p = Demand3 p → ⊥

pub record Refuted : Type 0 where
  -- "Stuck for every shot"
  pub stuck_always : (rounds named : Graph → List Bool → ℕ) → Breaks (Wrong.stuck_always rounds named)
  -- "Stuck before growth on an explainable shot"
  pub stuck_first : Breaks Wrong.stuck_first
  -- "the zero row always"
  pub zero_row : Breaks Wrong.zero_row
  -- "an output never written"
  pub never_written : Breaks Wrong.never_written
  -- "invented failure or round counts": the rounds
  pub one_round_more : Breaks Wrong.one_round_more
  pub one_round_fewer : Breaks Wrong.one_round_fewer
  pub no_rounds : Breaks Wrong.no_rounds
  pub same_rounds : (m : ℕ) → Breaks (Wrong.same_rounds m)
  -- "all edges saturated in round one, later rounds idle": the idle rounds not counted
  pub saturate_all : Breaks Wrong.saturate_all
  -- the marker
  pub passes_all : Breaks Wrong.passes_all
  pub passes_any : Breaks Wrong.passes_any
  pub refuses_none : Breaks Wrong.refuses_none
  pub marks_zero : Breaks Wrong.marks_zero
  -- the list
  pub empty_list : Breaks Wrong.empty_list
  pub last_left_out : Breaks Wrong.last_left_out
  pub parent_not_flipped : Breaks Wrong.parent_not_flipped

-- ---- the same of the call, whatever list and row are handed back

-- the example's model and the shot of D1, which takes two rounds
unfoldable pub d1 : Handed
unfolding quarter_weight lengths_for
d1 = handed (lent_of 2 1 2 (0 ∷ 0 ∷ []) (boundary ∷ 1 ∷ []) (quarter_weight ∷ quarter_weight ∷ []) (1 ∷ 0 ∷ [])) (2 ∷ []) 2 (0 ∷ []) (0 ∷ 0 ∷ []) (lengths_for 2 2)

-- the answer r does not meet the statement
abbrev pub Fails : Handed → Result Shot Refusal → Type 0
Fails h r = (list row : List ℕ) → Stated h r list row → ⊥

pub record RefutedCalls : Type 0 where
  -- "invented .. round counts": one too few, none, one too many
  pub one_round_fewer : Fails d1 (Ok (answer.Decoded 1 2))
  pub no_rounds : Fails d1 (Ok (answer.Decoded 0 2))
  pub one_round_more : Fails d1 (Ok (answer.Decoded 3 2))
  -- "Stuck before growth on an explainable shot"
  pub stuck_first : Fails d1 (Ok (answer.Stuck 0 1))
  -- on every call that is not refused: any count but that of the proved call
  pub other_rounds : (h : Handed) (r : Result Shot Refusal) (list row : List ℕ) → Decodes h r list row → checks h ≡ Ok tt → Blank (graph_of_call h) h.row
      → (s : Result Shot Refusal) → (rounds_told s ≡ rounds_told r → ⊥) → Fails h s
