-- The proved cases, each about every function that keeps the contract of its call: what it answers and every word that it leaves.
use Rattle.std.specs.Prelude.{ℕ, ◌≡◌, List, [], ◌∷◌, true, false, pos, Float, Result, Ok, Err}
use Rattle.std.specs.Float.Ieee as Ieee
use Rattle.std.specs.Float.{binary64, fin}
use Rattle.codes.specs.declared.Refusal.{Refusal}
use Rattle.codes.specs.declared.Refusal.TheVariants as refusal
use Rattle.steps.specs.Graph.{boundary}
use Rattle.steps.specs.Growth.{count, start}
use Rattle.steps.specs.Cases.{quarter_weight}
use Rattle.dem.specs.Tables.{Tables}
use Rattle.dem.specs.Positions.{tables}
use Rattle.dem.specs.Cases.{three_eighths}
use Rattle.split_model.specs.declared.Counts.{Counts}
use Rattle.decompose.specs.declared.Lengths.{Lengths}
use Rattle.decompose.specs.Call.{outcome as decomposition, Decomposes}
use Rattle.edges.specs.Cases.{quarter, eighth}
use Rattle.edges.specs.Tables.{Slices, slices}
use Rattle.graph.specs.Outcome.{outcome, Compiles}
use Rattle.scratch.specs.Scratch.{lengths_for}
use Rattle.lent_graph.specs.Call.{Lent, lent_of}
use Rattle.marking.specs.declared.Marking.{Marking}
use Rattle.marking.specs.declared.Marking.TheVariants as marking
use Rattle.marker.specs.Answer.{Marks}
use Rattle.shot.specs.declared.Shot.{Shot}
use Rattle.shot.specs.declared.Shot.TheVariants as answer
use Rattle.decoder.specs.Answer.{Handed, handed, graph_of_call, lit_of_call, Decodes}

-- ---- numbers

abbrev pub one : Float
one = fin false 1 (pos 0)

abbrev pub half : Float
half = Ieee.of_bits binary64 0x3fe0000000000000

-- ---- the graphs, as they are lent

-- the example's model (docs/RULES.md, "Frames"): edge 0 from D0 to the boundary flips L0, edge 1 joins D0 and D1
unfoldable pub both_edges : Lent
unfolding quarter_weight
both_edges = lent_of 2 1 2 (0 ∷ 0 ∷ []) (boundary ∷ 1 ∷ []) (quarter_weight ∷ quarter_weight ∷ []) (1 ∷ 0 ∷ [])

-- its pair edge alone
unfoldable pub pair_only : Lent
unfolding quarter_weight
pair_only = lent_of 2 1 1 (0 ∷ []) (1 ∷ []) (quarter_weight ∷ []) (0 ∷ [])

-- ---- the shot decoder

-- a shot of width 2, a zero row with a word past it, a list with an entry past it
unfoldable pub shot_of : Lent → ℕ → Handed
unfolding lengths_for
shot_of l word = handed l (word ∷ []) 2 (0 ∷ 9 ∷ []) (7 ∷ 8 ∷ 9 ∷ []) (lengths_for 2 2)

-- whatever keeps the decoder's contract there answers r and leaves this list and this row
abbrev pub Gives : Handed → Result Shot Refusal → List ℕ → List ℕ → Type 0
Gives h r list row = (r' : Result Shot Refusal) (list' row' : List ℕ) → Decodes h r' list' row' → (r' ≡ r) × (list' ≡ list) × (row' ≡ row)

-- how often edge e is counted in the first round of that call, as the steps tell on what it is handed
abbrev pub counted : Handed → ℕ → ℕ
counted h e = count (graph_of_call h) (lit_of_call h) (start (graph_of_call h) (lit_of_call h)) e

pub record Decoder : Type 0 where
  -- "no lit detector, empty list"
  pub dark : Gives (shot_of both_edges 0) (Ok (answer.Decoded 0 0)) (7 ∷ 8 ∷ 9 ∷ []) (0 ∷ 9 ∷ [])
  -- "D0, list 0, row 1"
  pub d0 : Gives (shot_of both_edges 1) (Ok (answer.Decoded 1 1)) (0 ∷ 8 ∷ 9 ∷ []) (1 ∷ 9 ∷ [])
  -- "D1, as shown"
  pub d1 : Gives (shot_of both_edges 2) (Ok (answer.Decoded 2 2)) (1 ∷ 0 ∷ 9 ∷ []) (1 ∷ 9 ∷ [])
  -- "both, list 1, row 0, edge 1 counted twice"
  pub d01 : Gives (shot_of both_edges 3) (Ok (answer.Decoded 1 1)) (1 ∷ 8 ∷ 9 ∷ []) (0 ∷ 9 ∷ [])
  pub d01_twice : counted (shot_of both_edges 3) 1 ≡ 2
  -- "With the pair edge alone: D1 is Stuck naming 0; both pass"
  pub pair_d1 : Gives (shot_of pair_only 2) (Ok (answer.Stuck 1 0)) (7 ∷ 8 ∷ 9 ∷ []) (0 ∷ 9 ∷ [])
  pub pair_d01 : Gives (shot_of pair_only 3) (Ok (answer.Decoded 1 1)) (0 ∷ 8 ∷ 9 ∷ []) (0 ∷ 9 ∷ [])
  -- "D = 2 with word 4 gives 9"
  pub padding : Gives (shot_of both_edges 4) (Err (refusal.Padding 0)) (7 ∷ 8 ∷ 9 ∷ []) (0 ∷ 9 ∷ [])

-- ---- the marker

-- whatever keeps the marker's contract on this graph, shot and list answers m and leaves this row, where 5 and 9 stood
abbrev pub MarkedOn : Lent → ℕ → List ℕ → Result Marking Refusal → List ℕ → Type 0
MarkedOn l word list m row = (m' : Result Marking Refusal) (row' : List ℕ) → Marks l (word ∷ []) 2 list (5 ∷ 9 ∷ []) (3 ∷ []) (3 ∷ []) m' row' → (m' ≡ m) × (row' ≡ row)

-- the same on the example's model and D1's shot
abbrev pub Marked : List ℕ → Result Marking Refusal → List ℕ → Type 0
Marked list m row = MarkedOn both_edges 2 list m row

pub record Marker : Type 0 where
  -- the decoder's list passes, with its row
  pub whole : Marked (1 ∷ 0 ∷ []) (Ok marking.Pass) (1 ∷ 9 ∷ [])
  -- a part of it and no list leave detectors wrong
  pub part : Marked (1 ∷ []) (Ok (marking.Differs 0)) (5 ∷ 9 ∷ [])
  pub none : Marked [] (Ok (marking.Differs 1)) (5 ∷ 9 ∷ [])
  -- 13: an unknown and a repeated edge
  pub unknown : Marked (1 ∷ 0 ∷ 2 ∷ []) (Err refusal.Edge) (5 ∷ 9 ∷ [])
  pub repeated : Marked (1 ∷ 0 ∷ 0 ∷ 0 ∷ []) (Err refusal.Edge) (5 ∷ 9 ∷ [])
  -- "With the pair edge alone: .. both pass": the decoder's list, with its row
  pub pair_d01 : MarkedOn pair_only 3 (0 ∷ []) (Ok marking.Pass) (0 ∷ 9 ∷ [])

-- ---- compiling

-- a model of two mechanisms without components over D = 2 and O = 1: probabilities, numbers of detectors and of observables, entries
abbrev pub two : Float → Float → ℕ → ℕ → ℕ → ℕ → List ℕ → Tables
two p q d e o r entries = tables (p ∷ q ∷ []) (d ∷ e ∷ []) (o ∷ r ∷ []) (0 ∷ 0 ∷ []) [] [] entries

-- what the slices of the graph held before
abbrev pub before : Slices
before = slices (7 ∷ 8 ∷ []) (7 ∷ 8 ∷ []) (one ∷ one ∷ []) (7 ∷ 8 ∷ []) (one ∷ one ∷ [])

-- whatever keeps the contract of compiling answers n edges and leaves these tables
abbrev pub CompilesTo : Tables → ℕ → List ℕ → List ℕ → List Float → List ℕ → Type 0
CompilesTo t n u v weight obs =
    (r : Result ℕ Refusal) (exit : Slices) → Compiles 2 1 (outcome 2 1 2 t before (3 ∷ 3 ∷ []) (3 ∷ 3 ∷ [])) r before exit
    → (r ≡ Ok n) × (exit.edge_u ≡ u) × (exit.edge_v ≡ v) × (exit.edge_weight ≡ weight) × (exit.edge_obs ≡ obs)

pub record Compiling : Type 0 where
  -- the example's model
  pub model : CompilesTo (two quarter quarter 1 2 1 0 (0 ∷ 0 ∷ 0 ∷ 1 ∷ [])) 2 (0 ∷ 0 ∷ []) (boundary ∷ 1 ∷ []) (quarter_weight ∷ quarter_weight ∷ []) (1 ∷ 0 ∷ [])
  -- "equal probabilities keep the first observables"
  pub equal : CompilesTo (two quarter quarter 2 2 0 1 (0 ∷ 1 ∷ 0 ∷ 1 ∷ 0 ∷ [])) 1 (0 ∷ 8 ∷ []) (1 ∷ 8 ∷ []) (quarter_weight ∷ one ∷ []) (0 ∷ 8 ∷ [])
  -- "a greater one replaces them"
  pub greater : CompilesTo (two eighth quarter 2 2 0 1 (0 ∷ 1 ∷ 0 ∷ 1 ∷ 0 ∷ [])) 1 (0 ∷ 8 ∷ []) (1 ∷ 8 ∷ []) (quarter_weight ∷ one ∷ []) (1 ∷ 8 ∷ [])
  -- "p = 0.5 weighs 0", and "minus zero skipped"
  pub half : CompilesTo (two (fin true 0 (pos 0)) half 1 2 1 0 (0 ∷ 0 ∷ 0 ∷ 1 ∷ [])) 1 (0 ∷ 8 ∷ []) (1 ∷ 8 ∷ []) (fin false 0 (pos 0) ∷ one ∷ []) (0 ∷ 8 ∷ [])

-- ---- decomposing

-- two mechanisms at 0.25 over D = 3 and O = 0: D0; and D0, D1 and D2, with the components D0, and D1 and D2
abbrev pub suggested : Tables
suggested = tables (quarter ∷ quarter ∷ []) (1 ∷ 3 ∷ []) (0 ∷ 0 ∷ []) (0 ∷ 2 ∷ []) (1 ∷ 2 ∷ []) (0 ∷ 0 ∷ []) (0 ∷ 0 ∷ 1 ∷ 2 ∷ 0 ∷ 1 ∷ 2 ∷ [])

-- what the output tables held before: places for a mechanism and for an entry more than the model given
abbrev pub lent : Tables
lent = tables (one ∷ one ∷ one ∷ []) (7 ∷ 8 ∷ 9 ∷ []) (7 ∷ 8 ∷ 9 ∷ []) (7 ∷ 8 ∷ 9 ∷ []) (7 ∷ 8 ∷ []) (7 ∷ 8 ∷ []) (7 ∷ 8 ∷ 9 ∷ 10 ∷ 11 ∷ 12 ∷ 13 ∷ 14 ∷ [])

-- scratch slices as long as it needs
abbrev pub scratch : Lengths
scratch = record { starts = 34; before = 34; last_of = 3; first_of = 3; next_of = 2; numbers = 2; masks = 2; words0 = 2; words1 = 2; earlier = 2 }

-- whatever keeps the contract of decomposing that model answers r and leaves these tables
abbrev pub DecomposesTo : Result Counts Refusal → Tables → Type 0
DecomposesTo r left = (r' : Result Counts Refusal) (left' : Tables) → Decomposes (decomposition 3 0 2 suggested lent scratch) r' lent left' → (r' ≡ r) × (left' ≡ left)

pub record Decomposing : Type 0 where
  -- "0.25 added to 0.25 is 0.375": of D0, and 0.25 of a new mechanism of D1 and D2; every word past the two is as it was
  pub added : DecomposesTo (Ok (record { mechanisms = 2; components = 0; entries = 3 }))
      (tables (three_eighths ∷ quarter ∷ one ∷ []) (1 ∷ 2 ∷ 9 ∷ []) (0 ∷ 0 ∷ 9 ∷ []) (0 ∷ 0 ∷ 9 ∷ []) (7 ∷ 8 ∷ []) (7 ∷ 8 ∷ []) (0 ∷ 1 ∷ 2 ∷ 10 ∷ 11 ∷ 12 ∷ 13 ∷ 14 ∷ []))

-- ---- the table

pub record Table : Type 0 where
  pub decomposing : Decomposing
  pub compiling : Compiling
  pub decoder : Decoder
  pub marker : Marker
