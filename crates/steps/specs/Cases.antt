-- The proved cases of the decoder and the marker, and further ones, in one table that closes by computation.
use Rattle.std.specs.Prelude.{Ok, Err, ℕ, ◌≡◌, refl, List, [], ◌∷◌, Bool, true, false, pos, replicate, length, Float}
use Rattle.std.specs.Float.Ieee as Ieee
use Rattle.std.specs.Float.{binary64, fin, inf, nan}
use Rattle.codes.specs.declared.Refusal.TheVariants.{Probability, Index}
use Rattle.bits.specs.Rows.{bits_of}
use Rattle.steps.specs.Graph.{Graph, boundary, edges}
use Rattle.steps.specs.Growth.{count, least_of, start, after}
use Rattle.steps.specs.Shot.{decode, impossible, corrected, row_left}
use Rattle.steps.specs.Marker.{mark, pass, differs, unfit}
use Rattle.steps.specs.Call.{graph_of, lit_of, check_edges, list_left, row_marked}

-- ---- the graphs

-- the weight of p = 0.25, as the stated logarithm has it
unfoldable pub quarter_weight : Float
unfolding Ieee.of_bits
quarter_weight = Ieee.of_bits binary64 0x3ff193ea7aad030a

-- the example's model (docs/RULES.md, "Frames"): mechanism 0 flips D0 and L0, mechanism 1 flips D0 and D1
unfoldable pub both_edges : Graph
unfolding quarter_weight
both_edges = record { detectors = 2; observables = 1; edge_u = 0 ∷ 0 ∷ []; edge_v = boundary ∷ 1 ∷ []; edge_weight = quarter_weight ∷ quarter_weight ∷ []; edge_obs = (1 ∷ []) ∷ (0 ∷ []) ∷ [] }

-- its pair edge alone
unfoldable pub pair_only : Graph
unfolding quarter_weight
pair_only = record { detectors = 2; observables = 1; edge_u = 0 ∷ []; edge_v = 1 ∷ []; edge_weight = quarter_weight ∷ []; edge_obs = (0 ∷ []) ∷ [] }

-- pair edges between d detectors, with no observables
abbrev pub pairs : ℕ → List ℕ → List ℕ → List Float → Graph
pairs d u v w = record { detectors = d; observables = 0; edge_u = u; edge_v = v; edge_weight = w; edge_obs = replicate (length u) [] }

abbrev pub w0 : Float
w0 = fin false 0 (pos 0)

abbrev pub w1 : Float
w1 = fin false 1 (pos 0)

-- two edges of weight 0 and the one between their far ends
abbrev pub triangle : Graph
triangle = pairs 3 (0 ∷ 1 ∷ 0 ∷ []) (1 ∷ 2 ∷ 2 ∷ []) (w0 ∷ w0 ∷ w1 ∷ [])

-- ---- the cases on this model

-- the row that the shot leaves where zeros were
abbrev pub row : Graph → List Bool → List ℕ
row g lit = row_left g (0 ∷ []) (decode g lit)

pub record Decoder : Type 0 where
  -- no lit detector: the empty list
  pub dark : decode both_edges (false ∷ false ∷ []) ≡ corrected 0 []
  pub dark_row : row both_edges (false ∷ false ∷ []) ≡ 0 ∷ []
  -- D0: list 0, row 1
  pub d0 : decode both_edges (true ∷ false ∷ []) ≡ corrected 1 (0 ∷ [])
  pub d0_row : row both_edges (true ∷ false ∷ []) ≡ 1 ∷ []
  -- D1: as shown
  pub d1 : decode both_edges (false ∷ true ∷ []) ≡ corrected 2 (1 ∷ 0 ∷ [])
  pub d1_row : row both_edges (false ∷ true ∷ []) ≡ 1 ∷ []
  -- both: list 1, row 0, edge 1 counted twice
  pub d01 : decode both_edges (true ∷ true ∷ []) ≡ corrected 1 (1 ∷ [])
  pub d01_twice : count both_edges (true ∷ true ∷ []) (start both_edges (true ∷ true ∷ [])) 1 ≡ 2
  pub d01_row : row both_edges (true ∷ true ∷ []) ≡ 0 ∷ []
  -- with the pair edge alone: D1 is Stuck naming 0; both pass
  pub pair_d1 : decode pair_only (false ∷ true ∷ []) ≡ impossible 1 0
  pub pair_d1_row : row pair_only (false ∷ true ∷ []) ≡ 0 ∷ []
  pub pair_d01 : decode pair_only (true ∷ true ∷ []) ≡ corrected 1 (0 ∷ [])
  pub pair_d01_row : row pair_only (true ∷ true ∷ []) ≡ 0 ∷ []

pub record Marker : Type 0 where
  -- the list of D1, and a part of it
  pub whole : mark both_edges (false ∷ true ∷ []) (1 ∷ 0 ∷ []) ≡ pass (1 ∷ [])
  pub part : mark both_edges (false ∷ true ∷ []) (1 ∷ []) ≡ differs 0
  pub none : mark both_edges (false ∷ true ∷ []) [] ≡ differs 1
  -- 13: an unknown and a repeated edge
  pub unknown : mark both_edges (false ∷ true ∷ []) (1 ∷ 0 ∷ 2 ∷ []) ≡ unfit
  pub repeated : mark both_edges (false ∷ true ∷ []) (1 ∷ 0 ∷ 0 ∷ 0 ∷ []) ≡ unfit

-- ---- readings of the rules that the Rust decides (docs/DECISIONS.md)

pub record Readings : Type 0 where
  -- a merged cluster's place is the earliest that its parts had as the round began: merging places edge by edge would name 1
  pub place_by_round : decode (pairs 5 (1 ∷ 0 ∷ 0 ∷ []) (4 ∷ 3 ∷ 2 ∷ []) (w0 ∷ w0 ∷ w0 ∷ [])) (true ∷ true ∷ true ∷ true ∷ false ∷ []) ≡ impossible 1 0
  -- a place is not that of the first lit detector
  pub place_not_first_lit : decode (pairs 5 (2 ∷ 0 ∷ 0 ∷ []) (4 ∷ 3 ∷ 1 ∷ []) (w1 ∷ w1 ∷ w0 ∷ [])) (true ∷ true ∷ true ∷ true ∷ false ∷ []) ≡ impossible 2 2
  -- nor that of the lowest detector
  pub place_not_lowest : decode (pairs 4 (1 ∷ 0 ∷ []) (3 ∷ 2 ∷ []) (w0 ∷ w0 ∷ [])) (false ∷ true ∷ true ∷ false ∷ []) ≡ impossible 1 1
  -- unwinding is the reverse of the order in which vertices were marked
  pub unwound_by_marks : decode (pairs 3 (0 ∷ 0 ∷ []) (1 ∷ 2 ∷ []) (w0 ∷ w0 ∷ [])) (false ∷ true ∷ true ∷ []) ≡ corrected 1 (1 ∷ 0 ∷ [])
  -- the walk marks a vertex when it is first met: a recursive walk would give 2 and 0
  pub walk_by_stack : decode (pairs 3 (0 ∷ 0 ∷ 1 ∷ []) (2 ∷ 1 ∷ 2 ∷ []) (w0 ∷ w0 ∷ w0 ∷ [])) (true ∷ true ∷ false ∷ []) ≡ corrected 1 (1 ∷ [])
  -- an edge with both ends in one active cluster counts 2, as one between two does
  pub one_cluster_twice : count triangle (true ∷ true ∷ true ∷ []) (after triangle (true ∷ true ∷ true ∷ []) 1) 2 ≡ 2
  -- Stuck names the first stuck cluster in the active order, which is not the lowest component that is odd
  pub stuck_in_order : decode (pairs 3 (0 ∷ []) (2 ∷ []) (w1 ∷ [])) (true ∷ true ∷ false ∷ []) ≡ impossible 0 1

-- ---- the added clause of step 2. On accepted graphs it decides nothing, as `growth_laws` proves: `taken`

-- weights past 1,024, so not accepted: the two boundary edges fall short of their weight by rounding, and the clause decides
unfoldable pub heavy : Graph
heavy = record { detectors = 2; observables = 0; edge_u = 0 ∷ 0 ∷ 0 ∷ []; edge_v = 1 ∷ boundary ∷ boundary ∷ []; edge_weight = w1 ∷ Ieee.of_bits binary64 0x434001599a975925 ∷ Ieee.of_bits binary64 0x434001599a975925 ∷ []; edge_obs = [] ∷ [] ∷ [] ∷ [] }

-- two boundary edges of infinite weight; accepted
unfoldable pub endless : Graph
endless = record { detectors = 1; observables = 0; edge_u = 0 ∷ 0 ∷ []; edge_v = boundary ∷ boundary ∷ []; edge_weight = inf false ∷ inf false ∷ []; edge_obs = [] ∷ [] ∷ [] }

pub record AddedClause : Type 0 where
  -- the lowest-numbered edge that gives the least saturates in any case
  pub forced : decode heavy (true ∷ false ∷ []) ≡ corrected 2 (1 ∷ [])
  -- infinity included
  pub infinite : least_of endless (true ∷ []) (start endless (true ∷ [])) (0 ∷ 1 ∷ []) ≡ record { edge = 0; step = inf false }

-- ---- what a call reads and leaves

-- both-edges with other tables
abbrev pub lent : List ℕ → List ℕ → List Float → List (List ℕ) → Graph
lent u v w obs = record { detectors = 2; observables = 1; edge_u = u; edge_v = v; edge_weight = w; edge_obs = obs }

pub record Slices : Type 0 where
  -- the tables that give the example's graph; what lies past the edges is not read
  pub read : graph_of 2 1 2 (0 ∷ 0 ∷ 7 ∷ []) (boundary ∷ 1 ∷ 7 ∷ []) (quarter_weight ∷ quarter_weight ∷ []) (1 ∷ 0 ∷ 7 ∷ []) ≡ both_edges
  pub lit_d1 : lit_of 2 (2 ∷ []) ≡ false ∷ true ∷ []
  pub passes : check_edges both_edges (edges both_edges) ≡ Ok tt
  -- 5: an end that is no detector, a pair that does not ascend, a bit past O
  pub no_detector : check_edges (lent (2 ∷ []) (boundary ∷ []) (w0 ∷ []) ((0 ∷ []) ∷ [])) (0 ∷ []) ≡ Err (Index 0)
  pub no_pair : check_edges (lent (1 ∷ []) (1 ∷ []) (w0 ∷ []) ((0 ∷ []) ∷ [])) (0 ∷ []) ≡ Err (Index 0)
  pub past_o : check_edges (lent (0 ∷ []) (boundary ∷ []) (w0 ∷ []) ((2 ∷ []) ∷ [])) (0 ∷ []) ≡ Err (Index 0)
  -- 4: a weight that is neither from 0 to 1,024 nor infinity
  pub weight_nan : check_edges (lent (0 ∷ []) (1 ∷ []) (nan ∷ []) ((1 ∷ []) ∷ [])) (0 ∷ []) ≡ Err (Probability 0)
  pub weight_1025 : check_edges (lent (0 ∷ []) (1 ∷ []) (fin false 1025 (pos 0) ∷ []) ((1 ∷ []) ∷ [])) (0 ∷ []) ≡ Err (Probability 0)
  pub weight_1024 : check_edges (lent (0 ∷ []) (1 ∷ []) (fin false 1024 (pos 0) ∷ []) ((1 ∷ []) ∷ [])) (0 ∷ []) ≡ Ok tt
  pub weight_inf : check_edges (lent (0 ∷ []) (1 ∷ []) (inf false ∷ []) ((1 ∷ []) ∷ [])) (0 ∷ []) ≡ Ok tt
  pub weight_minus_zero : check_edges (lent (0 ∷ []) (1 ∷ []) (fin true 0 (pos 0) ∷ []) ((1 ∷ []) ∷ [])) (0 ∷ []) ≡ Ok tt
  -- edge by edge, and of one edge 5 before 4
  pub by_edge : check_edges (lent (0 ∷ 1 ∷ []) (1 ∷ 1 ∷ []) (nan ∷ w0 ∷ []) ((1 ∷ []) ∷ (1 ∷ []) ∷ [])) (0 ∷ 1 ∷ []) ≡ Err (Probability 0)
  pub five_first : check_edges (lent (1 ∷ []) (1 ∷ []) (nan ∷ []) ((1 ∷ []) ∷ [])) (0 ∷ []) ≡ Err (Index 0)
  -- the list from the start of its slice, the rest untouched; both untouched by Stuck
  pub list_left_is : list_left (7 ∷ 8 ∷ 9 ∷ []) (decode both_edges (false ∷ true ∷ [])) ≡ 1 ∷ 0 ∷ 9 ∷ []
  pub list_stuck : list_left (7 ∷ 8 ∷ []) (decode pair_only (false ∷ true ∷ [])) ≡ 7 ∷ 8 ∷ []
  -- the decoder XORs into its row, the marker writes its own; words past it stay
  pub row_xored : row_left both_edges (3 ∷ 9 ∷ []) (decode both_edges (false ∷ true ∷ [])) ≡ 2 ∷ 9 ∷ []
  pub row_marked_is : row_marked (3 ∷ 9 ∷ []) (mark both_edges (false ∷ true ∷ []) (1 ∷ 0 ∷ [])) ≡ 1 ∷ 9 ∷ []
  pub row_differs : row_marked (3 ∷ 9 ∷ []) (mark both_edges (false ∷ true ∷ []) (1 ∷ [])) ≡ 3 ∷ 9 ∷ []

-- ---- the table

pub record Cases : Type 0 where
  pub decoder : Decoder
  pub marker : Marker
  pub readings : Readings
  pub added_clause : AddedClause
  pub slices : Slices

pub cases : Cases
unfolding count start after least_of decode mark row_left graph_of check_edges list_left row_marked bits_of both_edges pair_only heavy endless quarter_weight Ieee.of_bits Ieee.lt Ieee.div Ieee.sub Ieee.of_int Ieee.le Ieee.mul Ieee.eq
cases = record {
  decoder = record { dark = refl; dark_row = refl; d0 = refl; d0_row = refl; d1 = refl; d1_row = refl; d01 = refl; d01_twice = refl; d01_row = refl; pair_d1 = refl; pair_d1_row = refl; pair_d01 = refl; pair_d01_row = refl };
  marker = record { whole = refl; part = refl; none = refl; unknown = refl; repeated = refl };
  readings = record { place_by_round = refl; place_not_first_lit = refl; place_not_lowest = refl; unwound_by_marks = refl; walk_by_stack = refl; one_cluster_twice = refl; stuck_in_order = refl };
  added_clause = record { forced = refl; infinite = refl };
  slices = record { read = refl; lit_d1 = refl; passes = refl; no_detector = refl; no_pair = refl; past_o = refl; weight_nan = refl; weight_1025 = refl; weight_1024 = refl; weight_inf = refl; weight_minus_zero = refl; by_edge = refl; five_first = refl; list_left_is = refl; list_stuck = refl; row_xored = refl; row_marked_is = refl; row_differs = refl };
}
