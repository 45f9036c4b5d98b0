-- Demand 3 of the two calls, stated over the answers and the slices that they hand back.
use Rattle.std.specs.Prelude.{ℕ, ◌<◌, ◌≤◌, ◌≡◌, List, true, false, ◌↔◌, ◌⊎◌, length, get_or, take, drop, Result, Ok, Err}
use Rattle.bits.specs.Rows.{words}
use Rattle.codes.specs.declared.Refusal.{Refusal}
use Rattle.codes.specs.declared.Refusal.TheVariants as refusal
use Rattle.steps.specs.Graph.{flipped}
use Rattle.steps.specs.Rows.{row_of}
use Rattle.steps.specs.Marker.{fit}
use Rattle.steps.specs.Found.{Known, Distinct, Explains, Blank, Xored, Rounds, NoneActive, Halted, Named}
use Rattle.steps.specs.Call.{lit_of}
use Rattle.lent_graph.specs.Call.{Lent, graph_in}
use Rattle.marking.specs.declared.Marking.{Marking}
use Rattle.marking.specs.declared.Marking.TheVariants as marking
use Rattle.marker.specs.Answer.{marker_long, check_mark, Marks}
use Rattle.shot.specs.declared.Shot.{Shot}
use Rattle.shot.specs.declared.Shot.TheVariants as answer
use Rattle.decoder.specs.Answer.{Handed, graph_of_call, lit_of_call, checks, Decodes}

-- ---- the shot decoder

module _ (h : Handed) where
  abbrev O : ℕ
  O = h.graph.observables

  -- a list of distinct known edges flips exactly the lit detectors
  abbrev pub Explained : List ℕ → Type 0
  Explained es = (fit (graph_of_call h) es ≡ true) × Explains (graph_of_call h) (lit_of_call h) es

  abbrev pub IsStuck : Result Shot Refusal → Type 0
  IsStuck r = (n : ℕ) × (d : ℕ) × (r ≡ Ok (answer.Stuck n d))

  abbrev pub IsDecoded : Result Shot Refusal → Type 0
  IsDecoded r = (n : ℕ) × (k : ℕ) × (r ≡ Ok (answer.Decoded n k))

  -- after n rounds the decoder hands over the first k entries of the list
  pub record HandsOver (n k : ℕ) (list row : List ℕ) : Type 0 where
    -- "a set of distinct edges that does"
    pub short : k ≤ h.graph.detectors
    pub known : Known (graph_of_call h) (take k list)
    pub distinct : Distinct (take k list)
    pub explains : Explains (graph_of_call h) (lit_of_call h) (take k list)
    -- "the row is their XOR", bit by bit
    pub row_is : take (words O) row ≡ row_of (graph_of_call h) (take k list)
    pub xored : Xored (graph_of_call h) (take k list)
    -- what lies past the list and past the row is untouched
    pub past_list : drop k list ≡ drop k h.list
    pub past_row : drop (words O) row ≡ drop (words O) h.row
    -- "rounds finished never exceed the edges, each saturating a new one": so many were finished,
    pub rounds : Rounds (graph_of_call h) (lit_of_call h) n
    -- and no more: no cluster is active after them
    pub ended : NoneActive (graph_of_call h) (lit_of_call h) n
    -- "the marker passes it and writes the same row", whatever slices it is lent
    pub marked : (was marks wrong : List ℕ) (m : Result Marking Refusal) (left : List ℕ)
        → marker_long h.graph.detectors O h.graph.edges (length was) (length marks) (length wrong) ≡ true
        → Marks h.graph h.shot h.width (take k list) was marks wrong m left
        → (m ≡ Ok marking.Pass) × (take (words O) left ≡ take (words O) row) × (drop (words O) left ≡ drop (words O) was)

  pub record StuckNames (n d : ℕ) (list row : List ℕ) : Type 0 where
    pub list_untouched : list ≡ h.list
    pub row_untouched : row ≡ h.row
    pub rounds : Rounds (graph_of_call h) (lit_of_call h) n
    -- no more were finished: the first stuck cluster is that of d
    pub ended : Halted (graph_of_call h) (lit_of_call h) n d
    -- the lowest detector of a cluster that nothing can help
    pub named : Named (graph_of_call h) (lit_of_call h) n d

  pub record Stated (r : Result Shot Refusal) (list row : List ℕ) : Type 0 where
    pub either : IsStuck r ⊎ IsDecoded r
    -- "answers Stuck exactly when no edge set flips exactly the lit detectors"
    pub exactly : IsStuck r ↔ ((es : List ℕ) → Explained es → ⊥)
    pub decoded : (n k : ℕ) → r ≡ Ok (answer.Decoded n k) → HandsOver n k list row
    pub stuck : (n d : ℕ) → r ≡ Ok (answer.Stuck n d) → StuckNames n d list row

-- ---- the marker

module _ (l : Lent) (shot list : List ℕ) where
  abbrev pub Wrong : ℕ → Type 0
  Wrong d = flipped (graph_in l) list d ≡ get_or (lit_of l.detectors shot) d false → ⊥

  -- what it was lent as its row, its answer, and the row that it left
  pub record Judges (was : List ℕ) (m : Result Marking Refusal) (left : List ℕ) : Type 0 where
    -- "the marker passes exactly what explains",
    pub exactly : (m ≡ Ok marking.Pass) ↔ ((fit (graph_in l) list ≡ true) × Explains (graph_in l) (lit_of l.detectors shot) list)
    -- and then it writes the XOR of the list's observables
    pub row_is : m ≡ Ok marking.Pass → take (words l.observables) left ≡ row_of (graph_in l) list
    pub past_row : drop (words l.observables) left ≡ drop (words l.observables) was
    -- 13 exactly for an unknown or repeated edge
    pub refused : (m ≡ Err refusal.Edge) ↔ (fit (graph_in l) list ≡ false)
    -- Differs names the lowest wrong detector, and the row is untouched
    pub differs : (d : ℕ) → m ≡ Ok (marking.Differs d) → (d < l.detectors) × Wrong d × ((c : ℕ) → c < d → flipped (graph_in l) list c ≡ get_or (lit_of l.detectors shot) c false)
    pub untouched : (m ≡ Ok marking.Pass → ⊥) → left ≡ was

-- ---- the demand

-- the rounds that an answer tells
abbrev pub rounds_told : Result Shot Refusal → ℕ
rounds_told (Ok (answer.Decoded n k)) = n
rounds_told (Ok (answer.Stuck n d)) = n
rounds_told (Err r) = 0

-- the count is one number: no two answers of which the demand holds tell different ones
abbrev pub RoundsFixed : Type 0
RoundsFixed =
    (h : Handed) (r r' : Result Shot Refusal) (list row list' row' : List ℕ) → Stated h r list row → Stated h r' list' row' → rounds_told r ≡ rounds_told r'

-- of every call that is not refused, whose row began as zero
abbrev pub DecoderStated : Type 0
DecoderStated = (h : Handed) (r : Result Shot Refusal) (list row : List ℕ) → Decodes h r list row → checks h ≡ Ok tt → Blank (graph_of_call h) h.row → Stated h r list row

abbrev pub MarkerStated : Type 0
MarkerStated =
    (l : Lent) (shot : List ℕ) (width : ℕ) (list row marks wrong : List ℕ) (m : Result Marking Refusal) (left : List ℕ)
    → Marks l shot width list row marks wrong m left → check_mark l row marks wrong shot width ≡ Ok tt → Judges l shot list row m left
