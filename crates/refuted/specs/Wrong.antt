-- Wrong programs: each is made from those that follow the steps, with one thing changed.
use Rattle.std.specs.Prelude.{ℕ, suc, ◌-◌, Bool, true, false, cond, length, get_or, take, drop}
use mathlib.Core.List.{List, [], ◌∷◌, ◌++◌, map}
use Rattle.lists.specs.Lists.{below, filter}
use Rattle.bits.specs.Rows.{words}
use Rattle.steps.specs.Graph.{Graph, inner, edges}
use Rattle.steps.specs.Rows.{zeros, row_of}
use Rattle.steps.specs.Growth.{Growth, stuck, settled, short, growth, merge_all}
use Rattle.steps.specs.Peeling.{Branch, Peeled, toggle, branches_from, exits_of, leave, clusters, peeled}
use Rattle.steps.specs.Shot.{Decoded, decode, impossible, corrected, row_left}
use Rattle.steps.specs.Marker.{Marked, fit, first_wrong, verdict, mark, pass, differs, unfit}
use Rattle.steps.specs.Found.{Programs, by_steps}

-- ---- one thing changed

-- the decoder's answer; the row left is that of the answer
unfoldable pub answering : (Graph → List Bool → Decoded) → Programs
unfolding row_left mark
answering f = record { decodes = f; leaves = λ g lit was. row_left g was (f g lit); marks = by_steps.marks }

-- the row that the decoder leaves
unfoldable pub leaving : (Graph → List Bool → List ℕ → List ℕ) → Programs
unfolding decode mark
leaving f = record { decodes = by_steps.decodes; leaves = f; marks = by_steps.marks }

-- the marker
unfoldable pub marking : (Graph → List Bool → List ℕ → Marked) → Programs
unfolding decode row_left
marking f = record { decodes = by_steps.decodes; leaves = by_steps.leaves; marks = f }

-- the answer to a shot with a lit detector, of which d is the lowest; a dark shot is answered as by the steps
unfoldable pub where_lit : (Graph → List Bool → ℕ → Decoded) → Graph → List Bool → Decoded
unfolding below filter decode
where_lit f g lit =
    elim (filter (λ d. get_or lit d false) (below g.detectors)) [
      | [] ↦ decode g lit
      | d ∷ ds ↦ f g lit d
    ]

-- ---- Stuck

-- Stuck for every shot, with any count of rounds and any detector
unfoldable pub stuck_always : (Graph → List Bool → ℕ) → (Graph → List Bool → ℕ) → Programs
unfolding answering
stuck_always rounds named = answering (λ g lit. impossible (rounds g lit) (named g lit))

-- Stuck before growth wherever a detector is lit
unfoldable pub stuck_first : Programs
unfolding answering where_lit
stuck_first = answering (where_lit (λ g lit d. impossible 0 d))

-- ---- the decoder's row

-- the zero row always
unfoldable pub zero_row : Programs
unfolding leaving zeros words
zero_row = leaving (λ g lit was. zeros g ++ drop (words g.observables) was)

-- the row never written
unfoldable pub never_written : Programs
unfolding leaving
never_written = leaving (λ g lit was. was)

-- ---- rounds

-- the same answer with another count
unfoldable pub counted : (ℕ → ℕ) → Decoded → Decoded
counted f (impossible n d) = impossible (f n) d
counted f (corrected n list) = corrected (f n) list

-- one round too many
unfoldable pub one_round_more : Programs
unfolding answering counted decode
one_round_more = answering (λ g lit. counted suc (decode g lit))

-- one round too few
unfoldable pub one_round_fewer : Programs
unfolding answering counted decode
one_round_fewer = answering (λ g lit. counted (λ n. n - 1) (decode g lit))

-- the same invented count for every shot
unfoldable pub same_rounds : ℕ → Programs
unfolding answering counted decode
same_rounds m = answering (λ g lit. counted (λ n. m) (decode g lit))

-- no rounds, always
unfoldable pub no_rounds : Programs
unfolding same_rounds
no_rounds = same_rounds 0

-- all edges saturated in round one, later rounds idle and not counted
unfoldable pub saturate_all : Programs
unfolding answering where_lit below merge_all peeled
saturate_all =
    answering
    (where_lit (λ g lit d. corrected 1 (peeled g (map (λ e. true) (edges g)) (merge_all g lit (below g.detectors) (edges g)) lit)))

-- ---- the marker

-- every list of distinct known edges passes, whatever it flips
unfoldable pub passes_all : Programs
unfolding marking fit row_of
passes_all = marking (λ g lit es. cond (fit g es) (pass (row_of g es)) unfit)

-- every list passes, with unknown or repeated edges too
unfoldable pub passes_any : Programs
unfolding marking row_of
passes_any = marking (λ g lit es. pass (row_of g es))

-- unknown or repeated edges are not refused: the list is judged by what it flips
unfoldable pub refuses_none : Programs
unfolding marking verdict first_wrong below
refuses_none = marking (λ g lit es. verdict g es true (first_wrong g lit es (below g.detectors)))

-- a Pass with the zero row
unfoldable pub zero_pass : Graph → Marked → Marked
unfolding zeros
zero_pass g (pass row) = pass (zeros g)
zero_pass g (differs d) = differs d
zero_pass g unfit = unfit

-- the marker writes the zero row on Pass
unfoldable pub marks_zero : Programs
unfolding marking zero_pass mark
marks_zero = marking (λ g lit es. zero_pass g (mark g lit es))

-- ---- the list

unfoldable pub emptied : Decoded → Decoded
emptied (impossible n d) = corrected n []
emptied (corrected n list) = corrected n []

-- the empty list always, also where growth is stuck
unfoldable pub empty_list : Programs
unfolding answering emptied decode
empty_list = answering (λ g lit. emptied (decode g lit))

-- the list without its last edge
unfoldable pub but_last : Decoded → Decoded
but_last (impossible n d) = impossible n d
but_last (corrected n list) = corrected n (take (length list - 1) list)

-- the last edge of the list left out
unfoldable pub last_left_out : Programs
unfolding answering but_last decode
last_left_out = answering (λ g lit. but_last (decode g lit))

-- ---- peeling

-- a lit vertex gives its tree edge, and its parent is not flipped
unfoldable pub alone : Peeled → List Branch → Peeled
alone p [] = p
alone p (b ∷ bs) =
    alone
    (cond
    (get_or p.lit b.vertex false)
    (record { lit = toggle p.lit b.vertex; list = p.list ++ (b.edge ∷ []) })
    p)
    bs

module _ (g : Graph) (sat : List Bool) (ls : List ℕ) where
  -- one cluster, from the first of its boundary edges or from its lowest detector, as by the steps
  unfoldable pub alone_by : Peeled → ℕ → List ℕ → Peeled
  unfolding alone branches_from leave
  alone_by p a [] = alone p (branches_from g sat a)
  alone_by p a (e ∷ es) = leave g sat ls (alone p (branches_from g sat (inner g e))) e

  unfoldable pub alone_all : Peeled → List ℕ → Peeled
  unfolding alone_by exits_of
  alone_all p [] = p
  alone_all p (a ∷ l) = alone_all (alone_by p a (exits_of g sat ls a)) l

unfoldable pub peeled_alone : Graph → List Bool → Growth → Decoded
unfolding alone_all clusters
peeled_alone g lit (stuck n d) = impossible n d
peeled_alone g lit (settled n s) = corrected n (alone_all g s.saturated s.label (record { lit = lit; list = [] }) (clusters g s.saturated s.label lit)).list
peeled_alone g lit short = impossible 0 0

-- a lit vertex does not flip its parent
unfoldable pub parent_not_flipped : Programs
unfolding answering peeled_alone growth
parent_not_flipped = answering (λ g lit. peeled_alone g lit (growth g lit))
