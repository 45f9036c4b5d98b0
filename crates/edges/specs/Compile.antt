-- Compiling a model to its edge graph: docs/RULES.md, "Graphs".
use Rattle.codes.specs.Order.{Checked}
use Rattle.std.specs.Prelude.{Ok, Err}
use Rattle.std.specs.Prelude.{ℕ, suc, List, [], ◌∷◌, map, Bool, false, cond, ◌&&◌, eqb, pos, Float}
use Rattle.std.specs.Float.Ieee as Ieee
use Rattle.std.specs.Float.{fin}
use Rattle.lists.specs.Lists.{below, member}
use Rattle.bits.specs.Rows.{words, row_of_bits}
use Rattle.weight.specs.Weight.{weight_of}
use Rattle.codes.specs.declared.Refusal.{Refusal}
use Rattle.codes.specs.declared.Refusal.TheVariants.{NotGraphlike}
use Rattle.dem.specs.Model.{ErrorMechanism, check_mechanism}
use Rattle.steps.specs.Graph.{Graph, boundary}

-- an edge on the way: its ends, and the probability and observables of the mechanism that it stands for
pub record Edge : Type 0 where
  pub u : ℕ
  pub v : ℕ
  pub probability : Float
  pub observables : List ℕ

-- edges so far, or a refusal on the way
pub data Edges : Type 0 where
  into : List Edge → Edges
  refused : Refusal → Edges

-- "only a strictly greater probability replaces probability and observables"
unfoldable pub greater : Edge → Edge → Edge
greater e new = cond (Ieee.lt e.probability new.probability) new e

-- "Mechanisms with the same detectors share one edge, numbered by the first"
unfoldable pub share : Edge → List Edge → List Edge
unfolding greater
share new [] = new ∷ []
share new (e ∷ es) = cond (eqb e.u new.u && eqb e.v new.v) (greater e new ∷ es) (e ∷ share new es)

-- the edge between two ends that mechanism m gives
abbrev pub edge_of : ErrorMechanism → ℕ → ℕ → Edge
edge_of m a b = record { u = a; v = b; probability = m.probability; observables = m.symptom.observables }

-- no detectors: skipped; one: a boundary edge; two: a pair edge; over two: 7
unfoldable pub join_by : ℕ → ErrorMechanism → List Edge → List ℕ → Edges
unfolding share
join_by i m es [] = into es
join_by i m es (a ∷ []) = into (share (edge_of m a boundary) es)
join_by i m es (a ∷ b ∷ []) = into (share (edge_of m a b) es)
join_by i m es (a ∷ b ∷ c ∷ ds) = refused (NotGraphlike i)

-- zero, also minus zero
abbrev pub is_zero : Float → Bool
is_zero p = Ieee.eq p (fin false 0 (pos 0))

-- a mechanism that passes its check: "zero ..: skipped" comes before 7
unfoldable pub join_next : ℕ → ErrorMechanism → List Edge → Checked → Edges
unfolding join_by
join_next i m es (Err r) = refused r
join_next i m es (Ok tt) = cond (is_zero m.probability) (into es) (join_by i m es m.symptom.detectors)

-- lists (5), then probability (4), then the edge
abbrev pub next : ℕ → ℕ → ℕ → ErrorMechanism → Edges → Edges
next d o i m (refused r) = refused r
next d o i m (into es) = join_next i m es (check_mechanism d o i m)

-- per mechanism in order, the first being number i
unfoldable pub edges_from : ℕ → ℕ → ℕ → List ErrorMechanism → Edges → Edges
unfolding join_next check_mechanism
edges_from d o i [] r = r
edges_from d o i (m ∷ ms) r = edges_from d o (suc i) ms (next d o i m r)

-- the edges of a model
unfoldable pub compile : ℕ → ℕ → List ErrorMechanism → Edges
unfolding edges_from
compile d o ms = edges_from d o 0 ms (into [])

-- the row of an edge's observables
unfoldable pub obs_row : ℕ → List ℕ → List ℕ
unfolding words row_of_bits below member
obs_row o obs = row_of_bits (words o) (map (λ j. member j obs) (below o))

-- the graph of the edges: each has the weight of its probability
unfoldable pub graph_by : ℕ → ℕ → List Edge → Graph
unfolding weight_of obs_row
graph_by d o es = record {
  detectors = d;
  observables = o;
  edge_u = map (λ e. e.u) es;
  edge_v = map (λ e. e.v) es;
  edge_weight = map (λ e. weight_of e.probability) es;
  edge_obs = map (λ e. obs_row o e.observables) es;
}
