-- What holds of a compiled graph. Statements only: proofs/Laws.antt proves them.
use Rattle.std.specs.Prelude.{Ok}
use Rattle.std.specs.Prelude.{ℕ, ◌≤◌, ◌≡◌, List, false, pos, Float, length}
use Rattle.std.specs.Float.{fin}
use Rattle.codes.specs.Limits.{max_detectors, max_observables, max_mechanisms}
use Rattle.dem.specs.Model.{ErrorMechanism}
use Rattle.dem.specs.Tables.{Tables}
use Rattle.steps.specs.Call.{graph_of, AcceptedGraph}
use Rattle.lent_graph.specs.Lent.{check_lent}
use Rattle.edges.specs.Compile.{Edge, into, compile, graph_by}
use Rattle.edges.specs.Tables.{Slices, flat}
use Rattle.graph.specs.Outcome.{table_left, outcome, Compiles}

module _ (d o : ℕ) where
  -- the tables that compiling to es leaves, of the lent ones
  abbrev pub left_u : List Edge → List ℕ → List ℕ
  left_u es was = table_left 0 (λ es. (graph_by d o es).edge_u) (into es) was

  abbrev pub left_v : List Edge → List ℕ → List ℕ
  left_v es was = table_left 0 (λ es. (graph_by d o es).edge_v) (into es) was

  abbrev pub left_weight : List Edge → List Float → List Float
  left_weight es was = table_left (fin false 0 (pos 0)) (λ es. (graph_by d o es).edge_weight) (into es) was

  abbrev pub left_obs : List Edge → List ℕ → List ℕ
  left_obs es was = table_left 0 (λ es. flat (graph_by d o es).edge_obs) (into es) was

-- the edges of a model within the limits
pub record Within (d o : ℕ) (ms : List ErrorMechanism) (es : List Edge) : Type 0 where
  pub detectors : d ≤ max_detectors
  pub observables : o ≤ max_observables
  pub mechanisms : length ms ≤ max_mechanisms
  pub edges : compile d o ms ≡ into es

pub record Laws : Type 0 where
  -- a compiled graph is an accepted one
  pub accepted : (d o : ℕ) (ms : List ErrorMechanism) (es : List Edge) → Within d o ms es → AcceptedGraph (graph_by d o es)
  -- the tables left are the graph of the edges
  pub left : (d o : ℕ) (es : List Edge) (u v : List ℕ) (weight : List Float) (obs : List ℕ)
      → graph_of d o (length es) (left_u d o es u) (left_v d o es v) (left_weight d o es weight) (left_obs d o es obs) ≡ graph_by d o es
  -- and pass the check of a lent graph
  pub passes : (d o : ℕ) (ms : List ErrorMechanism) (es : List Edge) (u v : List ℕ) (weight : List Float) (obs : List ℕ) → Within d o ms es
      → check_lent d o (length es) (left_u d o es u) (left_v d o es v) (left_weight d o es weight) (left_obs d o es obs) ≡ Ok tt
  -- so whoever is answered with n edges has been left an accepted graph of n edges
  pub answered : (d o m : ℕ) (t : Tables) (entry : Slices) (first next : List ℕ) (n : ℕ) (exit : Slices) → Compiles d o (outcome d o m t entry first next) (Ok n) entry exit
      → AcceptedGraph (graph_of d o n exit.edge_u exit.edge_v exit.edge_weight exit.edge_obs)
