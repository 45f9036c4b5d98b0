-- The end of a shot over a graph as a struct of slices, and tables by rows.
use Rattle.std.specs.Prelude.{ℕ, List, Bool}
use Rattle.lent_graph.specs.declared.Graph.{Graph}
use Rattle.cells.specs.declared.Node.{Node}
use Rattle.cells.specs.declared.Flags.{Flags}
use Rattle.cells.specs.declared.Stack.{Stack}
use Rattle.cells.specs.Tables.{lits, frees, seen}
use Rattle.peeling.specs.Lent.{labels_in}
use Rattle.finish.specs.Finish.{Settles, Finished}

-- no cluster is active; the w words of each edge, the row, and the n detectors seen
abbrev pub SettlesIn : Graph → List Bool → List Node → List Flags → ℕ → List ℕ → List Stack → ℕ → Type 0
SettlesIn g sat tree flags w row stacks n = Settles g.detectors g.edge_u.now g.edge_v.now sat (labels_in g tree) (lits flags) w g.edge_obs.now row (seen stacks) n

-- the list with its r edges, the row with their observables, nothing lit and nothing met
abbrev pub FinishedIn : Graph → List Bool → List Node → List Flags → ℕ → List ℕ → List ℕ → ℕ → List Flags → List ℕ → List ℕ → Type 0
FinishedIn g sat tree flags w row list r flags' row' list' =
    Finished g.detectors g.edge_u.now g.edge_v.now sat (labels_in g tree) (lits flags) w g.edge_obs.now row list r (frees flags') (lits flags') row' list'
