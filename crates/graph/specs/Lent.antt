-- A call of `from_model` on structs of slices.
use Rattle.std.specs.Prelude.{Result, ℕ, List}
use Rattle.codes.specs.declared.Refusal.{Refusal}
use Rattle.codes.specs.Order.{Checked}
use Rattle.dem.specs.declared.Mechanism.{Mechanism}
use Rattle.dem.specs.declared.Place.{Place}
use Rattle.dem.specs.declared.Model.{Model}
use Rattle.dem.specs.Lent.{tables_of, mechanism_in}
use Rattle.edges.specs.declared.EdgeTables.{EdgeTables}
use Rattle.edges.specs.declared.Scratch.{Scratch}
use Rattle.edges.specs.Compile.{Edge, Edges, into, next}
use Rattle.edges.specs.Lent.{slices_of}
use Rattle.graph.specs.Outcome.{check_slices, outcome, ChainedBy}

-- the limits, then every slice; and what the call comes to
abbrev pub check_in : Model → EdgeTables → Scratch → Checked
check_in m t s = check_slices m.detectors m.observables m.mechanisms (tables_of m) (slices_of t s.edge_p.now) s.first.now s.next.now

abbrev pub outcome_in : Model → EdgeTables → Scratch → Edges
outcome_in m t s = outcome m.detectors m.observables m.mechanisms (tables_of m) (slices_of t s.edge_p.now) s.first.now s.next.now

-- mechanism i joined to the edges so far
abbrev pub next_in : Model → ℕ → Mechanism → Place → List Edge → Edges
next_in m i h p es = next m.detectors m.observables i (mechanism_in m h p) (into es)

abbrev pub ChainedAfter : Result ℕ Refusal → EdgeTables → Scratch → Type 0
ChainedAfter r t s = ChainedBy r (slices_of t s.edge_p.now) s.first.now s.next.now
