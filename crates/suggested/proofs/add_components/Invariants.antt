-- `suggested::add_components`: what is left to do from the model so far gives the whole.
use Rattle.std.proofs.Common.{◌-◌, List, length}
use Rattle.dem.specs.Model.{ErrorMechanism}
use Rattle.dem.specs.Tables.{Tables}
use Rattle.dem.specs.Decompose.{into, add_components}
use Rattle.suggested.specs.Held.{places_of, components_from, Suggested}
use Rattle.suggested.specs.Lent.{SameMechanisms, HoldsBy, RoomyBy, components_at}
use Rattle.suggested.proofs.Turns.{Continued}
use Rattle.suggested.proofs.add_components.Given as goal

abbrev pub invariant-loop-component : goal.invariant-loop-component
invariant-loop-component l = record {
  same : SameMechanisms l.initial.ms l.ms;
  inside : Suggested (l.component-end - l.component) l.component l.entry (length l.ms.last_of.now) l.model.component_detectors.now l.model.component_observables.now l.model.entries.now;
  roomy : RoomyBy (l.component-end - l.component) l.sized l.room l.ms;
  left : (so_far : List ErrorMechanism) (was : Tables) → HoldsBy so_far was l.fn.size l.model.entries.now l.initial.ms
      → Continued l.room l.p (add_components (places_of l.room) l.p (components_at l.fn.n l.fn.place l.model) (into so_far)) was l.model.entries.now (components_from (l.component-end - l.component) l.component l.entry l.model.component_detectors.now l.model.component_observables.now l.model.entries.now) l.sized l.ms;
}
