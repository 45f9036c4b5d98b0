-- What a shot comes to on a lent graph, as a struct of slices.
use Rattle.std.specs.Prelude.{ℕ, List}
use Rattle.lent_graph.specs.declared.Graph.{Graph}
use Rattle.shot_reply.specs.Outcome.{Outcome, shot_outcome}

abbrev pub outcome_on : Graph → List ℕ → List ℕ → Outcome
outcome_on g shot truth = shot_outcome g.detectors g.observables g.edges g.edge_u.now g.edge_v.now g.edge_weight.now g.edge_obs.now shot truth
