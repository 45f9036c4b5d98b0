-- `model_graph::model_graph`: the columns taken out, then the graph.
use Rattle.model_graph.proofs.Answers.{held_is, graph_by_lem}
use Rattle.model_graph.proofs.model_graph.Goals as goal

pub returns-clause-graph : goal.returns-clause-graph
returns-clause-graph c =
    let m = c.min-rows.result in
    let counts = c.args.counts.now in
    let e = c.min-rows.ensures in
    let k = c.take_columns-columns.result in
    let q = c.take_columns-columns.ensures in
    graph_by_lem c.args.n c.args.probability_bits.now _ _ _ _ _ _ _ _ _ _ c.args.entries.now _ _ _
    (held_is (λ r. r.detectors) m counts k.detectors e q.detectors)
    (held_is (λ r. r.observables) m counts k.observables e q.observables)
    (held_is (λ r. r.components) m counts k.components e q.components)
    (held_is (λ r. r.component_detectors) m counts k.component_detectors e q.component_detectors)
    (held_is (λ r. r.component_observables) m counts k.component_observables e q.component_observables)
    c.graph_of.ensures.graph
