-- `model_graph::graph_of`: decomposed, then compiled.
use mathlib.Core.Path.{refl}
use lib.Ieee.{of_bits}
use Rattle.model_graph.proofs.Answers.{refused_zero, graph_refused, graph_compiled}
use Rattle.model_graph.proofs.graph_of.Goals as goal

pub decompose_read-requires : goal.decompose_read-requires
unfolding of_bits
decompose_read-requires c = refl

pub returns-in-Err-clause-graph : goal.returns-in-Err-clause-graph
returns-in-Err-clause-graph c =
    λ ws ts. graph_refused c.args.n _ _ _ _ _ _ (c.in-Err.ensures.decomposed ws ts) (refused_zero c.args.n.detectors c.args.n.observables _ _ _ _ c.refuse.ensures.refused c.refuse.ensures.zeroed)

pub returns-in-Ok-clause-graph : goal.returns-in-Ok-clause-graph
returns-in-Ok-clause-graph c =
    λ ws ts. graph_compiled c.args.n _ _ _ _ _ _ c.decompose_read.ensures.same.detector_counts_long (c.in-Ok.ensures.decomposed ws ts) c.compile.ensures.compiles
