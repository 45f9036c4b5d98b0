-- `model_graph::compile`: the call on scratch of its own.
use lib.Ieee.{of_bits}
use Rattle.model_graph.proofs.Answers.{bare}
use Rattle.model_graph.proofs.compile.Goals as goal

pub returns-clause-compiles : goal.returns-clause-compiles
unfolding of_bits
returns-clause-compiles c = bare c.args.n.detectors c.args.n.observables _ _ _ _ c.from_model.ensures.compiles
