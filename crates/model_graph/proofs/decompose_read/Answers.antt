-- `model_graph::decompose_read`: a refused check, or the call on scratch of its own.
use mathlib.Core.Path.{refl}
use lib.Ieee.{of_bits}
use Rattle.std.proofs.lemmas.Result.{err_from_is_err_and}
use Rattle.dem.specs.Lent.{tables_out}
use Rattle.model_graph.proofs.Answers.{scratch_is, refused_read, accepted_read}
use Rattle.model_graph.proofs.decompose_read.Goals as goal

pub returns-in_err-check_read-clause-decomposed : goal.returns-in_err-check_read-clause-decomposed
unfolding of_bits
returns-in_err-check_read-clause-decomposed c =
    λ ws ts. let p = err_from_is_err_and c.from_residual.result c.from_residual.ensures.1 in
    rw (p.1, p.2) (refused_read c.args.n c.args.read.now.probability_bits.now c.args.read.now.detector_counts.now c.args.read.now.observable_counts.now c.args.read.now.component_counts.now c.args.read.now.component_detectors.now c.args.read.now.component_observables.now c.args.read.now.entries.now ws ts c.check_read.new.probability _ _ c.in_err-check_read.ensures)

pub returns-clause-decomposed : goal.returns-clause-decomposed
unfolding of_bits
returns-clause-decomposed c =
    λ ws ts. accepted_read c.args.n c.args.read.now.probability_bits.now c.args.read.now.detector_counts.now c.args.read.now.observable_counts.now c.args.read.now.component_counts.now c.args.read.now.component_detectors.now c.args.read.now.component_observables.now c.args.read.now.entries.now ws ts _ (tables_out c.args.out.now) _ _ _ c.in_ok-check_read.ensures c.decompose_graphlike.ensures.answer c.requires (scratch_is _ refl refl refl refl refl refl refl refl refl refl)
