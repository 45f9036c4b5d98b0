use Rattle.std.proofs.Common.{length, get_or, length-set, refl, arith}
use Rattle.cover.proofs.Steps.{rows_more, fits_length}
use Rattle.cover.proofs.heads_of.Goals as goal

pub loop-i-preserved : goal.loop-i-preserved
loop-i-preserved c = (
  simp length-set c.loop-i.invariant.0,
  rows_more (λ k. get_or c.args.first_of.now (get_or c.args.detectors.now k 0) 0) c.loop-i.heads c.loop-i.i _ (omega (arith, fits_length (length c.args.first_of.now) c.args.detectors.now c.requires)) c.loop-i.invariant.1 refl,
)
