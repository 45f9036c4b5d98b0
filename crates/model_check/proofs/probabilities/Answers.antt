use mathlib.Core.Path.{ap, ◌∙◌}
use mathlib.Core.List.{List}
use native.Mathlib.Omega.{arith}
use lib.ListN.{set}
use lib.Ieee.{Float, nan}
use Rattle.model_check.specs.Bits.{probability_of}
use Rattle.model_check.specs.ModelCheck.{from_bits}
use Rattle.model_check.proofs.Columns.{column_turn}
use Rattle.model_check.proofs.probabilities.Goals as goal

pub loop-i-preserved : goal.loop-i-preserved
loop-i-preserved c =
    ap (λ (o : List Float). set o c.loop-i.i c.probability_of.result) c.loop-i.invariant
    ∙ ap (λ (v : Float). set (from_bits c.loop-i.i c.args.bits.now c.args.out.now) c.loop-i.i v) c.probability_of.ensures
    ∙ column_turn probability_of nan c.args.bits.now c.args.out.now c.loop-i.i (omega arith) (omega arith)
