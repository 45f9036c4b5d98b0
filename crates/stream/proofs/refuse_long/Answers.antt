-- `stream::refuse_long`: the refusal, behind what is there.
use Prim.Native.Nat.{ℕ, ◌+◌}
use mathlib.Core.Path.{ap}
use native.Mathlib.Omega.{arith}
use Rattle.codes.specs.declared.Refusal.TheVariants.{Frame}
use Rattle.replies.specs.Last.{refusal_text}
use Rattle.std.specs.declared.ops.ControlFlow.TheVariants.{Break}
use Rattle.stream.specs.Fed.{Fed}
use Rattle.stream.proofs.Blocks.{appended}
use Rattle.stream.proofs.refuse_long.Goals as goal

pub overflow_add-result : goal.overflow_add-result
overflow_add-result c = omega (arith, (appended c.args.filled (refusal_text Frame) c.args.out.now c.write_refusal.new.out (omega (arith, c.requires)) c.write_refusal.ensures.1 c.write_refusal.auto.out).fits, c.write_refusal.ensures.0, c.well_formed.0)

pub returns : goal.returns
returns c = (ap {B = Fed} (λ (w : ℕ). Break (c.args.filled + w)) c.write_refusal.ensures.0, (appended c.args.filled (refusal_text Frame) c.args.out.now c.write_refusal.new.out (omega (arith, c.requires)) c.write_refusal.ensures.1 c.write_refusal.auto.out))
