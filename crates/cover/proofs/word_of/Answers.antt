use Rattle.std.proofs.Common.{arith}
use Rattle.cover.proofs.Steps.{shl_one, word_begin, word_in, word_out}
use Rattle.cover.proofs.word_of.Goals as goal
use Rattle.cover.proofs.word_of.Goals.{then-first-x+then-x-first-lt64, else-first-x, else-first-x-via-then-first-x+else-x-first-lt64, else-first-x-via-else-first-x}

pub loop-x-init : goal.loop-x-init
loop-x-init c = word_begin c.args.first

pub loop-x-preserved : goal.loop-x-preserved
loop-x-preserved c =
    elim c.if-first-x.branch [
      | then-first-x+then-x-first-lt64 w ↦ rw (w.w-is, shl_one 64 _ w.if-x-first-lt64.true, c.loop-x.invariant) (word_in c.args.first c.args.xs.now c.loop-x.x-index c.loop-x-test.true w.if-first-x.true w.if-x-first-lt64.true)
      | else-first-x w ↦ rw (w.w-is, c.loop-x.invariant) (word_out c.args.first c.args.xs.now c.loop-x.x-index c.loop-x-test.true (λ a b.
          elim w.else-first-x.branch [
            | else-first-x-via-then-first-x+else-x-first-lt64 v ↦ omega arith
            | else-first-x-via-else-first-x v ↦ omega arith
          ]))
    ]
