-- `replies::rate_bits`: each return rewrites by the tests that led there.
use Rattle.std.proofs.Common.{arith, rules}
use lib.Ieee.{to_bits, of_bits}
use borrow.Author.Tests.{eq-eqb, ne_eqb}
use Rattle.failures.specs.Failures.{rate_of}
use Rattle.replies.proofs.Quotient.{rate_number}
use Rattle.replies.proofs.rate_bits.Goals as goal
use Rattle.replies.proofs.rate_bits.Goals.{then-shots-eq0-via-then-shots-eq0, then-shots-eq0-via-else-shots-eq0+then-observables-eq0}

pub returns-then-shots-eq0 : goal.returns-then-shots-eq0
unfolding rate_of to_bits of_bits
returns-then-shots-eq0 c =
    elim c.then-shots-eq0.branch [
      | then-shots-eq0-via-then-shots-eq0 w ↦ rw (eq-eqb _ _ w.if-shots-eq0.true)
      | then-shots-eq0-via-else-shots-eq0+then-observables-eq0 w ↦ rw (ne_eqb _ _ w.if-shots-eq0.false, eq-eqb _ _ w.if-observables-eq0.true)
    ]

pub float_to_bits-result : goal.float_to_bits-result
float_to_bits-result c = rate_number c.args.failures c.args.shots (omega arith) c.requires (search rules)

pub returns : goal.returns
unfolding rate_of
returns c = rw (ne_eqb _ _ c.if-shots-eq0.false, ne_eqb _ _ c.if-observables-eq0.false)
