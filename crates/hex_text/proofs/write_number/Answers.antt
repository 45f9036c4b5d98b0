use Rattle.std.proofs.Common.{◌≡◌, ◌+◌, ◌-◌, ◌*◌, sym, ◌∙◌, arith}
use Rattle.hex_text.proofs.Runs.{byte_turn, byte_end}
use Rattle.hex_text.proofs.write_number.Goals as goal

pub loop-i-preserved : goal.loop-i-preserved
loop-i-preserved c =
    let at = c.args.at + 2 * c.loop-i.i in
    let next : c.args.at + 2 * (c.loop-i.i + 1) ≡ at + 2 = omega arith in
    rw (next, c.write_byte.ensures) (sym (byte_turn c.args.k c.loop-i.i c.args.x at c.loop-i.out c.loop-i-test.true) ∙ c.loop-i.invariant)

pub returns : goal.returns
returns c =
    sym (byte_end (c.args.k - c.loop-i.i) c.args.x (c.args.at + 2 * c.loop-i.i) c.loop-i.out (omega arith)) ∙ c.loop-i.invariant
