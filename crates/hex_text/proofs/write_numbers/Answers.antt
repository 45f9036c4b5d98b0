use Rattle.std.proofs.Common.{arith}
use Rattle.hex_text.proofs.Texts.{each_turn, each_end}
use Rattle.hex_text.proofs.write_numbers.Goals as goal

pub loop-x-preserved : goal.loop-x-preserved
loop-x-preserved g c =
    let turn = each_turn g.T.Number.value g.T.Number.BYTES c.loop-x.x-index c.loop-x.to c.args.list.now c.x-item.result c.loop-x.out c.loop-x-test.true c.x-item.is in
    rw (c.BYTES-in-loop-x.ensures, c.write_number.ensures, c.BYTES.ensures, c.to_u64.ensures, ← turn) (omega arith, c.loop-x.invariant.1)

pub returns : goal.returns
returns g c =
    rw (← each_end g.T.Number.value g.T.Number.BYTES c.loop-x.x-index c.loop-x.to c.args.list.now c.loop-x.out c.loop-x-test.false) c.loop-x.invariant.1
