use Rattle.std.proofs.Common.{refl, map, arith}
use Rattle.std.proofs.lemmas.List.{map-set}
use Rattle.hex_text.specs.Hex.{bytes_of, numbers}
use Rattle.hex_text.proofs.Bytes.{byte_count}
use Rattle.hex_text.proofs.Runs.{run_more, within_run}
use Rattle.hex_text.proofs.read_numbers.Goals as goal

pub loop-i-init : goal.loop-i-init
unfolding numbers
loop-i-init g c = refl

pub overflow_mul-BYTES : goal.overflow_mul-BYTES
overflow_mul-BYTES g c =
    rw c.BYTES.ensures (record { fits = omega (arith, within_run g.T.Number.BYTES c.loop-i.i c.args.n c.args.from _ c.loop-i-test.true c.requires.0, byte_count c.args.line.now, c.well_formed) })

pub overflow_add-from : goal.overflow_add-from
overflow_add-from g c =
    rw c.BYTES.ensures (omega (arith, within_run g.T.Number.BYTES c.loop-i.i c.args.n c.args.from _ c.loop-i-test.true c.requires.0, byte_count c.args.line.now, c.well_formed))

pub read-requires : goal.read-requires
read-requires g c =
    rw c.BYTES.ensures (within_run g.T.Number.BYTES c.loop-i.i c.args.n c.args.from _ c.loop-i-test.true c.requires.0)

pub loop-i-preserved : goal.loop-i-preserved
loop-i-preserved g c =
    let x = g.T.Number.value c.read.result in
    let was = map g.T.Number.value c.args.out.now in
    rw (map-set, c.loop-i.invariant) (run_more g.T.Number.BYTES c.loop-i.i c.args.from c.args.at x (bytes_of c.args.line.now) was (rw c.BYTES.ensures at c.read.ensures))
