use Rattle.std.proofs.Common.{◌<◌, get_or, sym, ◌∙◌, arith, below_more}
use Rattle.cover.proofs.Steps.{shl_one, place_some, place_in, place_none, mask_begin, mask_in, mask_out, mask_end}
use Rattle.cover.proofs.mask_within.Goals as goal

pub loop-x-init : goal.loop-x-init
loop-x-init c = record { inside = λ k l. absurd (omega arith); made = mask_begin c.args.ds.now }

pub returns-in_err-j : goal.returns-in_err-j
returns-in_err-j c = c.from_residual.ensures ∙ sym (mask_out c.args.ds.now c.args.xs.now c.loop-x.x-index c.loop-x-test.true (place_none _ _ (sym c.in_err-j.ensures)))

pub loop-x-preserved : goal.loop-x-preserved
loop-x-preserved c =
    let e = place_some (get_or c.args.xs.now c.loop-x.x-index 0) c.args.ds.now c.in_ok-j.j (sym c.in_ok-j.ensures) in
    let small : c.in_ok-j.j < 16 = omega (arith, c.requires.0, e.0) in
    record {
      inside = below_more _ _ c.loop-x.invariant.inside (place_in _ _ _ (sym c.in_ok-j.ensures));
      made = rw (shl_one 16 c.in_ok-j.j small, c.loop-x.invariant.made) (mask_in c.args.ds.now c.args.xs.now c.loop-x.x-index c.loop-x-test.true c.in_ok-j.j c.requires.1 e.0 e.1);
    }

pub returns : goal.returns
returns c = rw c.loop-x.invariant.made (mask_end c.args.ds.now c.args.xs.now c.loop-x.x-index (omega arith) c.loop-x.invariant.inside)
