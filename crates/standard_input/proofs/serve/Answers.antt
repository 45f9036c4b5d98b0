use Rattle.std.proofs.Common.{take, length-take, arith}
use Rattle.standard_input.proofs.Turns.{start_ready, ready_end, end_fits, block_fits, block_over, block_ready}
use Rattle.standard_input.proofs.serve.Goals as goal

pub loop-init : goal.loop-init
loop-init g c = start_ready c.start-place.result c.start-place.ensures _ _ c.args.block.now c.args.line.now c.args.out.now c.requires

-- the end of the input

pub put-requires : goal.put-requires
put-requires g c =
    end_fits c.loop.place.numbers _ _ (take c.loop.place.used c.loop.line) c.finish-n.result _ _ c.loop.out c.finish-n.new.out c.finish-n.ensures.finishes (ready_end c.loop.place c.loop.size _ _ c.loop.block c.loop.line c.loop.out c.loop.invariant).3 c.finish-n.auto.out

-- a block

pub slice_bounds-feed-end : goal.slice_bounds-feed-end
slice_bounds-feed-end g c = (rw c.in-Some.is at (c.in_ok-p.ensures _ _ c.loop.line c.loop.out c.loop.invariant)).within

pub slice_bounds-feed-end-in-loop : goal.slice_bounds-feed-end-in-loop
slice_bounds-feed-end-in-loop g c = let r = (rw c.in-Some.is at (c.in_ok-p.ensures _ _ c.loop.line c.loop.out c.loop.invariant)) in omega (arith, r.within, length-take c.in-Some.n c.next_block.new.block)

pub put-requires-in-Break : goal.put-requires-in-Break
put-requires-in-Break g c = block_over c.in-Some.p c.in-Some.n _ _ c.next_block.new.block c.loop.line c.loop.out (rw c.in-Some.is at (c.in_ok-p.ensures _ _ c.loop.line c.loop.out c.loop.invariant)) _ _ c.feed-fed.new.line c.feed-fed.new.out _ c.in-Break.ensures.feeds.0

pub put-requires-in-Continue : goal.put-requires-in-Continue
put-requires-in-Continue g c = block_fits c.in-Some.p c.in-Some.n _ _ c.next_block.new.block c.loop.line c.loop.out (rw c.in-Some.is at (c.in_ok-p.ensures _ _ c.loop.line c.loop.out c.loop.invariant)) _ _ c.feed-fed.new.line c.feed-fed.new.out _ c.in-Continue.ensures.feeds.0

pub loop-preserved : goal.loop-preserved
loop-preserved g c = block_ready c.in-Some.p c.in-Some.n _ _ c.next_block.new.block c.loop.line c.loop.out (rw c.in-Some.is at (c.in_ok-p.ensures _ _ c.loop.line c.loop.out c.loop.invariant)) _ _ c.feed-fed.new.line c.feed-fed.new.out _ c.in-Continue.ensures.feeds.0 c.feed-fed.auto.out
