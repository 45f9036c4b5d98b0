use Rattle.std.proofs.Common.{◌<◌, ◌≤◌, get_or, length-set, arith, rules}
use Rattle.cover.proofs.Merge.{merge_few, merge_rises, merge_begin, merge_end, merge_ended, merge_head, merge_taken, merge_passed}
use Rattle.cover.proofs.gather.Goals as goal
use Rattle.cover.proofs.gather.Goals.{Else-head}

-- the lowest head is a mechanism from the next one on
here : (c : Else-head) → (c.loop-next.next ≤ get_or c.loop-next.heads c.lowest_head-lowest.result 0) × (get_or c.loop-next.heads c.lowest_head-lowest.result 0 < c.args.index.now.kept)
here c = merge_head _ _ _ _ _ _ _ _ _ c.requires _ _ _ _ _ c.loop-next.invariant.1 _ c.lowest_head-lowest.ensures c.if-head.false

pub loop-next-init : goal.loop-next-init
loop-next-init c = (search rules, merge_begin _ _ _ _ _ _ _ _ _ c.requires _ c.heads_of-heads.ensures)

pub lowest_head-lowest-requires : goal.lowest_head-lowest-requires
lowest_head-lowest-requires c = (c.requires.some_detectors, merge_few _ _ _ _ _ _ _ _ _ c.requires)

pub bounds-heads-lowest : goal.bounds-heads-lowest
bounds-heads-lowest c = omega (arith, merge_few _ _ _ _ _ _ _ _ _ c.requires)

pub returns-then-head : goal.returns-then-head
returns-then-head c = merge_ended _ _ _ _ _ _ _ _ _ c.requires _ _ _ _ _ c.loop-next.invariant.1 _ c.lowest_head-lowest.ensures c.if-head.true

pub overflow_cast-k : goal.overflow_cast-k
overflow_cast-k c = let h = here (goal.at.overflow_cast-k c).Else-head in omega arith

pub offset_bounds-index-k : goal.offset_bounds-index-k
offset_bounds-index-k c = let h = here (goal.at.offset_bounds-index-k c).Else-head in record { fits = omega arith }

pub bounds-index-k : goal.bounds-index-k
bounds-index-k c = let h = here (goal.at.bounds-index-k c).Else-head in omega arith

pub bounds-heads-lowest-in-loop-next : goal.bounds-heads-lowest-in-loop-next
bounds-heads-lowest-in-loop-next c = omega (arith, merge_few _ _ _ _ _ _ _ _ _ c.requires)

pub overflow_add-next : goal.overflow_add-next
overflow_add-next c = let h = here (goal.at.overflow_add-next c).Else-head in record { fits = omega arith }

pub mask_of-requires : goal.mask_of-requires
mask_of-requires c =
    let h = here (goal.at.mask_of-requires c).Else-head in
    (merge_few _ _ _ _ _ _ _ _ _ c.requires, merge_rises _ _ _ _ _ _ _ _ _ c.requires, (omega arith, omega arith, c.requires.tables.listed _ h.1))

pub loop-next-smaller-in-Some : goal.loop-next-smaller-in-Some
loop-next-smaller-in-Some c = let h = here (goal.at.loop-next-smaller-in-Some c).Else-head in omega arith

pub loop-next-preserved-in-Some : goal.loop-next-preserved-in-Some
loop-next-preserved-in-Some c = (
  simp length-set c.loop-next.invariant.0,
  merge_taken _ _ _ _ _ _ _ _ _ c.requires _ _ _ _ _ c.loop-next.invariant.1 _ c.lowest_head-lowest.ensures c.if-head.false c.loop-next.invariant.0 _ c.in-Some.ensures c.loop-next.auto.numbers c.loop-next.auto.masks,
)

pub loop-next-smaller : goal.loop-next-smaller
loop-next-smaller c = let h = here (goal.at.loop-next-smaller c).Else-head in omega arith

pub loop-next-preserved : goal.loop-next-preserved
loop-next-preserved c = (
  simp length-set c.loop-next.invariant.0,
  merge_passed _ _ _ _ _ _ _ _ _ c.requires _ _ _ _ _ c.loop-next.invariant.1 _ c.lowest_head-lowest.ensures c.if-head.false c.loop-next.invariant.0 c.in_default.ensures,
)

pub returns : goal.returns
returns c = merge_end _ _ _ _ _ _ _ _ _ c.requires _ _ _ _ _ c.loop-next.invariant.1 c.loop-next-test.false
