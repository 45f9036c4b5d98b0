use Rattle.std.proofs.Common.{◌∙◌, arith}
use Rattle.cover.proofs.Ones.{ones_pos}
use Rattle.cover.proofs.Turn.{all_closed, some_open, turn_smaller, turn_took, turn_failed, turn_passed, turn_end}
use Rattle.cover.proofs.+find_cover.Goals as goal
use Rattle.cover.proofs.+find_cover.Goals.{else-word0-eq0-via-then-word0-eq0+else-word1-eq0, else-word0-eq0-via-else-word0-eq0, then-tries+in_default, else-tries}

pub returns-then-word1-eq0 : goal.returns-then-word1-eq0
returns-then-word1-eq0 t c = all_closed _ _ _ _ _ _ c.if-mask-eq0.true c.if-word0-eq0.true c.if-word1-eq0.true

pub returns-else-word0-eq0 : goal.returns-else-word0-eq0
returns-else-word0-eq0 t c = some_open _ _ _ _ _ _ c.if-mask-eq0.true (λ a b.
    elim c.else-word0-eq0.branch [
      | else-word0-eq0-via-then-word0-eq0+else-word1-eq0 w ↦ w.if-word1-eq0.false b
      | else-word0-eq0-via-else-word0-eq0 w ↦ w.if-word0-eq0.false a
    ])

pub find_cover-r-requires : goal.find_cover-r-requires
find_cover-r-requires t c =
    let k = turn_smaller _ _ _ _ _ _ _ _ _ _ _ c.loop-at.invariant.same c.loop-at-test.true c.if-tries.ensures in
    (omega (arith, k, c.decreases), record { numbered = c.requires.numbered; worded0 = c.requires.worded0; worded1 = c.requires.worded1; marked = c.requires.marked; shallow = omega (arith, k, c.requires.shallow); room = omega (arith, c.requires.room) })

pub bounds-chosen-depth : goal.bounds-chosen-depth
bounds-chosen-depth t c = omega (arith, c.requires.shallow, c.requires.room, ones_pos c.args.mask c.if-mask-eq0.false)

pub returns-in-Some : goal.returns-in-Some
returns-in-Some t c = turn_took _ _ _ _ _ _ _ _ _ _ _ c.loop-at.invariant.same c.loop-at-test.true c.if-tries.ensures _ _ _ _ _ c.loop-at.invariant.untouched c.in-Some.ensures

pub loop-at-preserved : goal.loop-at-preserved
loop-at-preserved t c =
    elim c.if-tries.branch [
      | then-tries+in_default w ↦ (
          let k = turn_failed _ _ _ _ _ _ _ _ _ _ _ c.loop-at.invariant.same c.loop-at-test.true w.if-tries.ensures _ _ _ w.in_default.ensures in
          record { untouched = w.chosen-is ∙ k.0 ∙ c.loop-at.invariant.untouched; same = k.1 })
      | else-tries w ↦ record { untouched = w.chosen-is ∙ c.loop-at.invariant.untouched; same = turn_passed _ _ _ _ _ _ _ _ _ _ _ c.loop-at.invariant.same c.loop-at-test.true w.if-tries.ensures }
    ]

pub returns : goal.returns
returns t c = turn_end _ _ _ _ _ _ _ _ _ _ _ c.loop-at.invariant.same _ _ _ c.loop-at-test.false c.if-mask-eq0.false c.loop-at.invariant.untouched
