-- `cover::find_cover` meets its contract. The measure is the number of uncovered detectors; the loop keeps that the candidates left give the whole answer.
use Rattle.std.proofs.Common.{◌≡◌}
use Rattle.std.specs.Int.Count.{ones}
use Rattle.cover.specs.Masks.{cover_of}
use Rattle.cover.proofs.Turn.{rest_of}
use Rattle.cover.proofs.+find_cover.Given as goal

abbrev pub invariant-loop-at : goal.invariant-loop-at
invariant-loop-at l = record {
  untouched : l.chosen ≡ l.initial.chosen;
  same : cover_of (rest_of l.candidates l.at) l.mask l.word0 l.word1 ≡ cover_of (rest_of l.candidates l.start) l.mask l.word0 l.word1;
}

abbrev pub decreases-find_cover : goal.decreases-find_cover
decreases-find_cover l = ones l.mask
