-- `cover::word_of` meets its contract. The invariant: the word of the entries passed.
use Rattle.std.proofs.Common.{◌≡◌, take}
use Rattle.cover.specs.Masks.{word_of}
use Rattle.cover.proofs.word_of.Given as goal

abbrev pub invariant-loop-x : goal.invariant-loop-x
invariant-loop-x l = l.w ≡ word_of l.first (take l.x-index l.xs)
