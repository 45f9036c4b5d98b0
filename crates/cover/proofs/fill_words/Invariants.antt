-- `cover::fill_words` meets its contract. The invariant: the words of each candidate passed are in place.
use Rattle.std.proofs.Common.{ℕ, ◌≡◌, ◌<◌, get_or}
use Rattle.cover.specs.Masks.{word_of}
use Rattle.cover.specs.Lent.{observables_of, SameCandidates}
use Rattle.cover.proofs.fill_words.Given as goal

abbrev pub invariant-loop-i : goal.invariant-loop-i
invariant-loop-i l = record {
  low : (k : ℕ) → k < l.i → get_or l.c.words0.now k 0 ≡ word_of 0 (observables_of l.lists (get_or l.c.numbers.now k 0));
  high : (k : ℕ) → k < l.i → get_or l.c.words1.now k 0 ≡ word_of 64 (observables_of l.lists (get_or l.c.numbers.now k 0));
  numbers : l.c.numbers.now ≡ l.initial.c.numbers.now;
  masks : l.c.masks.now ≡ l.initial.c.masks.now;
  same : SameCandidates l.initial.c l.c;
}
