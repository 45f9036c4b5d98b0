-- `cover::mark_earlier` meets its contract. The invariant: the earlier equal of each candidate passed is in place.
use Rattle.std.proofs.Common.{ℕ, ◌≡◌, ◌<◌, get_or}
use Rattle.cover.specs.Search.{previous}
use Rattle.cover.specs.Lent.{equal_in, SameWords, SameCandidates}
use Rattle.cover.proofs.mark_earlier.Given as goal

abbrev pub invariant-loop-j : goal.invariant-loop-j
invariant-loop-j l = record {
  marked : (k : ℕ) → k < l.j → get_or l.c.earlier.now k 0 ≡ previous (λ i. equal_in l.initial.c i k) k;
  kept : SameWords l.initial.c l.c;
  same : SameCandidates l.initial.c l.c;
}
