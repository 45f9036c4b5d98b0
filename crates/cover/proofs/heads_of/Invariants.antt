-- `cover::heads_of` meets its contract. The invariant: each head passed is in place.
use Rattle.std.proofs.Common.{ℕ, ◌≡◌, ◌<◌, length, get_or}
use Rattle.cover.proofs.heads_of.Given as goal

abbrev pub invariant-loop-i : goal.invariant-loop-i
invariant-loop-i l = (length l.heads ≡ 16) × ((k : ℕ) → k < l.i → get_or l.heads k 0 ≡ get_or l.first_of (get_or l.detectors k 0) 0)
