-- `cover::lowest_head` meets its contract. The invariant: none passed is lower.
use Rattle.std.proofs.Common.{ℕ, ◌≤◌, ◌<◌, get_or}
use Rattle.cover.proofs.lowest_head.Given as goal

abbrev pub invariant-loop-i : goal.invariant-loop-i
invariant-loop-i l = (l.at < l.n) × ((k : ℕ) → k < l.i → get_or l.heads l.at 0 ≤ get_or l.heads k 0)
