-- `cover::earlier_equal` meets its contract. The invariant: the answer from here down is the whole answer.
use Rattle.std.proofs.Common.{◌≡◌}
use Rattle.cover.specs.Search.{highest}
use Rattle.cover.specs.Lent.{equal_in}
use Rattle.cover.proofs.earlier_equal.Given as goal

abbrev pub invariant-loop-i : goal.invariant-loop-i
invariant-loop-i l = highest (λ i. equal_in l.c i l.j) l.i ≡ highest (λ i. equal_in l.c i l.j) l.j
