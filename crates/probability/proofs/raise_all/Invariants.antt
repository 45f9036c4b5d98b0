-- `probability::raise_all`: p added to the entries from here on gives the answer.
use Rattle.std.proofs.Common.{◌≡◌, drop}
use Rattle.probability.specs.Probability.{raised_all}
use Rattle.probability.proofs.raise_all.Given as goal

abbrev pub invariant-loop-k : goal.invariant-loop-k
invariant-loop-k l = raised_all l.p (drop l.k-index l.members) l.probability ≡ raised_all l.p l.members l.initial.probability
