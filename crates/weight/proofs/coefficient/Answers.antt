-- `weight::coefficient` meets its contract: the whole table is the rule at 0, 1, .. 15, which is computed once, and `at` gives each entry. Assumes nothing.
use borrow.Author.Rules.{rules}
use lib.Ieee.{nan, of_bits, round}
use Rattle.weight.specs.Weight.{coefficient}
use Rattle.weight.proofs.Table.{at}
use Rattle.weight.proofs.coefficient.Goals as goal

pub returns : goal.returns
unfolding coefficient of_bits round
returns c = at coefficient nan 16 c.args.i (search rules)
