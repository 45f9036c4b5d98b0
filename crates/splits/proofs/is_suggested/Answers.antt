-- `splits::is_suggested`: there are counts, and all are one or two.
use Rattle.std.proofs.Common.{rules, arith}
use Rattle.std.proofs.lemmas.Iterator.{YieldsList-from_slice}
use Rattle.std.proofs.lemmas.Iterator.Search.{all_from_yields_List}
use borrow.Author.Tests.{tests}
use lib.Dec.{leb}
use mathlib.Core.Bool.{◌&&◌}
use Rattle.splits.proofs.Suggests.{counts_none, counts_some}
use Rattle.splits.proofs.is_suggested.Goals as goal

pub returns-then-not-is_empty : goal.returns-then-not-is_empty
returns-then-not-is_empty c =
    rw (counts_some c.args.counts.now (grind arith))
    (all_from_yields_List (λ n. leb 1 n && leb n 2) _ _ _ c.all.ensures.ran (YieldsList-from_slice c.args.counts.now cc) (λ x b q k. search (rules, tests)))

pub returns-else-not-is_empty : goal.returns-else-not-is_empty
returns-else-not-is_empty c = rw (counts_none c.args.counts.now (grind arith)) (grind arith)
