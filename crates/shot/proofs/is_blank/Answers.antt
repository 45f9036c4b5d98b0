-- `shot::is_blank` meets its contract.
use Rattle.std.proofs.Common.{◌∙◌, rules, tests}
use Rattle.std.proofs.lemmas.Iterator.{YieldsList-from_slice}
use Rattle.std.proofs.lemmas.Iterator.Search.{all_from_yields_List}
use lib.Dec.{eqb}
use Rattle.shot.proofs.Blank.{all_blank}
use Rattle.shot.proofs.is_blank.Goals as goal

pub returns : goal.returns
returns c = all_from_yields_List (λ w. eqb w 0) _ _ _ c.all.ensures.ran (YieldsList-from_slice c.args.row.now cc) (λ x b q k. search (rules, tests)) ∙ all_blank c.args.row.now
