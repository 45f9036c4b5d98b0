-- `rest::rest_tree` meets its contract. Assumes nothing.
use mathlib.Core.Path.{◌≡◌}
use mathlib.Core.List.{◌++◌, map}
use lib.ListN.{drop}
use Rattle.lists.specs.Lists.{below}
use Rattle.rest.specs.Rows.{alone}
use Rattle.rest.proofs.rest_tree.Given as goal

abbrev pub invariant-loop-i : goal.invariant-loop-i
invariant-loop-i l = l.t ≡ map alone (below l.i) ++ drop l.i l.initial.t
