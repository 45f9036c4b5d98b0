-- `mechanism_check::check_list`: what is left ascends from low on just where the whole list does from 0.
use Rattle.std.proofs.Common.{◌≡◌, drop}
use Rattle.dem.specs.Model.{ascending}
use Rattle.mechanism_check.proofs.check_list.Given as goal

abbrev pub invariant-loop-x : goal.invariant-loop-x
invariant-loop-x l = ascending l.low l.bound (drop l.x-index l.list) ≡ ascending 0 l.bound l.list
