-- `packed::validate_shot_major_padding` meets its contract. The invariant: the answer from this shot on is the answer.
use Prim.Native.Nat.{◌-◌}
use mathlib.Core.Path.{◌≡◌}
use Rattle.lists.specs.Lists.{from, below}
use Rattle.packed.specs.Packed.{check_padding}
use Rattle.packed.proofs.validate_shot_major_padding.Given as goal

abbrev pub invariant-loop-shot : goal.invariant-loop-shot
invariant-loop-shot l = check_padding l.num_measurements l.«data» (from (l.num_shots - l.shot) l.shot) ≡ check_padding l.num_measurements l.«data» (below l.num_shots)
