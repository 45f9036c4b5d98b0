-- `bits::xor_into` meets its contract. The invariant: XOR of the words from i on gives the answer.
use mathlib.Core.Path.{◌≡◌}
use Rattle.bits.specs.Rows.{xor_row}
use Rattle.bits.proofs.Rows.{xor_from}
use Rattle.bits.proofs.xor_into.Given as goal

abbrev pub invariant-loop-i : goal.invariant-loop-i
invariant-loop-i l = xor_from l.row l.other l.i ≡ xor_row l.initial.row l.other
