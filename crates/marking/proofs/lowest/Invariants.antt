-- `marking::lowest` meets its contract: the lowest of the words from here on is the lowest of all.
use Prim.Native.Nat.{◌*◌}
use mathlib.Core.Path.{◌≡◌}
use lib.ListN.{length}
use Rattle.bits.specs.Rows.{set_bits}
use Rattle.bits.proofs.Listed.{rest_bits}
use Rattle.marking.specs.Passes.{lowest_of}
use Rattle.marking.proofs.lowest.Given as goal

abbrev pub invariant-loop-i : goal.invariant-loop-i
invariant-loop-i l = lowest_of (rest_bits l.row l.i) ≡ lowest_of (set_bits (64 * length l.row) l.row)
