-- `edges::write_row`: the bits of the entries so far are set in the zero row.
use mathlib.Core.Path.{◌≡◌}
use lib.ListN.{length, replicate, take}
use Rattle.bits.specs.Rows.{words}
use Rattle.edges.proofs.Rows.{set_all}
use Rattle.edges.proofs.write_row.Given as goal

abbrev pub invariant-loop-j : goal.invariant-loop-j
invariant-loop-j l = (length l.row ≡ words l.observables) × (l.row ≡ set_all (replicate (words l.observables) 0) (take l.j-index l.list))
