-- What XORing the row of a list into a row that began as zero leaves.
use Prim.Native.Nat.{ℕ}
use mathlib.Core.Path.{◌≡◌}
use mathlib.Core.List.{List}
use lib.ListN.{take, drop}
use Rattle.bits.specs.Rows.{words}
use Rattle.bits.proofs.Rows.{into_zero, past_it}
use Rattle.steps.specs.Graph.{Graph}
use Rattle.steps.specs.Rows.{zeros, row_of}
use Rattle.steps.specs.Shot.{row_after}
use Rattle.steps.specs.Found.{Blank}
use Rattle.found.proofs.Xors.{length_row}

module _ (g : Graph) (es was : List ℕ) where
  pub row_left_lem : Blank g was → take (words g.observables) (row_after g was es) ≡ row_of g es
  unfolding row_after zeros
  row_left_lem h = rw (← length_row g es) (into_zero (row_of g es) was (rw (length_row g es) h))

  pub row_past : drop (words g.observables) (row_after g was es) ≡ drop (words g.observables) was
  unfolding row_after
  row_past = rw (← length_row g es) (past_it (row_of g es) was)
