-- The shot decoder: growth, then peeling; and the row that it leaves.
use Rattle.std.specs.Prelude.{ℕ, List, Bool}
use Rattle.steps.specs.Graph.{Graph}
use Rattle.bits.specs.Rows.{xor_row}
use Rattle.steps.specs.Rows.{row_of}
use Rattle.steps.specs.Growth.{Growth, stuck, settled, short, growth}
use Rattle.steps.specs.Peeling.{peeled}

-- either way the number of finished rounds comes first
pub data Decoded : Type 0 where
  -- Stuck: no correction; the detector named
  impossible : ℕ → ℕ → Decoded
  -- the correction list
  corrected : ℕ → List ℕ → Decoded

-- the answer, by how growth ends
unfoldable pub answer : Graph → List Bool → Growth → Decoded
unfolding peeled
answer g lit (stuck n d) = impossible n d
answer g lit (settled n s) = corrected n (peeled g s.saturated s.label lit)
answer g lit short = impossible 0 0

unfoldable pub decode : Graph → List Bool → Decoded
unfolding growth answer
decode g lit = answer g lit (growth g lit)

-- the observables of the list are XORed into the row that was there
unfoldable pub row_after : Graph → List ℕ → List ℕ → List ℕ
unfolding xor_row row_of
row_after g was list = xor_row was (row_of g list)

-- the row that an answer leaves: a stuck shot's is untouched
unfoldable pub row_left : Graph → List ℕ → Decoded → List ℕ
unfolding row_after
row_left g was (impossible n d) = was
row_left g was (corrected n list) = row_after g was list
