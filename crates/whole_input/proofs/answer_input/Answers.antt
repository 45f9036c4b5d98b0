-- `whole_input::answer_input`: the tables are long enough.
use mathlib.Core.Path.{refl}
use native.Mathlib.Omega.{arith}
use lib.ListN.{replicate}
use Rattle.counts.proofs.Rows.{no_row}
use Rattle.stream.proofs.Begins.{sizes_made}
use Rattle.whole_input.proofs.answer_input.Goals as goal

pub answer_over-requires : goal.answer_over-requires
answer_over-requires c = record { sizes = sizes_made _ (replicate 1024 no_row) _ (replicate 6 0) _ (record { bits = refl; counts = refl; entries = refl; shot = refl; u = refl; v = refl; weight = refl; obs = refl }); buffer = refl; room = omega arith }
