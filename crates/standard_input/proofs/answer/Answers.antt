-- `standard_input::answer`: the tables are long enough.
use Rattle.std.proofs.Common.{refl, arith}
use lib.ListN.{replicate}
use Rattle.counts.proofs.Rows.{no_row}
use Rattle.stream.proofs.Begins.{sizes_made}
use Rattle.standard_input.proofs.answer.Goals as goal

pub serve-requires : goal.serve-requires
serve-requires g c = record {
  sizes = sizes_made _ (replicate 1024 no_row) _ (replicate 6 0) _ (record { bits = refl; counts = refl; entries = refl; shot = refl; u = refl; v = refl; weight = refl; obs = refl });
  buffer = refl;
  room = omega arith;
}
