-- The tables as slices that are lent.
use Rattle.std.specs.Prelude.{◌≡◌, length}
use Rattle.reader.specs.declared.Tables.{Tables}
use Rattle.reader.specs.Columns.{Columns, columns_of}

abbrev pub columns_in : Tables → Columns
columns_in t = columns_of t.probability_bits.now t.counts.now t.entries.now t.shot.now

-- each slice is the one that was lent, and as long
pub record SameTables (t t' : Tables) : Type 0 where
  pub probability_bits : t'.probability_bits.ghost_name ≡ t.probability_bits.ghost_name
  pub counts : t'.counts.ghost_name ≡ t.counts.ghost_name
  pub entries : t'.entries.ghost_name ≡ t.entries.ghost_name
  pub shot : t'.shot.ghost_name ≡ t.shot.ghost_name
  pub probability_bits_long : length t'.probability_bits.now ≡ length t.probability_bits.now
  pub counts_long : length t'.counts.now ≡ length t.counts.now
  pub entries_long : length t'.entries.now ≡ length t.entries.now
  pub shot_long : length t'.shot.now ≡ length t.shot.now
