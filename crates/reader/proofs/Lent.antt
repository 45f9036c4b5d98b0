-- The same slices after one call and the next.
use mathlib.Core.Path.{◌∙◌, refl}
use Rattle.reader.specs.declared.Tables.{Tables}
use Rattle.reader.specs.Lent.{SameTables}

pub same_none : (t : Tables) → SameTables t t
same_none t = record {
  probability_bits = refl;
  counts = refl;
  entries = refl;
  shot = refl;
  probability_bits_long = refl;
  counts_long = refl;
  entries_long = refl;
  shot_long = refl;
}

pub same_then : {t t' t'' : Tables} → SameTables t t' → SameTables t' t'' → SameTables t t''
same_then a b = record {
  probability_bits = b.probability_bits ∙ a.probability_bits;
  counts = b.counts ∙ a.counts;
  entries = b.entries ∙ a.entries;
  shot = b.shot ∙ a.shot;
  probability_bits_long = b.probability_bits_long ∙ a.probability_bits_long;
  counts_long = b.counts_long ∙ a.counts_long;
  entries_long = b.entries_long ∙ a.entries_long;
  shot_long = b.shot_long ∙ a.shot_long;
}
