-- Columns that were read: docs/RULES.md, "Frames" and "Models".
use Rattle.std.specs.Prelude.{ℕ, min, ◌<◌, ◌≡◌, cond, true, List, get_or, Float}
use Rattle.std.specs.Float.Ieee as Ieee
use Rattle.std.specs.Float.{binary64, nan}
use Rattle.dem.specs.Model.{probability_fits}

-- 2.0, which is no probability
abbrev pub two : Float
two = Ieee.of_bits binary64 0x4000000000000000

-- the number that bits stand for; for a NaN's a number that the check refuses alike
unfoldable pub probability_of : ℕ → Float
probability_of b = cond (Ieee.nan_bits binary64 b) two (Ieee.of_bits binary64 b)

-- the first n of two columns pass the check alike, and are the same where they pass
pub record Alike (n : ℕ) (ps qs : List Float) : Type 0 where
  pub fits : (k : ℕ) → k < n → probability_fits (get_or qs k nan) ≡ probability_fits (get_or ps k nan)
  pub same : (k : ℕ) → k < n → probability_fits (get_or qs k nan) ≡ true → get_or qs k nan ≡ get_or ps k nan

-- the first n of a column of counts, each as a byte at most
abbrev pub Bytes : ℕ → List ℕ → List ℕ → Type 0
Bytes n cs ds = (k : ℕ) → k < n → get_or ds k 0 ≡ min 255 (get_or cs k 0)
