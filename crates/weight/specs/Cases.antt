-- The cases of the weight, with some at the edges, by computation.
use Rattle.std.specs.Prelude.{◌≡◌, refl}
use Rattle.std.specs.Float.Ieee as Ieee
use Rattle.std.specs.Float.{nan, binary64}
use Rattle.std.specs.Float.Ieee.{of_bits}
use Rattle.weight.specs.Weight.{zero64, infinity, coefficient, steps, sum_at, series, logarithm, weight_at, weight_of}

-- the cases, one field each
pub record Cases : Type 0 where
  -- p = 0.5: y is 1
  pub half : weight_of (of_bits binary64 0x3fe0_0000_0000_0000) ≡ zero64
  -- p = 0.75: y is below 1
  pub three_quarters : weight_of (of_bits binary64 0x3fe8_0000_0000_0000) ≡ zero64
  -- p = 0.25: y is 3, which is 1.5 * 2 ^ 1
  pub quarter : weight_of (of_bits binary64 0x3fd0_0000_0000_0000) ≡ of_bits binary64 0x3ff1_93ea_7aad_030a
  -- p = 0.1: y is 9
  pub tenth : weight_of (of_bits binary64 0x3fb9_9999_9999_999a) ≡ of_bits binary64 0x4001_93ea_7aad_030a
  -- the least p above 0: y is infinite
  pub least : weight_of (of_bits binary64 1) ≡ infinity
  -- p = 0: y is infinite
  pub zero : weight_of (of_bits binary64 0) ≡ infinity
  -- p = -0: y is minus infinity
  pub minus_zero : weight_of (of_bits binary64 0x8000_0000_0000_0000) ≡ zero64
  -- p = -1: y is below 0
  pub negative : weight_of (of_bits binary64 0xbff0_0000_0000_0000) ≡ zero64
  -- p = 2: y is below 0
  pub above_one : weight_of (of_bits binary64 0x4000_0000_0000_0000) ≡ zero64
  -- p is infinite: y is a NaN
  pub infinite : weight_of infinity ≡ infinity
  -- p is a NaN: so is y
  pub not_a_number : weight_of nan ≡ infinity

-- each computed
pub cases : Cases
unfolding weight_of weight_at logarithm series sum_at steps coefficient Ieee.round Ieee.add Ieee.sub Ieee.mul Ieee.div Ieee.le Ieee.lt Ieee.of_int Ieee.of_bits Ieee.to_bits
cases = record {
  half = refl;
  three_quarters = refl;
  quarter = refl;
  tenth = refl;
  least = refl;
  zero = refl;
  minus_zero = refl;
  negative = refl;
  above_one = refl;
  infinite = refl;
  not_a_number = refl;
}
