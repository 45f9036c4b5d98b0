-- What holds of every weight. Statements only: proofs/Laws.antt proves them.
use Rattle.std.specs.Prelude.{◌≡◌, true, false, ℕ, ◌+◌, ◌*◌, ◌%◌, ◌^◌, ◌≤◌, ◌<◌, Float}
use Rattle.std.specs.Float.{binary64}
use Rattle.std.specs.Float.Ieee.{fits, le, lt, to_bits}
use Rattle.std.specs.Float.Ieee.Exact.{HasValue}
use Rattle.weight.specs.Weight.{one, infinity, exponent, significand, weight_of, weight_fits}

-- n: y's 53 digits as a whole number, the leading one among them
abbrev pub digits : Float → ℕ
digits y = 2 ^ 52 + to_bits binary64 y % 2 ^ 52

-- y = m * 2 ^ k, m in [1, 2). `HasValue x false a b` says that x is a / b exactly
pub record Split (y : Float) : Type 0 where
  -- m is n / 2 ^ 52
  pub m_is : HasValue (significand y) false (digits y) (2 ^ 52)
  -- which is 1 at least
  pub m_from_1 : 2 ^ 52 ≤ digits y
  -- and below 2
  pub m_below_2 : digits y < 2 ^ 53
  -- y is n / 2 ^ 52 * 2 ^ k
  pub y_is : HasValue y false (digits y * 2 ^ exponent y) (2 ^ 52)
  -- k is at most the largest exponent of binary64
  pub k_most : exponent y ≤ 1023

-- the laws of the weight
pub record Laws : Type 0 where
  -- every y of binary64 that is not at most 1 and is below infinity is m * 2 ^ k
  pub split : (y : Float) → fits binary64 y ≡ true → le y one ≡ false → lt y infinity ≡ true → Split y
  -- the weight of every p passes the check of a lent graph, whatever p is
  pub passes : (p : Float) → weight_fits (weight_of p) ≡ true
