-- The weight of an edge, in the words of docs/RULES.md, "Graphs". Every operation is one of binary64 and rounds once. Definitions only.
use Rattle.std.specs.Prelude.{ℕ, zero, suc, ◌+◌, ◌-◌, ◌*◌, ◌/◌, ◌%◌, ◌^◌, Bool, false, cond, ◌&&◌, ◌||◌, pos, Float}
use Rattle.std.specs.Float.{inf, fin, binary64}
use Rattle.std.specs.Float.Ieee.{round, add, sub, mul, div, le, lt, eq, of_int, of_bits, to_bits}

-- 0
abbrev pub zero64 : Float
zero64 = of_bits binary64 0

-- 1
abbrev pub one : Float
one = of_bits binary64 0x3ff0_0000_0000_0000

-- 2
abbrev pub two : Float
two = of_bits binary64 0x4000_0000_0000_0000

-- infinity
abbrev pub infinity : Float
infinity = of_bits binary64 0x7ff0_0000_0000_0000

-- c, having bits 3fe62e42fefa39ef
abbrev pub log_two : Float
log_two = of_bits binary64 0x3fe6_2e42_fefa_39ef

-- y = (1 - p) / p
abbrev pub odds : Float → Float
odds p = div binary64 (sub binary64 one p) p

-- k of y = m * 2 ^ k: the exponent's field, which counts from 1023
abbrev pub exponent : Float → ℕ
exponent y = to_bits binary64 y / 2 ^ 52 - 1023

-- m of y = m * 2 ^ k, in [1, 2): y's digits under the exponent of 1
abbrev pub significand : Float → Float
significand y = of_bits binary64 (to_bits binary64 y % 2 ^ 52 + 1023 * 2 ^ 52)

-- t = (m - 1) / (m + 1)
abbrev pub ratio : Float → Float
ratio m = div binary64 (sub binary64 m one) (add binary64 m one)

-- entry i, being 1 / (2 * i + 1) rounded once
unfoldable pub coefficient : ℕ → Float
coefficient i = round binary64 false 1 (2 * i + 1)

-- for i = n - 1 down to 0, r becomes r * s + entry i
unfoldable pub steps : ℕ → Float → Float → Float
steps zero s r = r
steps (suc i) s r = steps i s (add binary64 (mul binary64 r s) (coefficient i))

-- r starts as entry 15 and for i = 14 down to 0 becomes r * s + entry i
unfoldable pub sum_at : Float → Float
sum_at s = steps 15 s (coefficient 15)

-- (2 * t) * r, with s = t * t
unfoldable pub series : Float → Float
series t = mul binary64 (mul binary64 two t) (sum_at (mul binary64 t t))

-- k * c + (2 * t) * r
unfoldable pub logarithm : Float → Float
logarithm y = add binary64 (mul binary64 (of_int binary64 (pos (exponent y))) log_two) (series (ratio (significand y)))

-- 0 if y is at most 1; infinity if y is infinite, or no number; otherwise the logarithm
unfoldable pub weight_at : Float → Float
weight_at y = cond (le y one) zero64 (cond (lt y infinity) (logarithm y) infinity)

-- the weight of p, whatever p is: 0 where it is finite and below 0, -0, or 0.5 or more; infinity where it is 0, infinite, or no number
unfoldable pub weight_of : Float → Float
weight_of p = weight_at (odds p)

-- a weight that a lent graph may have: from 0 to 1,024, or infinity; minus zero is 0, and NaN is neither
unfoldable pub weight_fits : Float → Bool
weight_fits w = le (fin false 0 (pos 0)) w && (le w (fin false 1 (pos 10)) || eq w (inf false))
