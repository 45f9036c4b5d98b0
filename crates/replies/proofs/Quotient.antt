-- The rate is a number.
use Prim.Native.Nat.{ℕ, ◌<◌, ◌≤◌}
use native.Mathlib.Omega.{arith}
use mathlib.Core.Bool.{not}
use lib.IntN.{pos}
use lib.Dec.{T}
use lib.Ieee.{Float, nan, inf, fin, binary64, div, of_int, is_nan}
use Rattle.weight.proofs.Values.{Units, int_units}
use Rattle.weight.proofs.Range.{Range, whole_range, div_range}

no_nan : (x : Float) (X : ℕ) → Units x X → T (not (is_nan x))
unfolding is_nan
no_nan nan X h = absurd h
no_nan (inf s) X h = tt
no_nan (fin s m e) X h = tt

pub rate_number : (failures shots : ℕ) → 0 < shots → failures ≤ shots → shots < 4294967296 → T (not (is_nan (div binary64 (of_int binary64 (pos failures)) (of_int binary64 (pos shots)))))
rate_number failures shots some few small =
    let f : Range failures failures (of_int binary64 (pos failures)) = whole_range failures (int_units failures (omega (arith, few, small))) in
    let s : Range shots shots (of_int binary64 (pos shots)) = whole_range shots (int_units shots (omega (arith, small))) in
    let r = div_range 1 f s some (omega (arith, few)) (omega arith) (omega arith) in
    no_nan _ r.X r.value
