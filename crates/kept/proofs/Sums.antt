-- Sums of the first counts.
use Prim.Native.Nat.{ℕ, ◌+◌, ◌-◌, ◌≤◌}
use native.Mathlib.Nat.{add-zero}
use native.Mathlib.Omega.{arith}
use mathlib.Core.Path.{◌≡◌, ap, ◌∙◌}
use mathlib.Core.List.{List}
use lib.ListN.{get_or, take, drop}
use Rattle.dem.specs.Positions.{total}
use Rattle.dem.proofs.Sums.{total_add, total_none, total_first}
use lib.Seq.{get_or-drop}

module _ (xs : List ℕ) where
  pub sum_none : total (take 0 xs) ≡ 0
  sum_none = total_none xs

  pub sum_next : (i : ℕ) → total (take (i + 1) xs) ≡ total (take i xs) + get_or xs i 0
  sum_next i =
      let e : get_or (drop i xs) 0 0 ≡ get_or xs i 0 = get_or-drop i xs 0 0 ∙ ap (λ (k : ℕ). get_or xs k 0) (add-zero i) in
      omega (arith, total_add i 1 xs, total_first 0 (drop i xs), total_none (drop 1 (drop i xs)), e)

  pub sum_upto : (i n : ℕ) → i ≤ n → total (take i xs) ≤ total (take n xs)
  sum_upto i n h =
      let e : i + (n - i) ≡ n = omega arith in
      let q = ap (λ (k : ℕ). total (take k xs)) e in
      omega (arith, q, total_add i (n - i) xs)
