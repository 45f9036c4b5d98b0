-- Sums of counts that are bytes at most.
use Prim.Native.Nat.{ℕ, zero, suc, ◌+◌, ◌-◌, ◌≤◌}
use native.Mathlib.Omega.{arith}
use native.Mathlib.Numerals.{one-add}
use mathlib.Core.Path.{◌≡◌, ap, ◌∙◌}
use mathlib.Core.List.{List}
use lib.ListN.{get_or, take, drop}
use lib.Seq.{get_or-drop}
use Rattle.dem.specs.Positions.{total}
use Rattle.dem.proofs.Sums.{total_first, total_none, total_add}
use Rattle.model_check.specs.Bits.{Bytes}

rest_at : (l : List ℕ) (k : ℕ) → get_or (drop 1 l) k 0 ≡ get_or l (suc k) 0
rest_at l k = get_or-drop 1 l k 0 ∙ ap (λ (j : ℕ). get_or l j 0) (one-add k)

pub total_bytes : (n : ℕ) (cs bs : List ℕ) → Bytes n cs bs → total (take n bs) ≤ total (take n cs)
total_bytes zero cs bs h = omega (arith, total_none cs, total_none bs)
total_bytes (suc n) cs bs h =
    omega (
      arith,
      total_first n cs,
      total_first n bs,
      h 0 (omega arith),
      total_bytes n (drop 1 cs) (drop 1 bs) (λ k l. rw (rest_at cs k, rest_at bs k) (h (suc k) (omega arith))),
    )

pub total_le : (a b : ℕ) (l : List ℕ) → a ≤ b → total (take a l) ≤ total (take b l)
total_le a b l h =
    let e : a + (b - a) ≡ b = omega arith in
    omega (arith, ap (λ (k : ℕ). total (take k l)) e, total_add a (b - a) l)
