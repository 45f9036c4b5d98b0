-- The rounds finished are one number: where growth has ended, no further round is begun.
use Rattle.std.specs.Prelude.{Option, None, Some}
use Prim.Native.Nat.{ℕ, ◌<◌}
use native.Mathlib.Omega.{arith}
use mathlib.Core.Path.{◌≡◌}
use mathlib.Core.List.{List, [], ◌∷◌}
use mathlib.Core.Bool.{Bool}
use lib.Dec.{ltb}
use borrow.Author.Tests.{ltb-true, ltb-false}
use Rattle.lists.proofs.Truth.{case-of}
use Rattle.steps.specs.Graph.{Graph}
use Rattle.steps.specs.Growth.{onward, after, turn, turn_of, first_stuck}
use Rattle.steps.specs.Found.{Rounds, NoneActive, Halted, AllRounds, OneCount}

-- a round is begun only where a cluster is active and none is stuck
active_of : (l : List ℕ) (o : Option ℕ) → turn_of l o ≡ onward → l ≡ [] → ⊥
unfolding turn_of
active_of [] o e q = cc
active_of (a ∷ l) o e q = cc

free_of : (l : List ℕ) (o : Option ℕ) (d : ℕ) → turn_of l o ≡ onward → o ≡ Some d → ⊥
unfolding turn_of
free_of [] o d e q = cc
free_of (a ∷ l) None d e q = cc
free_of (a ∷ l) (Some c) d e q = cc

module _ (g : Graph) (lit : List Bool) where
  by_none : (n : ℕ) → Rounds g lit n → NoneActive g lit n → AllRounds g lit n
  unfolding turn
  by_none n r q = record { finished = r; over = λ e. active_of (after g lit n).active (first_stuck g lit (after g lit n) (after g lit n).active) e q }

  by_halt : (n d : ℕ) → Rounds g lit n → Halted g lit n d → AllRounds g lit n
  unfolding turn
  by_halt n d r q = record { finished = r; over = λ e. free_of (after g lit n).active (first_stuck g lit (after g lit n) (after g lit n).active) d e q }

  not_fewer : (m n : ℕ) → AllRounds g lit m → AllRounds g lit n → m < n → ⊥
  not_fewer m n a b l = a.over (b.finished.each m l).begun

  one_number : (m n : ℕ) → AllRounds g lit m → AllRounds g lit n → m ≡ n
  one_number m n a b =
      case-of (ltb m n)
      (λ t. absurd (not_fewer m n a b (ltb-true m n t)))
      (λ f. case-of (ltb n m)
      (λ t. absurd (not_fewer n m b a (ltb-true n m t)))
      (λ h. omega (arith, ltb-false m n f, ltb-false n m h)))

  pub one_count : OneCount g lit
  one_count = record { none_active = by_none; halted = by_halt; same = one_number }
