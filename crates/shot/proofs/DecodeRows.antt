-- Room in columns that are kept. Assumes nothing.
use Prim.Native.Nat.{ℕ, ◌≤◌}
use native.Mathlib.Omega.{arith}
use mathlib.Core.List.{List, map}
use lib.ListN.{length}
use Rattle.columns.proofs.Columns.{keep_length}
use Rattle.shot.specs.Begin.{Room}
use Rattle.cells.specs.declared.Stack.{Stack}
use Rattle.cells.specs.Tables.{SameStacks, stack_column, seen, active}

place : {ks : List ℕ} {d : ℕ} {s s' : List Stack} → SameStacks ks s s' → (k : ℕ) → d ≤ length (map (stack_column k) s) → d ≤ length (map (stack_column k) s')
place a k h = omega (arith, keep_length a k)

pub place_then : {ks ls : List ℕ} {d : ℕ} {s s' s'' : List Stack} → SameStacks ks s s' → SameStacks ls s' s'' → (k : ℕ) → d ≤ length (map (stack_column k) s) → d ≤ length (map (stack_column k) s'')
place_then a b k h = place b k (place a k h)

pub room_on : {ks : List ℕ} {d : ℕ} {s s' : List Stack} → SameStacks ks s s' → d ≤ length (seen s) → d ≤ length (active s) → Room d (seen s') (active s')
room_on a p q = record { seens = place a 1 p; actives = place a 2 q }
