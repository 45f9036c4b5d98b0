-- What the rounds keep, in columns. Assumes nothing.
use Prim.Native.Nat.{ℕ}
use mathlib.Core.Path.{◌≡◌, refl}
use mathlib.Core.List.{List, [], ◌∷◌}
use mathlib.Core.Bool.{Bool}
use Rattle.columns.proofs.Columns.{keep_length}
use Rattle.shot.specs.Shots.{Left}
use Rattle.shot.proofs.Rounds.{left_on}
use Rattle.cells.specs.declared.Stack.{Stack}
use Rattle.cells.specs.Tables.{SameStacks, defects, active, front, order_edge, order_parent}

pub left_kept : {d o : ℕ} {lit lit' : List Bool} {row list : List ℕ} {l : ℕ} {s s' : List Stack} → SameStacks (1 ∷ 2 ∷ 3 ∷ []) s s' → Left d o lit row list (defects s) l (active s) (front s) (order_edge s) (order_parent s) → lit' ≡ lit
    → Left d o lit' row list (defects s') l (active s') (front s') (order_edge s') (order_parent s')
left_kept k a e = rw (k.rest 0 refl, k.rest 4 refl, k.rest 5 refl) (left_on a e (keep_length k 2) (keep_length k 3))
