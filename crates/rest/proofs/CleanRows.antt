-- A detector's rows put to rest. Assumes nothing.
use Prim.Native.Nat.{ℕ, ◌<◌}
use native.Mathlib.Omega.{arith}
use mathlib.Core.Path.{◌≡◌}
use mathlib.Core.List.{List, ◌∷◌}
use mathlib.Core.Bool.{Bool}
use lib.ListN.{length, set}
use lib.Ieee.{Float}
use Rattle.adjacency.specs.Adjacent.{star}
use Rattle.columns.proofs.Columns.{map_set, column_length}
use Rattle.cells.specs.declared.Node.{Node}
use Rattle.cells.specs.declared.Flags.{Flags}
use Rattle.cells.specs.Tables.{node_column, flag_column, parents, exits, lits, knowns, odds, hots, frees}
use Rattle.growth_state.specs.Rep.{Used}
use Rattle.rest.specs.Clean.{Cleared}
use Rattle.rest.specs.Rows.{alone, quiet}
use Rattle.rest.proofs.Cleaned.{used_next}

-- what a shot may have changed, by rows
abbrev pub UsedRows : ℕ → List ℕ → List ℕ → List ℕ → List Node → List Flags → List Float → List Bool → Type 0
UsedRows d us vs xs t f growth sat = Used d us vs xs (lits f) growth sat (knowns f) (parents t) (odds f) (exits t) (hots f) (frees f)

module _ (t : List Node) (f : List Flags) {d : ℕ} {us vs xs : List ℕ} {growth : List Float} {sat : List Bool} where
  pub many_trees : UsedRows d us vs xs t f growth sat → length t ≡ d
  many_trees u = omega (arith, column_length node_column 0 t, u.parents)

  pub many_flags : UsedRows d us vs xs t f growth sat → length f ≡ d
  many_flags u = omega (arith, column_length flag_column 0 f, u.lits)

pub rows_next : (t : List Node) (f : List Flags) {d : ℕ} {us vs : List ℕ} {x : ℕ} {xs : List ℕ} {growth : List Float} {sat : List Bool} → UsedRows d us vs (x ∷ xs) t f growth sat → x < d
    → {growth' : List Float} {sat' : List Bool} → Cleared (star us vs x) growth sat growth' sat' → length growth' ≡ length growth → length sat' ≡ length sat
    → UsedRows d us vs xs (set t x (alone x)) (set f x quiet) growth' sat'
rows_next t f u hx c lg ls = simp map_set (used_next u hx c lg ls)
