-- A field read after stores of other fields, and two stores of one. Assumes nothing.
use Prim.Native.Nat.{ℕ}
use mathlib.Core.Path.{◌≡◌, refl, sym, ap, ◌∙◌}
use mathlib.Core.List.{List, [], ◌∷◌}
use mathlib.Core.Bool.{false, not}
use lib.ListN.{get_or, set}
use Rattle.steps.specs.Peeling.{toggle}
use Rattle.columns.proofs.Columns.{map_set}
use Rattle.cells.specs.declared.Node.{Node}
use Rattle.cells.specs.declared.Flags.{Flags}
use Rattle.cells.specs.declared.Stack.{Stack}
use Rattle.cells.specs.Tables.{exits, lits, defects, SameTree, SameStacks}
use Rattle.cells.proofs.Stores.{no_node, no_flags, no_stack, read_exit, read_lit, read_defect}

pub exit_found : {t t' : List Node} → SameTree (0 ∷ []) t t' → (k : ℕ) → (get_or t' k no_node).exit ≡ get_or (exits t) k 0
exit_found {t' = t'} s k = sym (read_exit t' k) ∙ ap (λ l. get_or l k 0) (s.rest 1 refl)

pub defect_found : {t t' : List Stack} → SameStacks (2 ∷ 3 ∷ 4 ∷ 5 ∷ []) t t' → (k : ℕ) → (get_or t' k no_stack).defect ≡ get_or (defects t) k 0
defect_found {t' = t'} s k = sym (read_defect t' k) ∙ ap (λ l. get_or l k 0) (s.rest 0 refl)

-- x is put out, and y is flipped
pub flipped : (f : List Flags) (x y : ℕ) →
    let a : List Flags = set f x (record (get_or f x no_flags) { lit = false }) in
    lits (set a y (record (get_or a y no_flags) { lit = not (get_or a y no_flags).lit })) ≡ toggle (set (lits f) x false) y
flipped f x y =
    let a : List Flags = set f x (record (get_or f x no_flags) { lit = false }) in
    map_set (λ (r : Flags). r.lit) a y _ ∙ ap (λ b. set (lits a) y (not b)) (sym (read_lit a y)) ∙ ap (λ l. toggle l y) (map_set (λ (r : Flags). r.lit) f x _)
