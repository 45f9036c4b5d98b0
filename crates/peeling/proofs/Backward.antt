-- Branches gone through from the last one back: what is left is the first of them. Assumes nothing.
use Prim.Native.Nat.{◌+◌, ◌-◌, ◌<◌}
use native.Mathlib.Omega.{arith}
use mathlib.Core.Path.{◌≡◌, refl, sym, ap, ◌∙◌}
use mathlib.Core.List.{List, [], ◌∷◌, ◌++◌}
use lib.ListN.{length, get_or, take}
use lib.Seq.{take_at, take-take, get_or-take}
use Rattle.std.proofs.lemmas.List.{length_push, get_or_push}
use Rattle.cells.specs.declared.Stack.{Stack}
use Rattle.cells.specs.Tables.{active, order_edge, order_parent}
use Rattle.cells.proofs.Stores.{no_stack, read_active, read_order_edge, read_order_parent}

-- those left are the first of l
abbrev pub Front : List Stack → List Stack → Type 0
Front l left = left ≡ take (length left) l

module _ (l left rest : List Stack) (x : Stack) (front : Front l left) (last : left ≡ rest ++ (x ∷ [])) where
  one_more : length left ≡ length rest + 1
  one_more = ap length last ∙ length_push rest x

  pub some_left : 0 < length left
  some_left = omega (arith, one_more)

  pub one_less : length rest ≡ length left - 1
  one_less = omega (arith, one_more)

  pub front_then : Front l rest
  front_then = sym (take_at rest (x ∷ []) (length rest) refl) ∙ ap (take (length rest)) (sym last ∙ front) ∙ take-take (length rest) (length left) l (omega (arith, one_more))

  row_is : x ≡ get_or l (length left - 1) no_stack
  row_is =
      sym (get_or_push rest x no_stack (length left - 1) one_less)
      ∙ ap (λ m. get_or m (length left - 1) no_stack) (sym last ∙ front)
      ∙ get_or-take (length left) l (length left - 1) no_stack (omega (arith, some_left))

  pub vertex_is : x.active ≡ get_or (active l) (length left - 1) 0
  vertex_is = ap (λ (r : Stack). r.active) row_is ∙ sym (read_active l (length left - 1))

  pub edge_is : x.order_edge ≡ get_or (order_edge l) (length left - 1) 0
  edge_is = ap (λ (r : Stack). r.order_edge) row_is ∙ sym (read_order_edge l (length left - 1))

  pub parent_is : x.order_parent ≡ get_or (order_parent l) (length left - 1) 0
  parent_is = ap (λ (r : Stack). r.order_parent) row_is ∙ sym (read_order_parent l (length left - 1))
