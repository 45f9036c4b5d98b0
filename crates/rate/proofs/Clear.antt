-- A predicted row has clear padding: it is the XOR of observables of an accepted graph.
use Prim.Native.Nat.{ℕ, ◌≤◌}
use native.Mathlib.Omega.{arith}
use mathlib.Core.Path.{◌≡◌, ap, ◌∙◌}
use mathlib.Core.List.{List, [], ◌∷◌}
use mathlib.Core.Bool.{true}
use lib.Dec.{ltb}
use lib.ListN.{length, get_or, get_or-eq_default}
use borrow.Author.Tests.{ltb-true, ltb-false}
use Rattle.lists.proofs.Truth.{case-of}
use Rattle.bits.specs.Rows.{words, is_clear}
use Rattle.bits.proofs.Rows.{zero_clear, xor_clear, clear_whole}
use Rattle.steps.specs.Graph.{Graph}
use Rattle.steps.specs.Rows.{zeros, row_of}
use Rattle.steps.specs.Shot.{Decoded, impossible, corrected, row_left, row_after}
use Rattle.steps.specs.Call.{AcceptedGraph}
use Rattle.found.proofs.Accepted.{accepted_rows}

module _ (g : Graph) (a : AcceptedGraph g) where
  -- those of any edge number: past the edges there are none
  edge_clear : (e : ℕ) → is_clear g.observables (get_or g.edge_obs e []) ≡ true
  edge_clear e = case-of (ltb e (length g.edge_u))
      (λ t. (accepted_rows g a e (ltb-true e (length g.edge_u) t)).1)
      (λ f. ap (is_clear g.observables) (let past : length g.edge_obs ≤ e = omega (arith, a.obs_table, ltb-false e (length g.edge_u) f) in get_or-eq_default g.edge_obs [] past) ∙ clear_whole g.observables [] (omega arith))

  zeros_clear : is_clear g.observables (zeros g) ≡ true
  unfolding zeros
  zeros_clear = zero_clear g.observables (words g.observables)

  row_clear : (es : List ℕ) → is_clear g.observables (row_of g es) ≡ true
  unfolding row_of
  row_clear [] = zeros_clear
  row_clear (e ∷ es) = xor_clear g.observables (row_of g es) (get_or g.edge_obs e []) (row_clear es) (edge_clear e)

  pub left_clear : (x : Decoded) → is_clear g.observables (row_left g (zeros g) x) ≡ true
  unfolding row_left row_after
  left_clear (impossible n d) = zeros_clear
  left_clear (corrected n list) = xor_clear g.observables (zeros g) (row_of g list) zeros_clear (row_clear list)
