-- The entry that a loop over a part of a table reads, from its column. Assumes nothing.
use Prim.Native.Nat.{ℕ, ◌+◌, ◌-◌, ◌<◌}
use native.Mathlib.Omega.{arith}
use mathlib.Core.Path.{◌≡◌, sym, ap, ◌∙◌}
use mathlib.Core.List.{List}
use lib.ListN.{length, get_or, take, drop, length-take}
use lib.Seq.{get_or-take, get_or-drop}
use Rattle.adjacency.specs.declared.Neighbor.{Neighbor}
use Rattle.adjacency.specs.Pairs.{near}
use Rattle.adjacency.proofs.Neighbors.{no_neighbor, read_edge}
use Rattle.cells.specs.declared.Stack.{Stack}
use Rattle.cells.specs.Tables.{seen}
use Rattle.cells.proofs.Stores.{no_stack, read_seen}

module _ (adj : List Neighbor) (start end i : ℕ) (h : i < length (take (end - start) (drop start adj))) where
  pub before_end : start + i < end
  before_end = omega (arith, length-take (end - start) (drop start adj))

  pub edge_at : (get_or (take (end - start) (drop start adj)) i no_neighbor).edge ≡ get_or (near adj) (start + i) 0
  edge_at = ap (λ (r : Neighbor). r.edge) (get_or-take (end - start) (drop start adj) i no_neighbor (omega (arith, before_end)) ∙ get_or-drop start adj i no_neighbor) ∙ sym (read_edge adj (start + i))

module _ (stacks : List Stack) (n i : ℕ) (h : i < length (take n stacks)) where
  pub in_list : i < n
  in_list = omega (arith, length-take n stacks)

  pub seen_at : (get_or (take n stacks) i no_stack).seen ≡ get_or (seen stacks) i 0
  seen_at = ap (λ (r : Stack). r.seen) (get_or-take n stacks i no_stack in_list) ∙ sym (read_seen stacks i)
