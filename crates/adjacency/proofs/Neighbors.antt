-- A field of a neighbor read, from its column. Assumes nothing.
use Prim.Native.Nat.{ℕ}
use mathlib.Core.Path.{◌≡◌}
use mathlib.Core.List.{List}
use lib.ListN.{get_or, get_or-map}
use Rattle.adjacency.specs.declared.Neighbor.{Neighbor}
use Rattle.adjacency.specs.Pairs.{near, away}

-- the row that a read past the table gives
abbrev pub no_neighbor : Neighbor
no_neighbor = record { edge = 0; other = 0 }

pub read_edge : (t : List Neighbor) (x : ℕ) → get_or (near t) x 0 ≡ (get_or t x no_neighbor).edge
read_edge t x = get_or-map (λ r. r.edge) t x no_neighbor

pub read_other : (t : List Neighbor) (x : ℕ) → get_or (away t) x 0 ≡ (get_or t x no_neighbor).other
read_other t x = get_or-map (λ r. r.other) t x no_neighbor
