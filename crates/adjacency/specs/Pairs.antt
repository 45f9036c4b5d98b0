-- The adjacency as a table of rows: an edge and its other end.
use Rattle.std.specs.Prelude.{ℕ, zero, suc, ◌+◌, ◌*◌, ◌<◌, ◌≤◌, List, map, length, take}
use Rattle.adjacency.specs.declared.Neighbor.{Neighbor}
use Rattle.steps.specs.Graph.{Ends}
use Rattle.adjacency.specs.Adjacent.{plain, Adjacent}

abbrev pub near : List Neighbor → List ℕ
near = map (λ r. r.edge)

abbrev pub away : List Neighbor → List ℕ
away = map (λ r. r.other)

-- by number; there are no more
abbrev pub neighbor_column : ℕ → Neighbor → ℕ
neighbor_column zero r = r.edge
neighbor_column (suc zero) r = r.other
neighbor_column (suc (suc k)) r = 0

-- ---- in slices that may be longer than d detectors and n edges need

-- n edges whose ends are in order, and room for them at their detectors
pub record Tabled (d n : ℕ) (u v off : List ℕ) (adj : List Neighbor) : Type 0 where
  pub ends : Ends (plain d (take n u) (take n v))
  pub few : 2 * n < 4294967296
  pub firsts : n ≤ length u
  pub others : n ≤ length v
  pub offs : d + 1 ≤ length off
  pub rows : 2 * n ≤ length adj

-- the first n edges at each detector
abbrev pub AdjacentParts : ℕ → ℕ → List ℕ → List ℕ → List ℕ → List Neighbor → Type 0
AdjacentParts d n u v off adj = Adjacent d (take n u) (take n v) (take (d + 1) off) (near adj) (away adj)
