-- `adjacency::sums` meets its contract. The invariant: sum has the edges of the detectors before the place, which are past their last edges; the others are counts. Assumes nothing.
use Prim.Native.Nat.{ℕ, suc, ◌+◌, ◌≤◌, ◌<◌}
use mathlib.Core.Path.{◌≡◌}
use lib.ListN.{length, get_or}
use Rattle.adjacency.specs.Adjacent.{degree, total}
use Rattle.adjacency.proofs.sums.Given as goal

abbrev pub invariant-loop-offset : goal.invariant-loop-offset
invariant-loop-offset l =
    let d = l.g.detectors in
    let count = degree l.g.edge_u.now l.g.edge_v.now in
    record {
      offs : length l.adj_offsets ≡ d + 1;
      sum_is : l.offset-index ≤ d → l.sum ≡ total count l.offset-index;
      tops : (y : ℕ) → y < l.offset-index → y < d → get_or l.adj_offsets y 0 ≡ total count (suc y);
      last : d < l.offset-index → get_or l.adj_offsets d 0 ≡ total count d;
      counts : (y : ℕ) → l.offset-index ≤ y → y < d → get_or l.adj_offsets y 0 ≡ count y;
      past : (y : ℕ) → l.offset-index ≤ y → d ≤ y → get_or l.adj_offsets y 0 ≡ 0;
    }
