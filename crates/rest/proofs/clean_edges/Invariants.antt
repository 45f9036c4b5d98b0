-- `rest::clean_edges` meets its contract. Assumes nothing.
use Prim.Native.Nat.{ℕ, ◌+◌}
use mathlib.Core.Path.{◌≡◌}
use mathlib.Core.Bool.{false, cond}
use lib.ListN.{length, get_or}
use lib.Seq.{slice}
use lib.Ieee.{nan}
use Rattle.lists.specs.Lists.{member}
use Rattle.adjacency.specs.Pairs.{near}
use Rattle.growth_state.specs.Rep.{zero64}
use Rattle.rest.proofs.clean_edges.Given as goal

abbrev pub invariant-loop-neighbor : goal.invariant-loop-neighbor
invariant-loop-neighbor l = (length l.growth ≡ length l.initial.growth) × (length l.sat ≡ length l.initial.sat)
    × ((e : ℕ) → cond (member e (slice (l.start + l.neighbor-index) l.end (near l.adj))) zero64 (get_or l.growth e nan) ≡ cond (member e (slice l.start l.end (near l.adj))) zero64 (get_or l.initial.growth e nan))
    × ((e : ℕ) → cond (member e (slice (l.start + l.neighbor-index) l.end (near l.adj))) false (get_or l.sat e false) ≡ cond (member e (slice l.start l.end (near l.adj))) false (get_or l.initial.sat e false))
