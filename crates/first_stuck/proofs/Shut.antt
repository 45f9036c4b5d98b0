-- The turns of the pass over the active clusters. Assumes nothing.
use Prim.Native.Nat.{ℕ, ◌+◌, ◌<◌, ◌≤◌}
use mathlib.Core.Path.{◌≡◌}
use mathlib.Core.List.{List}
use mathlib.Core.Bool.{Bool, true, false}
use lib.ListN.{length, get_or}
use lib.Seq.{slice, slice_empty}
use Rattle.std.specs.Prelude.{Some, None}
use Rattle.first_stuck.specs.FirstStuck.{first_shut}
use Rattle.growth_state.proofs.Laws.{slice_next}

module _ (free : List Bool) (active : List ℕ) (i a : ℕ) (hi : i < a) (ha : a ≤ length active) where
  pub shut_next : get_or free (get_or active i 0) false ≡ true → first_shut free (slice i a active) ≡ first_shut free (slice (i + 1) a active)
  unfolding first_shut
  shut_next t = rw (slice_next i a active hi ha, t)

  pub shut_here : get_or free (get_or active i 0) false ≡ false → first_shut free (slice i a active) ≡ Some (get_or active i 0)
  unfolding first_shut
  shut_here t = rw (slice_next i a active hi ha, t)

pub shut_end : (free : List Bool) (active : List ℕ) (a : ℕ) → first_shut free (slice a a active) ≡ None
unfolding first_shut
shut_end free active a = rw (slice_empty a active)
