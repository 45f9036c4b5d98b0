-- What long scratch slices leave true. Each statement is proved in proofs/ under the same name in small letters.
use Rattle.std.specs.Prelude.{ℕ, ◌+◌, ◌*◌, ◌<◌, ◌≤◌, ◌≡◌, true}
use Rattle.scratch.specs.declared.Lengths.{Lengths}
use Rattle.scratch.specs.declared.Scratch.{Scratch}
use Rattle.scratch.specs.Scratch.{lengths_in, scratch_long}
use Rattle.scratch.specs.Lent.{SameScratch}

-- each slice has at least its number of entries
pub record Long (D E : ℕ) (have : Lengths) : Type 0 where
  pub adj_offsets : D + 1 ≤ have.adj_offsets
  pub adj : 2 * E ≤ have.adj
  pub tree : D ≤ have.tree
  pub flags : D ≤ have.flags
  pub stacks : D ≤ have.stacks
  pub links : E < have.links
  pub growth : E ≤ have.growth
  pub sat : E ≤ have.sat

abbrev pub ScratchLong : Type 0
ScratchLong = (D E : ℕ) (have : Lengths) → scratch_long D E have ≡ true → Long D E have

-- all slices of n entries
abbrev pub each : ℕ → Lengths
each n = record {
  adj_offsets = n;
  adj = n;
  tree = n;
  flags = n;
  stacks = n;
  links = n;
  growth = n;
  sat = n;
}

-- "for no slice above 64·(D + edges + 1) entries"
abbrev pub AtMost : Type 0
AtMost = (D E : ℕ) → scratch_long D E (each (64 * (D + E + 1))) ≡ true

-- what a call hands back has the lengths that it had, so the next call finds them
abbrev pub LengthsKept : Type 0
LengthsKept = (s s' : Scratch) → SameScratch s s' → lengths_in s' ≡ lengths_in s
