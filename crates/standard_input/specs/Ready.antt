-- Where the loop stands between two turns, and what the next block is.
use Rattle.std.specs.Prelude.{ℕ, ◌≤◌, Option, Some, None, List, length, take}
use Rattle.edges.specs.Tables.{Slices}
use Rattle.reader.specs.Columns.{Columns}
use Rattle.stream.specs.declared.Place.{Place}
use Rattle.stream.specs.Fed.{Standing}

-- at place p of a block of so many bytes, with room for the end of the input
pub record Ready (p : Place) (size : ℕ) (c : Columns) (g : Slices) (block line out : List ℕ) : Type 0 where
  pub standing : Standing p c g (take size block) line out
  pub within : size ≤ length block
  pub room : 1101 ≤ length out

-- whatever the tables: the next block, or what is left of this one
abbrev pub NextIn : Option (Place × ℕ) → Columns → Slices → List ℕ → List ℕ → List ℕ → Type 0
NextIn (Some b) c g block line out = Ready b.0 b.1 c g block line out
NextIn None c g block line out = Unit {0}

abbrev pub GoesOn : Place → ℕ → List ℕ → Option (Place × ℕ) → List ℕ → Type 0
GoesOn p size block r block' = (c : Columns) (g : Slices) (line out : List ℕ) → Ready p size c g block line out → NextIn r c g block' line out
