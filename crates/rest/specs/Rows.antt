-- Tables at rest, by rows.
use Rattle.std.specs.Prelude.{ℕ, ◌-◌, ◌≤◌, Bool, false, List, [], ◌∷◌, length, take, drop, Float}
use Rattle.steps.specs.Graph.{boundary}
use Rattle.cells.specs.declared.Node.{Node}
use Rattle.cells.specs.declared.Flags.{Flags}
use Rattle.cells.specs.Tables.{parents, exits, lits, knowns, odds, hots, frees}
use Rattle.rest.specs.Clean.{Clean}

-- the first n entries, as a part of a slice has them
abbrev pub cut : {A : Type 0} → ℕ → List A → List A
cut n l = take (n - 0) (drop 0 l)

-- the rows of a detector at rest: a cluster of its own, without exit, and not marked
abbrev pub alone : ℕ → Node
alone x = record { parent = x; exit = boundary }

abbrev pub quiet : Flags
quiet = record { lit = false; known = false; odd = false; hot = false; free = false; unused = false ∷ false ∷ false ∷ [] }

-- rows for d detectors and entries for E edges
pub record Spaces (d E : ℕ) (tree : List Node) (flags : List Flags) (growth : List Float) (sat : List Bool) : Type 0 where
  pub trees : d ≤ length tree
  pub flagged : d ≤ length flags
  pub growths : E ≤ length growth
  pub sats : E ≤ length sat

-- at rest
pub record Rested (d E : ℕ) (tree : List Node) (flags : List Flags) (growth : List Float) (sat : List Bool) : Type 0 where
  pub clean : Clean d E (lits flags) growth sat (knowns flags) (parents tree) (odds flags) (exits tree) (hots flags) (frees flags)
