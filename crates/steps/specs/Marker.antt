-- The marker: docs/RULES.md, "Marking".
use Rattle.std.specs.Prelude.{Option, None, Some, ℕ, List, [], ◌∷◌, Bool, true, false, cond, not, ◌&&◌, length, get_or, ltb}
use Rattle.std.proofs.Math.Bool.{xor}
use Rattle.lists.specs.Lists.{below, odd, member}
use Rattle.steps.specs.Graph.{Graph, flipped}
use Rattle.steps.specs.Rows.{row_of}

pub data Marked : Type 0 where
  -- the row written
  pass : List ℕ → Marked
  -- the lowest wrong detector
  differs : ℕ → Marked
  -- an edge unknown or repeated
  unfit : Marked

-- each edge is known, and none stands twice
unfoldable pub fit : Graph → List ℕ → Bool
unfolding member
fit g [] = true
fit g (e ∷ es) = ltb e (length g.edge_u) && (not (member e es) && fit g es)

unfoldable pub first_wrong : Graph → List Bool → List ℕ → List ℕ → Option ℕ
unfolding odd xor
first_wrong g lit es [] = None
first_wrong g lit es (d ∷ ds) = cond (xor (get_or lit d false) (flipped g es d)) (Some d) (first_wrong g lit es ds)

-- by whether the list is fit, and the lowest wrong detector
unfoldable pub verdict : Graph → List ℕ → Bool → Option ℕ → Marked
unfolding row_of
verdict g es false o = unfit
verdict g es true None = pass (row_of g es)
verdict g es true (Some d) = differs d

unfoldable pub mark : Graph → List Bool → List ℕ → Marked
unfolding fit first_wrong below verdict
mark g lit es = verdict g es (fit g es) (first_wrong g lit es (below g.detectors))
