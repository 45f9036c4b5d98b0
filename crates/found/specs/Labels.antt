-- Labels: each detector's is the lowest of its cluster, and clusters are linked by saturated pair edges.
use Rattle.std.specs.Prelude.{ℕ, ◌≤◌, ◌<◌, ◌≡◌, List, Bool, length, get_or}
use Rattle.steps.specs.Graph.{Graph}
use Rattle.steps.specs.Laws.{Linked}

-- the label of d
abbrev pub name : List ℕ → ℕ → ℕ
name ls d = get_or ls d d

module _ (g : Graph) where
  -- each label is its own, is no higher than its detector, and is linked to it
  pub record Labels (sat : List Bool) (ls : List ℕ) : Type 0 where
    pub sizes : length ls ≡ g.detectors
    pub low : (d : ℕ) → d < g.detectors → name ls d ≤ d
    pub root : (d : ℕ) → d < g.detectors → name ls (name ls d) ≡ name ls d
    pub linked : (d : ℕ) → d < g.detectors → Linked g sat (name ls d) d
