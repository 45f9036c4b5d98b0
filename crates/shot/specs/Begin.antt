-- The lit detectors of a shot, and what growth leaves of them.
use Rattle.std.specs.Prelude.{ℕ, ◌≤◌, ◌≡◌, List, Bool, length, take, Float}
use Rattle.bits.specs.Rows.{set_bits}
use Rattle.steps.specs.Graph.{Graph}
use Rattle.growth_round.specs.Grow.{Grew}

-- the l lit detectors of the shot in row are listed, ascending
pub record Shot (d : ℕ) (row defects : List ℕ) (l : ℕ) : Type 0 where
  pub few : l ≤ length defects
  pub listed : take l defects ≡ set_bits d row

-- room for every detector
pub record Room (d : ℕ) (seen active : List ℕ) : Type 0 where
  pub seens : d ≤ length seen
  pub actives : d ≤ length active

-- growth has ended, or a cluster is stuck, with some order of active clusters
pub record GrewTo (g : Graph) (lit : List Bool) (stuck rounds : ℕ) (growth : List Float) (sat : List Bool) (parent : List ℕ)
    (odd : List Bool) (exit : List ℕ) (known : List Bool) (seen : List ℕ) (n : ℕ) (hot free : List Bool) : Type 0 where
  pub active : List ℕ
  pub still : ℕ
  pub grew : Grew g lit stuck rounds growth sat parent active still odd exit known seen n hot free
