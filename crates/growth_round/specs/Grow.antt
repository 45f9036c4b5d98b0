-- What growth leaves.
use Rattle.std.specs.Prelude.{ℕ, ◌≤◌, ◌≡◌, List, Bool, cond, eqb, length, take, Float}
use Rattle.steps.specs.Graph.{Graph}
use Rattle.steps.specs.Growth.{State, Growth, stuck, settled, growth}
use Rattle.growth_state.specs.Rep.{state_of, Seen, Rep, Used}

-- what growth gives after n rounds: a stuck cluster, or the state
abbrev pub answer_of : ℕ → ℕ → State → Growth
answer_of d n s = cond (eqb d 4294967295) (settled n s) (stuck n d)

-- growth has ended, or a cluster is stuck
pub record Grew (g : Graph) (lit : List Bool) (stuck rounds : ℕ) (growth' : List Float) (sat : List Bool) (parent active : List ℕ) (a : ℕ)
    (odd : List Bool) (exit : List ℕ) (known : List Bool) (seen : List ℕ) (n : ℕ) (hot free : List Bool) : Type 0 where
  pub answer : growth g lit ≡ answer_of stuck rounds (state_of g.detectors growth' sat parent active a)
  pub few : rounds ≤ length g.edge_u
  pub seens : Seen g lit sat known seen n
  pub settles : stuck ≡ 4294967295 → Rep g lit (state_of g.detectors growth' sat parent active a) growth' sat parent active a odd exit known seen n hot free
  -- either way, whatever is not at rest belongs to a detector seen, or to an edge of one
  pub used : Used g.detectors g.edge_u g.edge_v (take n seen) lit growth' sat known parent odd exit hot free
