-- What the tables of growth hold, as a struct of slices.
use Rattle.std.specs.Prelude.{ℕ}
use Rattle.cells.specs.declared.Tables.{Tables}
use Rattle.cells.specs.Tables.{parents, exits, lits, knowns, odds, hots, frees, active, seen}
use Rattle.steps.specs.Graph.{Graph}
use Rattle.steps.specs.Growth.{State}
use Rattle.growth_state.specs.Rep.{state_of, Rep}

-- the state that they hold of d detectors: a clusters are active
abbrev pub state_in : ℕ → Tables → ℕ → State
state_in d t a = state_of d t.growth.now t.sat.now (parents t.tree.now) (active t.stacks.now) a

-- they hold the state s between two rounds: a clusters are active and n detectors seen
abbrev pub RepIn : Graph → State → Tables → ℕ → ℕ → Type 0
RepIn g s t a n =
    Rep g (lits t.flags.now) s t.growth.now t.sat.now (parents t.tree.now) (active t.stacks.now) a (odds t.flags.now) (exits t.tree.now) (knowns t.flags.now) (seen t.stacks.now) n
    (hots t.flags.now) (frees t.flags.now)
