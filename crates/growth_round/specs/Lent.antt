-- A round over tables as a struct of slices.
use Rattle.std.specs.Prelude.{ℕ, Option}
use Rattle.lent_graph.specs.declared.Graph.{Graph}
use Rattle.adjacency.specs.declared.Incidence.{Incidence}
use Rattle.adjacency.specs.Pairs.{near, away}
use Rattle.adjacency.specs.Lent.{weighted_of}
use Rattle.cells.specs.declared.Tables.{Tables}
use Rattle.cells.specs.Tables.{parents, exits, lits, knowns, odds, hots, frees, seen, active, front, touched, cnt, fresh}
use Rattle.growth_state.specs.Lent.{state_in}
use Rattle.growth_round.specs.Round.{Space, Touching, Touched, Settling, Settled, Stepped}

-- they are long enough
abbrev pub SpaceIn : Graph → Incidence → Tables → Type 0
SpaceIn g adj t =
    Space g.detectors g.edge_u.now g.edge_v.now g.edge_weight.now adj.offsets.now (near adj.neighbors.now) (away adj.neighbors.now) (front t.stacks.now) (touched t.links.now) (cnt t.links.now)

-- what step 1 asks: a clusters are active and n detectors seen
abbrev pub TouchingIn : Graph → Tables → ℕ → ℕ → Type 0
TouchingIn g t a n =
    Touching (weighted_of g) (lits t.flags.now) t.sat.now (parents t.tree.now) (active t.stacks.now) a (knowns t.flags.now) (seen t.stacks.now) n (hots t.flags.now) (frees t.flags.now)

-- what it leaves in t': m edges are counted
abbrev pub TouchedIn : Graph → Tables → ℕ → Tables → ℕ → Type 0
TouchedIn g t a t' m = Touched (weighted_of g) (lits t.flags.now) (state_in g.detectors t a) (parents t'.tree.now) (frees t'.flags.now) (touched t'.links.now) (cnt t'.links.now) m

-- what steps 2 and 3 ask
abbrev pub SettlingIn : Graph → Tables → ℕ → ℕ → ℕ → Type 0
SettlingIn g t a m n =
    Settling (weighted_of g) (lits t.flags.now) (state_in g.detectors t a) (touched t.links.now) (cnt t.links.now) m (fresh t.links.now) t.sat.now (knowns t.flags.now) (seen t.stacks.now) n (parents t.tree.now) (odds t.flags.now) (exits t.tree.now)

-- what they leave in t': n' detectors are seen
abbrev pub SettledIn : Graph → Tables → ℕ → Tables → ℕ → Type 0
SettledIn g t a t' n' =
    Settled (weighted_of g) (lits t.flags.now) (state_in g.detectors t a) t'.growth.now (knowns t.flags.now) t'.sat.now (knowns t'.flags.now) (seen t'.stacks.now) n' (parents t'.tree.now) (odds t'.flags.now) (exits t'.tree.now)

-- what a round leaves in t': the stuck cluster, or a' clusters active and n' detectors seen
abbrev pub SteppedIn : Graph → Tables → ℕ → Option ℕ → Tables → ℕ → ℕ → Type 0
SteppedIn g t a stuck t' a' n' =
    Stepped (weighted_of g) (lits t.flags.now) (state_in g.detectors t a) stuck t'.growth.now t'.sat.now (parents t'.tree.now) (active t'.stacks.now) a' (odds t'.flags.now) (exits t'.tree.now) (knowns t'.flags.now) (seen t'.stacks.now) n' (hots t'.flags.now) (frees t'.flags.now)
