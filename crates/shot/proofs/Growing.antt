-- The rounds of a shot, over its tables. Assumes nothing.
use Rattle.std.specs.Prelude.{Option, None, Some}
use Prim.Native.Nat.{ℕ, suc, ◌+◌, ◌-◌, ◌<◌, ◌≤◌}
use native.Mathlib.Omega.{arith}
use mathlib.Core.Path.{◌≡◌, subst}
use mathlib.Core.List.{List}
use mathlib.Core.Bool.{Bool}
use lib.ListN.{length}
use lib.Ieee.{Float}
use Rattle.lists.proofs.Counts.{trues}
use Rattle.steps.specs.Graph.{Graph, Ends}
use Rattle.steps.specs.Growth.{State, start, turn, grow, growth}
use Rattle.growth_laws.specs.Laws.{Fit}
use Rattle.growth_laws.proofs.Rooms.{Rooms, rooms_start}
use Rattle.adjacency.specs.Adjacent.{weighted}
use Rattle.growth_state.specs.Rep.{state_of, Rep}
use Rattle.cells.specs.declared.Node.{Node}
use Rattle.cells.specs.declared.Flags.{Flags}
use Rattle.cells.specs.declared.Stack.{Stack}
use Rattle.cells.specs.Tables.{parents, exits, lits, knowns, odds, hots, frees, seen, active}
use Rattle.growth_round.specs.Round.{Stepped}
use Rattle.growth_round.specs.Grow.{Grew}
use Rattle.growth_round.proofs.Turns as Turns
use Rattle.shot.specs.Begin.{GrewTo}

module _ (d : ℕ) (us vs : List ℕ) (ws : List Float) where
  abbrev pub g : Graph
  g = weighted d us vs ws

  -- the state that the tables hold, with a active clusters
  abbrev pub held : List Node → List Stack → List Float → List Bool → ℕ → State
  held tree stacks growth' sat a = state_of d growth' sat (parents tree) (active stacks) a

  -- after so many rounds: growth from here on is the whole growth, and every unsaturated edge has room
  pub record Growing (tree : List Node) (flags : List Flags) (stacks : List Stack) (growth' : List Float) (sat : List Bool) (n a rounds : ℕ) : Type 0 where
    pub rep : Rep g (lits flags) (held tree stacks growth' sat a) growth' sat (parents tree) (active stacks) a (odds flags) (exits tree) (knowns flags) (seen stacks) n (hots flags) (frees flags)
    pub few : rounds ≤ trues sat
    pub so_far : grow g (lits flags) (suc (length us - rounds)) rounds (held tree stacks growth' sat a) (turn g (lits flags) (held tree stacks growth' sat a)) ≡ growth g (lits flags)
    pub rooms : Rooms g (held tree stacks growth' sat a)

module _ {d : ℕ} {us vs : List ℕ} {ws : List Float} {tree : List Node} {flags : List Flags} {stacks : List Stack} {growth' : List Float} {sat : List Bool} {n a : ℕ} where
  -- before the first
  pub begins : Fit (g d us vs ws)
      → Rep (g d us vs ws) (lits flags) (start (g d us vs ws) (lits flags)) growth' sat (parents tree) (active stacks) a (odds flags) (exits tree) (knowns flags) (seen stacks) n (hots flags) (frees flags)
      → Growing d us vs ws tree flags stacks growth' sat n a 0
  begins fit r = record {
    rep = Turns.rep_own r;
    few = omega arith;
    so_far = Turns.starts (g d us vs ws) (lits flags) _ r.state;
    rooms = subst (Rooms (g d us vs ws)) r.state (rooms_start (g d us vs ws) fit (lits flags));
  }

  module _ (ok : Ends (g d us vs ws)) {rounds : ℕ} (k : Growing d us vs ws tree flags stacks growth' sat n a rounds) where
    pub rounds_few : rounds ≤ length us
    rounds_few = Turns.rounds_few ok k.rep rounds k.few k.so_far

    pub settles : a ≡ 0 → Grew (g d us vs ws) (lits flags) 4294967295 rounds growth' sat (parents tree) (active stacks) a (odds flags) (exits tree) (knowns flags) (seen stacks) n (hots flags) (frees flags)
    settles = Turns.settles ok k.rep rounds k.few k.so_far

    -- one more
    module _ (some-active : 0 < a) {stuck : Option ℕ} (tree₁ : List Node) (flags₁ : List Flags) (stacks₁ : List Stack) {growth₁ : List Float} {sat₁ : List Bool} {n₁ a₁ : ℕ}
        (st : Stepped (g d us vs ws) (lits flags) (held d us vs ws tree stacks growth' sat a) stuck growth₁ sat₁ (parents tree₁) (active stacks₁) a₁ (odds flags₁) (exits tree₁) (knowns flags₁) (seen stacks₁) n₁ (hots flags₁) (frees flags₁))
        (same : lits flags₁ ≡ lits flags) where
      pub not_boundary : {j : ℕ} → stuck ≡ Some j → j ≡ 4294967295 → ⊥
      not_boundary {j} = Turns.not_boundary ok k.rep rounds k.few k.so_far some-active st j

      pub gets_stuck : {j : ℕ} → stuck ≡ Some j
          → GrewTo (g d us vs ws) (lits flags₁) j rounds growth₁ sat₁ (parents tree₁) (odds flags₁) (exits tree₁) (knowns flags₁) (seen stacks₁) n₁ (hots flags₁) (frees flags₁)
      gets_stuck {j} z = rw same (record { active = _; still = _; grew = Turns.gets_stuck ok k.rep rounds k.few k.so_far some-active st j z })

      module _ (free_all : stuck ≡ None) where
        pub more : trues sat < trues sat₁
        more = Turns.trues_on ok k.rep rounds k.few k.so_far some-active st free_all

        pub most : trues sat₁ ≤ length us
        most = Turns.trues_most ok k.rep rounds k.few k.so_far some-active st free_all

        pub goes_on : Fit (g d us vs ws) → Growing d us vs ws tree₁ flags₁ stacks₁ growth₁ sat₁ n₁ a₁ (rounds + 1)
        goes_on fit = record {
          rep = rw same (Turns.rep_on ok k.rep rounds k.few k.so_far some-active st free_all);
          few = omega (arith, k.few, more);
          so_far = rw same (Turns.so_on ok k.rep rounds k.few k.so_far some-active st free_all);
          rooms = Turns.rooms_on ok k.rep rounds k.few k.so_far some-active st free_all fit k.rooms;
        }
