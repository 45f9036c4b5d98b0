-- The first stuck cluster of the code is that of `steps`.
use Prim.Native.Nat.{ℕ}
use mathlib.Core.Path.{◌≡◌, refl}
use mathlib.Core.List.{List, [], ◌∷◌}
use mathlib.Core.Bool.{Bool, true, false}
use lib.Dec.{eqb}
use lib.ListN.{get_or}
use Rattle.lists.specs.Lists.{any, member}
use Rattle.steps.specs.Graph.{Graph, edges}
use Rattle.steps.specs.Growth.{State, leaves, first_stuck}
use Rattle.lists.proofs.Truth.{case-of, same_eqb, or_intro}
use Rattle.first_stuck.specs.FirstStuck.{first_shut}

module _ (g : Graph) (lit : List Bool) (s : State) where
  pub stuck_is : (free : List Bool) (l : List ℕ) → ((q : ℕ) → member q l ≡ true → get_or free q false ≡ any (leaves g lit s q) (edges g))
      → first_shut free l ≡ first_stuck g lit s l
  unfolding first_shut first_stuck member
  stuck_is free [] h = refl
  stuck_is free (a ∷ l) h = rw (h a (rw (same_eqb a)))
      (case-of (any (leaves g lit s a) (edges g))
      (λ t. rw t (stuck_is free l (λ q m. h q (or_intro (eqb q a) (member q l) m))))
      (λ f. rw f))
