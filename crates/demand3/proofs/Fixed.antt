-- The rounds told are one number, whatever else the answers are.
use Rattle.std.specs.Prelude.{Result}
use Prim.Native.Nat.{ℕ}
use mathlib.Core.List.{List}
use mathlib.Core.Logic.{◌⊎◌, inl, inr}
use Rattle.steps.specs.Found.{AllRounds}
use Rattle.found.proofs.OneCount.{one_count}
use Rattle.codes.specs.declared.Refusal.{Refusal}
use Rattle.shot.specs.declared.Shot.{Shot}
use Rattle.decoder.specs.Answer.{Handed, graph_of_call, lit_of_call}
use Rattle.demand3.specs.Stated.{IsStuck, IsDecoded, Stated, rounds_told, RoundsFixed}

module _ (h : Handed) (r : Result Shot Refusal) (list row : List ℕ) (s : Stated h r list row) where
  all_of : IsStuck h r ⊎ IsDecoded h r → AllRounds (graph_of_call h) (lit_of_call h) (rounds_told r)
  all_of (inl (n, d, e)) = rw e ((one_count (graph_of_call h) (lit_of_call h)).halted n d (s.stuck n d e).rounds (s.stuck n d e).ended)
  all_of (inr (n, k, e)) = rw e ((one_count (graph_of_call h) (lit_of_call h)).none_active n (s.decoded n k e).rounds (s.decoded n k e).ended)

  all_rounds : AllRounds (graph_of_call h) (lit_of_call h) (rounds_told r)
  all_rounds = all_of s.either

pub rounds_fixed : RoundsFixed
rounds_fixed h r r' list row list' row' s s' =
    (one_count (graph_of_call h) (lit_of_call h)).same (rounds_told r) (rounds_told r') (all_rounds h r list row s) (all_rounds h r' list' row' s')
