-- The same of the call, on the example's shot of D1 and on every call.
use Rattle.std.specs.Prelude.{Ok, Result}
use Prim.Native.Nat.{ℕ, zero, suc}
use native.Mathlib.Omega.{arith}
use mathlib.Core.Path.{◌≡◌, refl, sym}
use mathlib.Core.List.{List, [], ◌∷◌}
use mathlib.Core.Bool.{Bool, true, false}
use lib.Ieee as Ieee
use Rattle.lists.specs.Lists.{odd}
use Rattle.bits.specs.Rows.{bits_of}
use Rattle.steps.specs.Growth.{ended, onward, after, turn}
use Rattle.steps.specs.Marker.{fit}
use Rattle.steps.specs.Call.{graph_of}
use Rattle.steps.specs.Found.{Blank, Explains}
use Rattle.codes.specs.declared.Refusal.{Refusal}
use Rattle.shot.specs.declared.Shot.{Shot}
use Rattle.shot.specs.declared.Shot.TheVariants as answer
use Rattle.decoder.specs.Answer.{Handed, graph_of_call, lit_of_call, checks, Decodes}
use Rattle.demand3.specs.Stated.{Stated, Explained, rounds_told}
use Rattle.demand3.proofs.Decoder.{decoder_stated}
use Rattle.demand3.proofs.Fixed.{rounds_fixed}
use Rattle.refuted.specs.Refuted.{d1, Fails, RefutedCalls}
use Rattle.refuted.proofs.Refuted.{still_active, over}

-- a cluster is active after no round and after one
one_round_fewer_lem : Fails d1 (Ok (answer.Decoded 1 2))
unfolding d1 graph_of bits_of after Ieee.div Ieee.sub Ieee.of_int Ieee.le
one_round_fewer_lem list row s = still_active 0 (s.decoded 1 2 refl).ended

no_rounds_lem : Fails d1 (Ok (answer.Decoded 0 2))
unfolding d1 graph_of bits_of after
no_rounds_lem list row s = still_active 1 (s.decoded 0 2 refl).ended

-- none is after two, so no third is begun
one_round_more_lem : Fails d1 (Ok (answer.Decoded 3 2))
unfolding d1 graph_of bits_of after turn Ieee.div Ieee.sub Ieee.of_int Ieee.le
one_round_more_lem list row s = over ((s.decoded 3 2 refl).rounds.each 2 (omega arith)).begun

-- both edges together explain D1
flips : Explains (graph_of_call d1) (lit_of_call d1) (1 ∷ 0 ∷ [])
unfolding d1 graph_of bits_of odd
flips zero h = refl
flips (suc zero) h = refl
flips (suc (suc d)) h = absurd (omega arith)

explained : Explained d1 (1 ∷ 0 ∷ [])
unfolding d1 graph_of fit
explained = (refl, flips)

stuck_first_lem : Fails d1 (Ok (answer.Stuck 0 1))
stuck_first_lem list row s = s.exactly.0 (0, 1, refl) (1 ∷ 0 ∷ []) explained

other_rounds : (h : Handed) (r : Result Shot Refusal) (list row : List ℕ) → Decodes h r list row → checks h ≡ Ok tt → Blank (graph_of_call h) h.row
    → (t : Result Shot Refusal) → (rounds_told t ≡ rounds_told r → ⊥) → Fails h t
other_rounds h r list row p ok blank t other list' row' s = other (rounds_fixed h t r list' row' list row s (decoder_stated h r list row p ok blank))

pub refuted_calls : RefutedCalls
refuted_calls = record { one_round_fewer = one_round_fewer_lem; no_rounds = no_rounds_lem; one_round_more = one_round_more_lem; stuck_first = stuck_first_lem; other_rounds = other_rounds }
