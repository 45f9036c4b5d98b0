-- A chain, followed from its first mechanism, is the list of the mechanisms whose first detector is the chain's.
use Prim.Native.Nat.{ℕ, zero, suc, ◌+◌, ◌-◌, ◌<◌}
use native.Mathlib.Numerals.{add-one}
use native.Mathlib.Omega.{arith}
use mathlib.Core.Path.{◌≡◌, refl, ap, ◌∙◌, subst, sym}
use mathlib.Core.List.{List}
use lib.ListN.{length, get_or}
use Rattle.lists.specs.Lists.{from, below, filter}
use Rattle.lists.proofs.Truth.{case-of}
use Rattle.cover.specs.Kept.{lowest, starts_with, Chains, Follows}

module _ (lists : ℕ → List ℕ) (n : ℕ) (first next : List ℕ) (c : Chains lists n first next) (d : ℕ) where
  follow : (j at : ℕ) → j + at ≡ n → Follows next (lowest (λ k. starts_with d (lists k)) j at) (filter (λ k. starts_with d (lists k)) (from j at))
  unfolding lowest filter from
  follow zero at e = refl
  follow (suc j) at e = case-of (starts_with d (lists at))
      (λ t.
      let q : n - (at + 1) ≡ j = omega arith in
      let l : get_or next at 0 ≡ lowest (λ k. starts_with d (lists k)) j (suc at)
      = c.linked at d (omega arith) t ∙ ap (λ (i : ℕ). lowest (λ k. starts_with d (lists k)) i (at + 1)) q ∙ ap (λ (i : ℕ). lowest (λ k. starts_with d (lists k)) j i) (add-one at) in
      rw t (refl, subst (λ (i : ℕ). Follows next i (filter (λ k. starts_with d (lists k)) (from j (suc at)))) (sym l) (follow j (suc at) (omega arith))))
      (λ f. rw f (follow j (suc at) (omega arith)))

  pub chain_list : d < length first → Follows next (get_or first d 0) (filter (λ k. starts_with d (lists k)) (below n))
  unfolding below
  chain_list h =
      let q : n - 0 ≡ n = omega arith in
      let l : get_or first d 0 ≡ lowest (λ k. starts_with d (lists k)) n 0 = c.begins d h ∙ ap (λ (i : ℕ). lowest (λ k. starts_with d (lists k)) i 0) q in
      subst (λ (i : ℕ). Follows next i (filter (λ k. starts_with d (lists k)) (from n 0))) (sym l) (follow n 0 (omega arith))
