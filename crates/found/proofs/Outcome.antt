-- How growth ends: stuck or settled, after no more rounds than there are edges.
use Prim.Native.Nat.{ℕ, zero, suc, ◌+◌, ◌≤◌, ◌<◌}
use native.Mathlib.Nat.{not-suc-le-zero}
use native.Mathlib.Omega.{arith}
use mathlib.Core.Path.{◌≡◌, refl, sym, ◌∙◌, subst}
use mathlib.Core.List.{List}
use mathlib.Core.Bool.{Bool, false, ◌||◌}
use lib.Dec.{ltb}
use lib.ListN.{length, get_or}
use borrow.Author.Tests.{ltb-true, ltb-false}
use Rattle.lists.specs.Lists.{filter}
use Rattle.steps.specs.Graph.{Graph, Ends, edges}
use Rattle.steps.specs.Growth.{State, least_of, is_counted, saturates, after, Turn, ended, held, onward, turn, Growth, stuck, settled, short, grow, growth}
use Rattle.steps.specs.Found.{Finished, Rounds}
use Rattle.lists.proofs.Truth.{case-of}
use Rattle.lists.proofs.Members.{get_d_below}
use Rattle.lists.proofs.Counts.{trues, trues_all, Below, trues_lt, in_range}
use Rattle.found.proofs.Kept.{kept}
use Rattle.found.proofs.Moves.{new_counted, progress}

module _ (g : Graph) (lit : List Bool) where
  pub record Held (n d : ℕ) : Type 0 where
    pub rounds : Rounds g lit n
    pub turned : turn g lit (after g lit n) ≡ held d

  pub record Settled (n : ℕ) (s : State) : Type 0 where
    pub is : s ≡ after g lit n
    pub rounds : Rounds g lit n
    pub turned : turn g lit (after g lit n) ≡ ended

  abbrev pub Outcome : Growth → Type 0
  Outcome (stuck n d) = Held n d
  Outcome (settled n s) = Settled n s
  Outcome short = ⊥

  abbrev Each : ℕ → Type 0
  Each n = (k : ℕ) → k < n → Finished g lit k

  module _ (ok : Ends g) where
    -- a saturated edge stays saturated
    pub grows : (n : ℕ) → Below (after g lit n).saturated (after g lit (suc n)).saturated
    unfolding after
    grows n i t =
        let s = after g lit n in
        let f = saturates g lit s (least_of g lit s (filter (is_counted g lit s) (edges g))) in
        let h : i < length g.edge_u = omega (arith, in_range s.saturated i t, (kept g ok lit n).sats) in
        get_d_below (λ e. get_or s.saturated e false || f e) false (length g.edge_u) i h ∙ rw t

    bound : (n : ℕ) → Each n → n ≤ trues (after g lit n).saturated
    bound zero h = omega arith
    bound (suc n) h =
        let r = h n (omega arith) in
        let k = bound n (λ j m. h j (omega arith)) in
        let u = trues_lt (after g lit n).saturated (after g lit (suc n)).saturated ((kept g ok lit n).sats ∙ sym (kept g ok lit (suc n)).sats) (grows n) r.edge r.was r.now in
        omega arith

    few_rounds : (n : ℕ) → Each n → n ≤ length g.edge_u
    few_rounds n h = omega (arith, bound n h, trues_all (after g lit n).saturated, (kept g ok lit n).sats)

    all_rounds : (n : ℕ) → Each n → Rounds g lit n
    all_rounds n h = record { each = h; few = few_rounds n h }

    this_round : (n : ℕ) → turn g lit (after g lit n) ≡ onward → Finished g lit n
    unfolding after
    this_round n t =
        let (e, l, p, q) = progress g lit (after g lit n) (kept g ok lit n).sats t in
        record { begun = t; edge = e; known = l; was = p; now = q; only = λ a h. new_counted g lit (after g lit n) a (kept g ok lit n).sats h }

    one_more : (n : ℕ) → Each n → turn g lit (after g lit n) ≡ onward → Each (suc n)
    one_more n h t k m = case-of (ltb k n)
        (λ u. h k (ltb-true k n u))
        (λ f. let e : k ≡ n = omega (arith, ltb-false k n f) in rw e (this_round n t))

    grown : (fuel n : ℕ) (t : Turn) → fuel + n ≡ suc (length g.edge_u) → Each n → turn g lit (after g lit n) ≡ t → Outcome (grow g lit fuel n (after g lit n) t)
    unfolding grow after
    grown zero n t z h e = absurd (omega (arith, few_rounds n h))
    grown (suc fuel) n ended z h e = record { is = refl; rounds = all_rounds n h; turned = e }
    grown (suc fuel) n (held d) z h e = record { rounds = all_rounds n h; turned = e }
    grown (suc fuel) n onward z h e = grown fuel (suc n) (turn g lit (after g lit (suc n))) (omega arith) (one_more n h e) refl

    pub outcome : Outcome (growth g lit)
    unfolding growth after
    outcome = grown (suc (length g.edge_u)) 0 (turn g lit (after g lit 0)) (omega arith) (λ k h. absurd (not-suc-le-zero h)) refl

    pub never_short : growth g lit ≡ short → ⊥
    never_short e = subst Outcome e outcome
