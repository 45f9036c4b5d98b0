-- Walking a chain, and adding an edge to its own.
use Rattle.std.specs.Prelude.{Option, Some, None}
use Prim.Native.Nat.{ℕ, zero, suc, ◌≤◌, ◌<◌}
use native.Mathlib.Omega.{arith}
use mathlib.Core.Path.{◌≡◌, refl, sym, ap, ◌∙◌}
use mathlib.Core.List.{List}
use mathlib.Core.Bool.{true, false, cond}
use mathlib.Core.Logic.{◌⊎◌, inl, inr, ⊎_elim}
use lib.ListN.{length, get_or}
use lib.Dec.{eqb}
use borrow.Author.Tests.{eq-eqb, ne_eqb, eqb-true}
use Rattle.lists.proofs.Truth.{case-of}
use Rattle.edges.specs.Chains.{chain_end, last_with, same_ends, last_ends, Chained}

-- what is found from a place of a chain on
unfoldable pub onward : List ℕ → List ℕ → ℕ → ℕ → ℕ → Option ℕ
unfolding last_ends
onward us vs a b at = cond (eqb at chain_end) None (last_ends us vs a b (suc at))

-- a place of the chain of a: its end, or an edge below n whose first end is a
abbrev pub Link : List ℕ → ℕ → ℕ → ℕ → Type 0
Link us a n at = (at ≡ chain_end) ⊎ ((at < n) × (get_or us at 0 ≡ a))

abbrev pub fuel : ℕ → ℕ
fuel at = cond (eqb at chain_end) 0 (suc at)

last_link : (us : List ℕ) (a n : ℕ) → Link us a n (last_with us a n)
unfolding last_with
last_link us a zero = inl refl
last_link us a (suc e) = case-of (eqb (get_or us e 0) a)
    (λ (t : eqb (get_or us e 0) a ≡ true). rw t (inr (omega arith, eqb-true (get_or us e 0) a t)))
    (λ (f : eqb (get_or us e 0) a ≡ false). rw f (⊎_elim (λ h. inl h) (λ h. inr (omega arith, h.1)) (last_link us a e)))

last_onward : (us vs : List ℕ) (a b n : ℕ) → n ≤ chain_end → onward us vs a b (last_with us a n) ≡ last_ends us vs a b n
unfolding last_with last_ends onward
last_onward us vs a b zero h = refl
last_onward us vs a b (suc e) h = case-of (eqb (get_or us e 0) a)
    (λ (t : eqb (get_or us e 0) a ≡ true). let i : last_with us a (suc e) ≡ e = rw t in ap (onward us vs a b) i ∙ rw (ne_eqb e chain_end (omega arith)))
    (λ (f : eqb (get_or us e 0) a ≡ false). rw f (last_onward us vs a b e (omega arith)))

module _ {n : ℕ} {us vs first next : List ℕ} (c : Chained n us vs first next) where
  pub start_link : (a : ℕ) → a < length first → Link us a n (get_or first a 0)
  start_link a h = rw (c.starts a h) (last_link us a n)

  pub start_onward : (a b : ℕ) → a < length first → onward us vs a b (get_or first a 0) ≡ last_ends us vs a b n
  start_onward a b h = rw (c.starts a h) (last_onward us vs a b n (let k = c.few in omega arith))

  -- at an edge: it is below n
  pub link_below : (a at : ℕ) → Link us a n at → (at ≡ chain_end → ⊥) → (at < n) × (get_or us at 0 ≡ a)
  link_below a at l h = ⊎_elim (λ e. absurd (h e)) (λ k. k) l

  next_is : (a at : ℕ) → at < n → get_or us at 0 ≡ a → get_or next at 0 ≡ last_with us a at
  next_is a at h t = c.goes_on at h ∙ ap (λ (x : ℕ). last_with us x at) t

  pub next_link : (a at : ℕ) → at < n → get_or us at 0 ≡ a → Link us a n (get_or next at 0)
  next_link a at h t = rw (next_is a at h t) (⊎_elim (λ e. inl e) (λ k. inr (omega arith, k.1)) (last_link us a at))

  pub next_less : (a at : ℕ) → at < n → get_or us at 0 ≡ a → fuel (get_or next at 0) < fuel at
  next_less a at h t =
      let few = c.few in
      rw (next_is a at h t, ne_eqb at chain_end (omega arith))
      (⊎_elim (λ (e : last_with us a at ≡ chain_end). rw e (omega arith)) (λ k. let m = last_with us a at in rw (ne_eqb m chain_end (omega arith)) (omega arith)) (last_link us a at))

  -- the edge is the one
  pub onward_found : (a b at : ℕ) → at < n → same_ends us vs a b at ≡ true → onward us vs a b at ≡ Some at
  unfolding onward last_ends
  onward_found a b at h t = let few = c.few in rw (ne_eqb at chain_end (omega arith), t)

  -- or the walk goes on
  pub onward_next : (a b at : ℕ) → at < n → get_or us at 0 ≡ a → same_ends us vs a b at ≡ false → onward us vs a b (get_or next at 0) ≡ onward us vs a b at
  unfolding onward last_ends
  onward_next a b at h t f =
      let few = c.few in
      ap (onward us vs a b) (next_is a at h t) ∙ last_onward us vs a b at (omega arith) ∙ sym (rw (ne_eqb at chain_end (omega arith), f))

pub onward_end : (us vs : List ℕ) (a b at : ℕ) → at ≡ chain_end → onward us vs a b at ≡ None
unfolding onward
onward_end us vs a b at h = rw (eq-eqb at chain_end h)
