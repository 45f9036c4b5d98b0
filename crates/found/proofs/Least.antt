-- The edge of the least: it is counted, no counted edge gives less, and none with a lower number gives as little.
use Prim.Native.Nat.{ℕ, zero, suc, ◌+◌, ◌<◌}
use native.Mathlib.Nat.{not-suc-le-zero}
use native.Mathlib.Omega.{arith}
use mathlib.Core.Path.{◌≡◌, refl, sym, ◌∙◌}
use mathlib.Core.List.{List}
use mathlib.Core.Bool.{Bool, true, false, cond}
use mathlib.Core.Logic.{◌⊎◌, inl, inr, ⊎_elim}
use lib.Dec.{eqb}
use lib.ListN.{length, get_or}
use lib.Ieee as Ieee
use lib.Ieee.{inf}
use borrow.Author.Tests.{eqb-true, eqb-false}
use Rattle.lists.specs.Lists.{from, below, filter, member}
use Rattle.steps.specs.Graph.{Graph, edges}
use Rattle.steps.specs.Growth.{State, Least, is_counted, step_of, least, least_of}
use Rattle.steps.specs.Laws.{counted, Chosen}
use Rattle.lists.proofs.Truth.{case-of, cond_case, clash, and_left, and_right, not_so}
use Rattle.lists.proofs.Members.{member_filter, member_below, first_low}
use Rattle.found.proofs.Floats.{lt_self, lt_trans, lt_either, at_infinity}
use Rattle.found.proofs.Moves.{least_of_in}

module _ (g : Graph) (lit : List Bool) (s : State) where
  abbrev step : ℕ → Ieee.Float
  step e = step_of g lit s e

  -- b is the least of the counted edges below a
  record Best (a : ℕ) (b : Least) : Type 0 where
    least : (e : ℕ) → e < a → is_counted g lit s e ≡ true → Ieee.lt (step e) b.step ≡ false
    gives : (b.step ≡ step b.edge) ⊎ (b.step ≡ inf false)
    lowest : (e : ℕ) → e < length g.edge_u → is_counted g lit s e ≡ true → e < b.edge → Ieee.is_nan (step e) ≡ false → Ieee.lt b.step (step e) ≡ true

  module _ (a : ℕ) (b : Least) (k : Best a b) where
    -- a gives less
    better : Ieee.lt (step a) b.step ≡ true → Best (suc a) (record { edge = a; step = step a })
    better t = record {
      least = λ e h c. case-of (eqb e a)
          (λ u. rw (eqb-true e a u) (lt_self (step a)))
          (λ u. not_so (Ieee.lt (step e) (step a)) (λ i. clash (lt_trans (step e) (step a) b.step i t) (k.least e (omega (arith, eqb-false e a u)) c)));
      gives = inl refl;
      lowest = λ e l c h n. lt_either (step a) (step e) b.step t (k.least e h c) n;
    }

    -- a is not counted, or does not give less
    same : (is_counted g lit s a ≡ true → Ieee.lt (step a) b.step ≡ false) → Best (suc a) b
    same f = record {
      least = λ e h c. case-of (eqb e a)
          (λ u. let q = eqb-true e a u in rw q (f (rw q at c)))
          (λ u. k.least e (omega (arith, eqb-false e a u)) c);
      gives = k.gives;
      lowest = k.lowest;
    }

  bests : (n a : ℕ) → n + a ≡ length g.edge_u → (b : Least) → Best a b → Best (length g.edge_u) (least g lit s b (filter (is_counted g lit s) (from n a)))
  unfolding least filter from
  bests zero a z b k = let q : a ≡ length g.edge_u = omega arith in rw (← q) k
  bests (suc n) a z b k =
      let r : Least = record { edge = a; step = step a } in
      case-of (is_counted g lit s a)
      (λ t. rw t (bests n (suc a) (omega arith) (cond (Ieee.lt (step a) b.step) r b)
      (cond_case (Best (suc a)) (Ieee.lt (step a) b.step) r b (better a b k) (λ u. same a b k (λ c. u)))))
      (λ f. rw f (bests n (suc a) (omega arith) b (same a b k (λ c. clash c f))))

  best : Best (length g.edge_u) (least_of g lit s (counted g lit s))
  unfolding least_of below
  best = bests (length g.edge_u) 0 (omega arith) (record { edge = get_or (counted g lit s) 0 0; step = inf false }) (record {
    least = λ e h c. absurd (not-suc-le-zero h);
    gives = inr refl;
    lowest = λ e l c h n. absurd (omega (arith, first_low (is_counted g lit s) (length g.edge_u) 0 e c (omega arith) (omega arith)));
  })

  of_counted : (e : ℕ) → member e (counted g lit s) ≡ true → (is_counted g lit s e ≡ true) × (e < length g.edge_u)
  of_counted e m =
      let u = sym (member_filter (is_counted g lit s) e (edges g)) ∙ m in
      (and_left (is_counted g lit s e) (member e (edges g)) u, member_below e (length g.edge_u) (and_right (is_counted g lit s e) (member e (edges g)) u))

  pub chosen : (e : ℕ) → member e (counted g lit s) ≡ true → Chosen g lit s (least_of g lit s (counted g lit s))
  chosen e m =
      let b = least_of g lit s (counted g lit s) in
      let in-it = least_of_in g lit s (counted g lit s) e m in
      let (c, l) = of_counted b.edge in-it in
      record {
        among = in-it;
        least = λ a n. let (p, h) = of_counted a n in best.least a h p;
        gives = λ t. ⊎_elim {C = b.step ≡ step b.edge} (λ q. q) (λ q. clash (rw q at t) (lt_self (inf false))) best.gives;
        gives_too = λ n. ⊎_elim {C = b.step ≡ step b.edge}
            (λ q. q)
            (λ q. q ∙ sym (at_infinity (step b.edge) (rw q at (best.least b.edge l c)) n))
            best.gives;
        lowest = λ a n h x. let (p, k) = of_counted a n in best.lowest a k p h x;
      }
