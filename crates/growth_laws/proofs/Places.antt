-- The order of the active clusters after a round, by their parts in the order before it.
use Prim.Native.Nat.{ℕ, suc}
use native.Mathlib.Omega.{arith}
use mathlib.Core.Path.{◌≡◌, refl, sym, ◌∙◌}
use mathlib.Core.List.{List, [], ◌∷◌, map}
use mathlib.Core.Bool.{Bool, true, false, cond, not, ◌&&◌}
use lib.Dec.{eqb, ltb, leb-suc-suc}
use borrow.Author.Tests.{eqb-true, ltb-true, lt-ltb, le-ltb}
use Rattle.lists.specs.Lists.{filter, member, firsts}
use Rattle.steps.specs.Graph.{Graph}
use Rattle.steps.specs.Growth.{State, is_active, label_of, next}
use Rattle.growth_laws.specs.Laws.{place, place_of, earliest, Merged}
use Rattle.lists.proofs.Truth.{case-of, clash, and_left, and_right, not_so, eqb_comm}
use Rattle.lists.proofs.Members.{member_filter, member_firsts, member_unmap}

-- the first that passes p stands before the first that passes q
leads : (ℕ → Bool) → (ℕ → Bool) → List ℕ → Bool
leads p q [] = false
leads p q (a ∷ l) = cond (p a) (not (q a)) (not (q a) && leads p q l)

leads_is : (p q : ℕ → Bool) (l : List ℕ) → ltb (place p l) (place q l) ≡ leads p q l
unfolding place leads
leads_is p q [] = refl
leads_is p q (a ∷ l) = case-of (p a)
    (λ t. case-of (q a) (λ u. rw (t, u)) (λ u. rw (t, u) (lt-ltb 0 (suc (place q l)) (omega arith))))
    (λ t. case-of (q a) (λ u. rw (t, u) (le-ltb (suc (place p l)) 0 (omega arith))) (λ u. rw (t, u) (leb-suc-suc (suc (place p l)) (place q l) ∙ leads_is p q l)))

-- those that pass neither do not count
leads_filter : (f p q : ℕ → Bool) → ((a : ℕ) → p a ≡ true → f a ≡ true) → ((a : ℕ) → q a ≡ true → f a ≡ true) → (l : List ℕ) → leads p q (filter f l) ≡ leads p q l
unfolding filter leads
leads_filter f p q h k [] = refl
leads_filter f p q h k (a ∷ l) = case-of (f a)
    (λ t. rw (t, leads_filter f p q h k l))
    (λ t. rw (t, not_so (p a) (λ u. clash (h a u) t), not_so (q a) (λ u. clash (k a u) t)) (leads_filter f p q h k l))

module _ (a b : ℕ) where
  leads_firsts : (l : List ℕ) → leads (λ c. eqb c a) (λ c. eqb c b) (firsts l) ≡ leads (λ c. eqb c a) (λ c. eqb c b) l
  unfolding firsts leads
  leads_firsts [] = refl
  leads_firsts (x ∷ l) = case-of (eqb x a)
      (λ t. rw t)
      (λ t. case-of (eqb x b)
      (λ u. rw (t, u))
      (λ u. rw (t, u) (leads_filter (λ c. not (eqb c x)) (λ c. eqb c a) (λ c. eqb c b)
      (λ c m. rw (eqb-true c a m, eqb_comm a x, t)) (λ c m. rw (eqb-true c b m, eqb_comm b x, u)) (firsts l) ∙ leads_firsts l)))

  leads_map : (h : ℕ → ℕ) (l : List ℕ) → leads (λ c. eqb c a) (λ c. eqb c b) (map h l) ≡ leads (λ c. eqb (h c) a) (λ c. eqb (h c) b) l
  unfolding leads
  leads_map h [] = refl
  leads_map h (x ∷ l) = rw (leads_map h l)

module _ (g : Graph) (lit : List Bool) (s : State) where
  abbrev t : State
  t = next g lit s

  -- active after the round, and the label of an active cluster
  of_active : (a : ℕ) → member a t.active ≡ true → (is_active g lit t.saturated t.label a ≡ true) × (member a (map (label_of g lit t) s.active) ≡ true)
  unfolding next
  of_active a m =
      let l = map (label_of g lit t) s.active in
      let live = is_active g lit t.saturated t.label in
      let u : (live a && member a (firsts l)) ≡ true = sym (member_filter live a (firsts l)) ∙ m in
      (and_left (live a) (member a (firsts l)) u, sym (member_firsts a l) ∙ and_right (live a) (member a (firsts l)) u)

  same_order : (a b : ℕ) → member a t.active ≡ true → member b t.active ≡ true → ltb (place_of t a) (place_of t b) ≡ ltb (earliest g lit s t a) (earliest g lit s t b)
  unfolding next
  same_order a b m n =
      let h = label_of g lit t in
      let live = is_active g lit t.saturated t.label in
      let p : ℕ → Bool = λ c. eqb c a in
      let q : ℕ → Bool = λ c. eqb c b in
      leads_is p q t.active
      ∙ leads_filter live p q (λ c x. rw (eqb-true c a x) (of_active a m).0) (λ c x. rw (eqb-true c b x) (of_active b n).0) (firsts (map h s.active))
      ∙ leads_firsts a b (map h s.active)
      ∙ leads_map a b h s.active
      ∙ sym (leads_is (λ c. eqb (h c) a) (λ c. eqb (h c) b) s.active)

  pub merged : Merged g lit s t
  merged = record {
    part = λ a m. member_unmap (label_of g lit t) a s.active (of_active a m).1;
    before = λ a b m n. (
      λ h. ltb-true (earliest g lit s t a) (earliest g lit s t b) (sym (same_order a b m n) ∙ lt-ltb (place_of t a) (place_of t b) h),
      λ h. ltb-true (place_of t a) (place_of t b) (same_order a b m n ∙ lt-ltb (earliest g lit s t a) (earliest g lit s t b) h),
    );
  }
