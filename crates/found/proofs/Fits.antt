-- Fit lists: each edge is known, and none stands twice.
use Prim.Native.Nat.{ℕ, zero, suc, ◌<◌}
use native.Mathlib.Nat.{not-suc-le-zero, le_of_suc-le-suc}
use native.Mathlib.Omega.{arith}
use mathlib.Core.Path.{◌≡◌, refl, sym}
use mathlib.Core.List.{List, [], ◌∷◌, ◌++◌}
use mathlib.Core.Bool.{true, false, not, ◌&&◌}
use mathlib.Core.Logic.{◌↔◌, ⊎_elim}
use lib.Dec.{eqb, ltb}
use lib.ListN.{length, get_or}
use borrow.Author.Tests.{eqb-true, eqb-false, ne_eqb, ltb-true, lt-ltb, not-true}
use Rattle.lists.specs.Lists.{member}
use Rattle.steps.specs.Graph.{Graph}
use Rattle.steps.specs.Marker.{fit}
use Rattle.steps.specs.Found.{Known, Distinct}
use Rattle.lists.proofs.Truth.{clash, and_left, and_right, or_cases, or_left, or_right, or_intro, same_eqb, not_so}
use Rattle.lists.proofs.Members.{member_append, at_member}

pub fit_known : (g : Graph) (es : List ℕ) → fit g es ≡ true → (e : ℕ) → member e es ≡ true → e < length g.edge_u
unfolding fit member
fit_known g [] h e m = clash m refl
fit_known g (a ∷ es) h e m = ⊎_elim
    (λ t. rw (eqb-true e a t) (ltb-true a (length g.edge_u) (and_left (ltb a (length g.edge_u)) (not (member a es) && fit g es) h)))
    (λ t. fit_known g es (and_right (not (member a es)) (fit g es) (and_right (ltb a (length g.edge_u)) (not (member a es) && fit g es) h)) e t)
    (or_cases (eqb e a) (member e es) m)

pub fit_more : (g : Graph) (l : List ℕ) (e : ℕ) → fit g l ≡ true → e < length g.edge_u → member e l ≡ false → fit g (l ++ (e ∷ [])) ≡ true
unfolding fit member
fit_more g [] e f h m = rw (lt-ltb e (length g.edge_u) h)
fit_more g (a ∷ l) e f h m =
    let r = and_right (ltb a (length g.edge_u)) (not (member a l) && fit g l) f in
    rw (
      and_left (ltb a (length g.edge_u)) (not (member a l) && fit g l) f,
      member_append a l (e ∷ []),
      not-true (member a l) (and_left (not (member a l)) (fit g l) r),
      ne_eqb a e (λ q. eqb-false e a (or_left (eqb e a) (member e l) m) (sym q)),
    )
    (fit_more g l e (and_right (not (member a l)) (fit g l) r) h (or_right (eqb e a) (member e l) m))

-- ---- what fit means

member_at : (a : ℕ) (l : List ℕ) → member a l ≡ true → (j : ℕ) × (j < length l) × (get_or l j 0 ≡ a)
unfolding member
member_at a [] m = clash m refl
member_at a (b ∷ l) m = ⊎_elim
    (λ t. (0, omega arith, sym (eqb-true a b t)))
    (λ t. let (j, h, e) = member_at a l t in (suc j, omega arith, e))
    (or_cases (eqb a b) (member a l) m)

fit_distinct : (g : Graph) (es : List ℕ) → fit g es ≡ true → Distinct es
unfolding fit
fit_distinct g [] f i j l h q = not-suc-le-zero h
fit_distinct g (e ∷ es) f i zero l h q = not-suc-le-zero l
fit_distinct g (e ∷ es) f zero (suc j) l h q =
    let r = and_right (ltb e (length g.edge_u)) (not (member e es) && fit g es) f in
    clash (rw q (at_member es j (le_of_suc-le-suc h))) (not-true (member e es) (and_left (not (member e es)) (fit g es) r))
fit_distinct g (e ∷ es) f (suc i) (suc j) l h q =
    fit_distinct g es (and_right (not (member e es)) (fit g es) (and_right (ltb e (length g.edge_u)) (not (member e es) && fit g es) f)) i j (le_of_suc-le-suc l) (le_of_suc-le-suc h) q

is_fit : (g : Graph) (es : List ℕ) → Known g es → Distinct es → fit g es ≡ true
unfolding fit member
is_fit g [] k u = refl
is_fit g (e ∷ es) k u =
    let new : member e es ≡ false = not_so (member e es) (λ m. let (j, h, q) = member_at e es m in u 0 (suc j) (omega arith) (omega arith) (sym q)) in
    rw (
      lt-ltb e (length g.edge_u) (k e (rw (same_eqb e))),
      new,
      is_fit g es (λ a m. k a (or_intro (eqb a e) (member a es) m)) (λ i j l h. u (suc i) (suc j) (omega arith) (omega arith)),
    )

pub fitting : (g : Graph) (es : List ℕ) → (fit g es ≡ true) ↔ (Known g es × Distinct es)
fitting g es = (λ f. (fit_known g es f, fit_distinct g es f), λ k. is_fit g es k.0 k.1)
