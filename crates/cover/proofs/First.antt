-- The definition of the first cover against the words of sets: sound, complete, first.
use Rattle.std.specs.Prelude.{Option, None, Some}
use Prim.Native.Nat.{ℕ, suc, ◌+◌, ◌<◌, ◌≤◌}
use native.Mathlib.Nat.{eq-or-lt_of_le}
use native.Mathlib.Omega.{arith}
use mathlib.Core.Path.{◌≡◌, refl, sym, ap, ap₂, ◌∙◌, subst}
use mathlib.Core.Logic.{◌⊎◌, inl, inr, ⊎_elim}
use mathlib.Core.List.{List, [], ◌∷◌}
use mathlib.Core.Bool.{Bool, true, false, cond, not, ◌&&◌, ◌||◌, xor}
use lib.Dec.{eqb}
use lib.ListN.{length, get_or}
use Rattle.lists.specs.Lists.{filter, any, odd, member}
use Rattle.lists.proofs.Truth.{clash, and_left, and_right, or_cases, or_intro, not_so, same_eqb, false_xor, xor_comm, xor_assoc, xor_self}
use Rattle.lists.proofs.Members.{member_filter, member_append, any_some, any_none}
use borrow.Author.Tests.{eqb-true}
use Rattle.dem.specs.Model.{Symptom}
use Rattle.dem.specs.Cover.{one, is_empty, without, difference, within, chosen_fits, choose, closes, cover_from, first_cover, none_such, Ascending, Before, IsCover, IsFirst}

-- ---- sets

-- what is left of a once b is taken off
pub member_without : (d : ℕ) (b a : List ℕ) → member d (without b a) ≡ (not (member d b) && member d a)
member_without d b a = member_filter (λ x. not (member x b)) d a

pub member_difference : (d : ℕ) (a b : List ℕ) → member d (difference a b) ≡ xor (member d a) (member d b)
unfolding difference xor
member_difference d a b =
    member_append d (without b a) (without a b)
    ∙ ap₂ ◌||◌ (member_without d b a) (member_without d a b)
    ∙ table (member d a) (member d b)
  where
    table : (p q : Bool) → ((not q && p) || (not p && q)) ≡ xor p q
    table true true = refl
    table true false = refl
    table false true = refl
    table false false = refl

pub empty_none : (l : List ℕ) → is_empty l ≡ true → (d : ℕ) → member d l ≡ false
unfolding member
empty_none [] e d = refl
empty_none (x ∷ l) e d = clash e refl

pub none_empty : (l : List ℕ) → ((d : ℕ) → member d l ≡ false) → is_empty l ≡ true
unfolding member
none_empty [] h = refl
none_empty (x ∷ l) h = clash (or_first (eqb x x) (member x l) (same_eqb x)) (h x)
  where
    or_first : (p q : Bool) → p ≡ true → (p || q) ≡ true
    or_first true q e = refl
    or_first false q e = clash e refl

is_not : (b : Bool) → not b ≡ true → b ≡ false
is_not true e = sym e
is_not false e = refl

is_true : (b : Bool) → not b ≡ false → b ≡ true
is_true true e = refl
is_true false e = sym e

pub within_all : (b a : List ℕ) → within b a ≡ true → (d : ℕ) → member d a ≡ true → member d b ≡ true
unfolding within
within_all b a h d m = is_true (member d b) (any_none (λ x. not (member x b)) a (is_not (any (λ x. not (member x b)) a) h) d m)

pub all_within : (b a : List ℕ) → ((d : ℕ) → member d a ≡ true → member d b ≡ true) → within b a ≡ true
unfolding within
all_within b a h = ap not (not_so (any (λ x. not (member x b)) a) (λ t. let (d, m, k) = any_some (λ x. not (member x b)) a t in clash (h d m) (is_not (member d b) k)))

pub fits_parts : (left : List ℕ) (s : Symptom) → chosen_fits left s ≡ true → (is_empty s.detectors ≡ false) × ((d : ℕ) → member d s.detectors ≡ true → member d left ≡ true)
unfolding chosen_fits
fits_parts left s h =
    let a = not (is_empty s.detectors) in
    let b = within left s.detectors in
    (is_not (is_empty s.detectors) (and_left a b h), within_all left s.detectors (and_right a b h))

pub fits_of : (left : List ℕ) (s : Symptom) → is_empty s.detectors ≡ false → ((d : ℕ) → member d s.detectors ≡ true → member d left ≡ true) → chosen_fits left s ≡ true
unfolding chosen_fits
fits_of left s e h = rw (e, all_within left s.detectors h)

-- nothing fits in what is empty
pub fits_none : (left : List ℕ) (s : Symptom) → ((d : ℕ) → member d left ≡ false) → chosen_fits left s ≡ false
fits_none left s h = not_so (chosen_fits left s) (λ t. let (e, w) = fits_parts left s t in clash (none_empty s.detectors (λ d. not_so (member d s.detectors) (λ m. clash (w d m) (h d)))) e)

-- ---- a choice made one by one, as the definition makes it

module _ (kept : List Symptom) where
  -- an ascending choice from `at` on: each fits in what is left, and nothing is left in the end
  abbrev Chosen : ℕ → List ℕ → List ℕ → List ℕ → Type 0
  Chosen at left obs [] = (is_empty left ≡ true) × (is_empty obs ≡ true)
  Chosen at left obs (c ∷ cs) =
      (at ≤ c) × (c < length kept) × (chosen_fits left (get_or kept c none_such) ≡ true)
      × Chosen (suc c) (without (get_or kept c none_such).detectors left) (difference obs (get_or kept c none_such).observables) cs

  -- ---- and as sets, of what is left
  record Parts (at : ℕ) (left obs : List ℕ) (cs : List ℕ) : Type 0 where
    pub ascends : Ascending (length kept) at cs
    pub filled : (c : ℕ) → member c cs ≡ true → is_empty (get_or kept c none_such).detectors ≡ false
    pub partitions : (d : ℕ) → length (filter (λ c. member d (get_or kept c none_such).detectors) cs) ≡ one (member d left)
    pub matches : (o : ℕ) → odd (λ c. member o (get_or kept c none_such).observables) cs ≡ member o obs

  one_inj : (p : Bool) → 0 ≡ one p → p ≡ false
  one_inj true e = absurd (omega arith)
  one_inj false e = refl

  -- one that is taken off, and what is left
  count_more : (p q : Bool) (l : List ℕ) (c : ℕ) → (p ≡ true → q ≡ true) → length l ≡ one (not p && q) → length (cond p (c ∷ l) l) ≡ one q
  count_more true true l c h e = ap suc e
  count_more true false l c h e = clash (h refl) refl
  count_more false q l c h e = e

  count_less : (p q : Bool) (l : List ℕ) (c : ℕ) → length (cond p (c ∷ l) l) ≡ one q → (p ≡ true → q ≡ true) × (length l ≡ one (not p && q))
  count_less true true l c e = (λ t. refl, omega arith)
  count_less true false l c e = absurd (omega arith)
  count_less false q l c e = (λ t. clash t refl, e)

  to_parts : (at : ℕ) (left obs cs : List ℕ) → Chosen at left obs cs → Parts at left obs cs
  unfolding member filter odd
  to_parts at left obs [] h = record {
    ascends = tt;
    filled = λ c m. clash m refl;
    partitions = λ d. sym (ap one (empty_none left h.0 d));
    matches = λ o. sym (empty_none obs h.1 o);
  }
  to_parts at left obs (c ∷ cs) h =
      let s = get_or kept c none_such in
      let f = fits_parts left s h.2 in
      let r = to_parts (suc c) (without s.detectors left) (difference obs s.observables) cs h.3 in
      record {
        ascends = (h.0, h.1, r.ascends);
        filled = λ b m. ⊎_elim (λ t. rw (eqb-true b c t) f.0) (λ t. r.filled b t) (or_cases (eqb b c) (member b cs) m);
        partitions = λ d. count_more (member d s.detectors) (member d left) (filter (λ c. member d (get_or kept c none_such).detectors) cs) c (f.1 d) (r.partitions d ∙ ap one (member_without d s.detectors left));
        matches = λ o. ap (xor (member o s.observables)) (r.matches o ∙ member_difference o obs s.observables) ∙ back (member o s.observables) (member o obs);
      }
    where
      back : (p q : Bool) → xor p (xor q p) ≡ q
      back p q = ap (xor p) (xor_comm q p) ∙ sym (xor_assoc p p q) ∙ ap (λ (x : Bool). xor x q) (xor_self p) ∙ false_xor q

  from_parts : (at : ℕ) (left obs cs : List ℕ) → Parts at left obs cs → Chosen at left obs cs
  unfolding member filter odd
  from_parts at left obs [] h = (none_empty left (λ d. one_inj (member d left) (h.partitions d)), none_empty obs (λ o. sym (h.matches o)))
  from_parts at left obs (c ∷ cs) h =
      let s = get_or kept c none_such in
      let off : (d : ℕ) → (member d s.detectors ≡ true → member d left ≡ true) × (length (filter (λ c. member d (get_or kept c none_such).detectors) cs) ≡ one (not (member d s.detectors) && member d left))
      = λ d. count_less (member d s.detectors) (member d left) (filter (λ c. member d (get_or kept c none_such).detectors) cs) c (h.partitions d) in (
        h.ascends.0,
        h.ascends.1,
        fits_of left s (h.filled c (rw (same_eqb c))) (λ d. (off d).0),
        from_parts (suc c) (without s.detectors left) (difference obs s.observables) cs (record {
          ascends = h.ascends.2;
          filled = λ b m. h.filled b (or_intro (eqb b c) (member b cs) m);
          partitions = λ d. (off d).1 ∙ sym (ap one (member_without d s.detectors left));
          matches = λ o. other (member o s.observables) (odd (λ c. member o (get_or kept c none_such).observables) cs) (member o obs) (h.matches o) ∙ sym (member_difference o obs s.observables);
        }),
      )
    where
      other : (p x q : Bool) → xor p x ≡ q → x ≡ xor q p
      other p x q e = sym (false_xor x) ∙ ap (λ (y : Bool). xor y x) (sym (xor_self p)) ∙ xor_assoc p p x ∙ ap (xor p) e ∙ xor_comm p q

  later : (at : ℕ) (left obs cs : List ℕ) → Chosen (suc at) left obs cs → Chosen at left obs cs
  later at left obs [] h = h
  later at left obs (c ∷ cs) h = (omega arith, h.1, h.2, h.3)

  -- ---- the definition goes through the kept mechanisms from `at` on
  abbrev From : ℕ → List Symptom → Type 0
  From at ss = (at + length ss ≡ length kept) × ((i : ℕ) → get_or ss i none_such ≡ get_or kept (at + i) none_such)

  next : (at : ℕ) (s : Symptom) (ss : List Symptom) → From at (s ∷ ss) → From (suc at) ss
  next at s ss h = (omega (arith, h.0), λ i. h.1 (suc i) ∙ ap (λ (j : ℕ). get_or kept j none_such) (omega arith))

  here : (at : ℕ) (s : Symptom) (ss : List Symptom) → From at (s ∷ ss) → s ≡ get_or kept at none_such
  here at s ss h = h.1 0 ∙ ap (λ (j : ℕ). get_or kept j none_such) (omega arith)

  closes_some : (p q : Bool) (cs : List ℕ) → closes (p && q) ≡ Some cs → (cs ≡ []) × (p ≡ true) × (q ≡ true)
  closes_some true true cs e = (cc, refl, refl)
  closes_some true false cs e = absurd (let z : ◌≡◌ {A = ℕ} 0 1 = cc in omega arith)
  closes_some false q cs e = absurd (let z : ◌≡◌ {A = ℕ} 0 1 = cc in omega arith)

  -- what is found is a cover
  sound : (ss : List Symptom) (at : ℕ) (left obs cs : List ℕ) → From at ss → cover_from ss at left obs ≡ Some cs → Chosen at left obs cs
  unfolding cover_from
  sound [] at left obs cs f e =
      let h = closes_some (is_empty left) (is_empty obs) cs e in
      subst (λ (l : List ℕ). Chosen at left obs l) (sym h.0) (h.1, h.2)
  sound (s ∷ ss) at left obs cs f e =
      go (chosen_fits left s) refl (cover_from ss (suc at) (without s.detectors left) (difference obs s.observables))
      (λ ds q. sound ss (suc at) (without s.detectors left) (difference obs s.observables) ds (next at s ss f) q)
      (λ ds q. sound ss (suc at) left obs ds (next at s ss f) q) e
    where
      go : (b : Bool) → chosen_fits left s ≡ b → (x : Option (List ℕ))
          → ((ds : List ℕ) → x ≡ Some ds → Chosen (suc at) (without s.detectors left) (difference obs s.observables) ds)
          → ((ds : List ℕ) → cover_from ss (suc at) left obs ≡ Some ds → Chosen (suc at) left obs ds)
          → choose b at x (cover_from ss (suc at) left obs) ≡ Some cs
          → Chosen at left obs cs
      go true t (Some ds) with_it without-it e =
          let q : at ∷ ds ≡ cs = cc in
          let h : (r : Symptom) → s ≡ r → (chosen_fits left r ≡ true) × Chosen (suc at) (without r.detectors left) (difference obs r.observables) ds
          = λ r k. subst (λ (r : Symptom). (chosen_fits left r ≡ true) × Chosen (suc at) (without r.detectors left) (difference obs r.observables) ds) k (t, with_it ds refl) in
          let k = h (get_or kept at none_such) (here at s ss f) in
          subst (λ (l : List ℕ). Chosen at left obs l) q (omega arith, omega (arith, f.0), k.0, k.1)
      go true t None with_it without-it e = later at left obs cs (without-it cs e)
      go false t x with_it without-it e = later at left obs cs (without-it cs e)

  -- where there is a cover, one is found, and it is that cover or comes before it
  abbrev Found_by : Option (List ℕ) → List ℕ → Type 0
  Found_by x ds = (cs : List ℕ) × (x ≡ Some cs) × Before cs ds

  -- a cover that begins past `at` is found without `at`, or one with `at` comes before it
  beyond : (b : Bool) (at : ℕ) (x y : Option (List ℕ)) (d : ℕ) (ds : List ℕ) → at < d → Found_by y (d ∷ ds) → Found_by (choose b at x y) (d ∷ ds)
  beyond true at (Some cs) y d ds h r = (at ∷ cs, refl, inl h)
  beyond true at None y d ds h r = r
  beyond false at x y d ds h r = r

  -- where nothing is left, no mechanism fits
  all_closed : (ss : List Symptom) (at : ℕ) (left obs : List ℕ) → is_empty left ≡ true → is_empty obs ≡ true → cover_from ss at left obs ≡ Some []
  unfolding cover_from
  all_closed [] at left obs e f = rw (e, f)
  all_closed (s ∷ ss) at left obs e f = rw (fits_none left s (empty_none left e)) (all_closed ss (suc at) left obs e f)

  first : (ss : List Symptom) (at : ℕ) (left obs ds : List ℕ) → From at ss → Chosen at left obs ds → Found_by (cover_from ss at left obs) ds
  unfolding cover_from
  first ss at left obs [] f h = ([], all_closed ss at left obs h.0 h.1, tt)
  first [] at left obs (d ∷ ds) f h = absurd (omega (arith, f.0))
  first (s ∷ ss) at left obs (d ∷ ds) f h =
      go (first ss (suc at) (without s.detectors left) (difference obs s.observables) ds (next at s ss f)) (first ss (suc at) left obs (d ∷ ds) (next at s ss f)) (eq-or-lt_of_le h.0)
    where
      go : (Chosen (suc at) (without s.detectors left) (difference obs s.observables) ds
          → Found_by (cover_from ss (suc at) (without s.detectors left) (difference obs s.observables)) ds)
          → (Chosen (suc at) left obs (d ∷ ds) → Found_by (cover_from ss (suc at) left obs) (d ∷ ds))
          → (at ≡ d) ⊎ (at < d) → Found_by (cover_from (s ∷ ss) at left obs) (d ∷ ds)
      go with_it without-it (inl e) =
          let q : get_or kept d none_such ≡ s = sym (here at s ss f ∙ ap (λ (j : ℕ). get_or kept j none_such) e) in
          let k = subst (λ (r : Symptom). (chosen_fits left r ≡ true) × Chosen (suc d) (without r.detectors left) (difference obs r.observables) ds) q (h.2, h.3) in
          let r = with_it (subst (λ (j : ℕ). Chosen (suc j) (without s.detectors left) (difference obs s.observables) ds) (sym e) k.1) in
          (at ∷ r.0, rw (k.0, r.1), inr (e, r.2))
      go with_it without-it (inr l) =
          beyond (chosen_fits left s) at _ _ d ds l (without-it (l, h.1, h.2, h.3))

  none_of : (ss : List Symptom) (at : ℕ) (left obs : List ℕ) → From at ss → cover_from ss at left obs ≡ None → (ds : List ℕ) → Chosen at left obs ds → ⊥
  none_of ss at left obs f e ds h = let r = first ss at left obs ds f h in let k = r.1 in let z : ◌≡◌ {A = ℕ} 0 1 = cc in omega arith

  whole : From 0 kept
  whole = (omega arith, λ i. ap (λ (j : ℕ). get_or kept j none_such) (omega arith))

  module _ (s : Symptom) where
    to_cover : (cs : List ℕ) → Chosen 0 s.detectors s.observables cs → IsCover kept s cs
    to_cover cs h =
        let p = to_parts 0 s.detectors s.observables cs h in
        record { ascends = p.ascends; filled = p.filled; partitions = p.partitions; matches = p.matches }

    from_cover : (cs : List ℕ) → IsCover kept s cs → Chosen 0 s.detectors s.observables cs
    from_cover cs p = from_parts 0 s.detectors s.observables cs (record { ascends = p.ascends; filled = p.filled; partitions = p.partitions; matches = p.matches })

    is_first_of : (x : Option (List ℕ)) → cover_from kept 0 s.detectors s.observables ≡ x → IsFirst kept s x
    is_first_of None e = λ ds d. none_of kept 0 s.detectors s.observables whole e ds (from_cover ds d)
    is_first_of (Some cs) e = (to_cover cs (sound kept 0 s.detectors s.observables cs whole e), λ ds d. before ds d)
      where
        before : (ds : List ℕ) → IsCover kept s ds → Before cs ds
        before ds d =
            let r = first kept 0 s.detectors s.observables ds whole (from_cover ds d) in
            let k = r.1 in
            let z : r.0 ≡ cs = cc in
            subst (λ (l : List ℕ). Before l ds) z r.2

    pub is_first : IsFirst kept s (first_cover kept s)
    unfolding first_cover
    is_first = is_first_of (cover_from kept 0 s.detectors s.observables) refl

-- two choices that each come before the other are the same
before_one : (cs ds : List ℕ) → Before cs ds → Before ds cs → cs ≡ ds
before_one [] [] h k = refl
before_one [] (d ∷ ds) h k = absurd k
before_one (c ∷ cs) [] h k = absurd h
before_one (c ∷ cs) (d ∷ ds) (inl l) (inl m) = absurd (omega arith)
before_one (c ∷ cs) (d ∷ ds) (inl l) (inr m) = absurd (omega (arith, m.0))
before_one (c ∷ cs) (d ∷ ds) (inr l) (inl m) = absurd (omega (arith, l.0))
before_one (c ∷ cs) (d ∷ ds) (inr l) (inr m) = ap₂ ◌∷◌ l.0 (before_one cs ds l.1 m.1)

pub one_first : (kept : List Symptom) (s : Symptom) (x y : Option (List ℕ)) → IsFirst kept s x → IsFirst kept s y → x ≡ y
one_first kept s None None h k = refl
one_first kept s None (Some ds) h k = absurd (h ds k.0)
one_first kept s (Some cs) None h k = absurd (k cs h.0)
one_first kept s (Some cs) (Some ds) h k = ap Some (before_one cs ds (h.1 ds k.0) (k.1 cs h.0))
