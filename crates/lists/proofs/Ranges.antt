-- Ranges, `from n a`, and what of them passes a test.
use Prim.Native.Nat.{ℕ, zero, suc, ◌+◌, ◌-◌, ◌≤◌, ◌<◌, zero-le}
use native.Mathlib.Nat.{zero-add, suc-add, not-suc-le-zero, le_of_suc-le-suc}
use native.Mathlib.Numerals.{add-one}
use native.Mathlib.Omega.{arith}
use mathlib.Core.Path.{◌≡◌, refl, sym, ap, ◌∙◌}
use mathlib.Core.List.{List, [], ◌∷◌, ◌++◌}
use mathlib.Core.Bool.{Bool, false, not}
use lib.Dec.{eqb, ltb}
use lib.ListN.{length, get_or}
use borrow.Author.Tests.{eqb-true, eqb-false, ne_eqb, lt-ltb, ltb-true}
use Rattle.lists.specs.Lists.{from, below, filter, any, member, firsts}
use Rattle.lists.proofs.Truth.{case-of, cond_case, iff_eq, or_left, or_right}
use Rattle.lists.proofs.Members.{member_below, below_member}

-- ---- one range after another

pub from_append : (m n a : ℕ) → from (m + n) a ≡ from m a ++ from n (m + a)
unfolding from
from_append zero n a = rw (zero-add n, zero-add a)
from_append (suc m) n a = rw (suc-add m n) (ap (λ (l : List ℕ). a ∷ l) (from_append m n (suc a) ∙ ap (λ (k : ℕ). from m (suc a) ++ from n k) (omega arith)))

pub member_range : (d n : ℕ) → member d (below n) ≡ ltb d n
member_range d n = iff_eq (member d (below n)) (ltb d n) (λ h. lt-ltb d n (member_below d n h)) (λ h. below_member d n (ltb-true d n h))

-- ---- filter

module _ {A : Type 0} (p : A → Bool) where
  pub filter_append : (l m : List A) → filter p (l ++ m) ≡ filter p l ++ filter p m
  unfolding filter
  filter_append [] m = refl
  filter_append (a ∷ l) m = case-of (p a) (λ t. rw (t, filter_append l m)) (λ f. rw (f, filter_append l m))

  pub length_filter : (l : List A) → length (filter p l) ≤ length l
  unfolding filter
  length_filter [] = zero-le
  length_filter (a ∷ l) = let h = length_filter l in cond_case (λ (r : List A). length r ≤ suc (length l)) (p a) (a ∷ filter p l) (filter p l) (λ t. omega arith) (λ f. omega arith)

pub filter_split : (p : ℕ → Bool) (m n a : ℕ) → filter p (from (m + n) a) ≡ filter p (from m a) ++ filter p (from n (m + a))
filter_split p m n a = ap (filter p) (from_append m n a) ∙ filter_append p (from m a) (from n (m + a))

-- tests that agree in a range pass the same
pub filter_from : (p q : ℕ → Bool) (n a : ℕ) → ((d : ℕ) → a ≤ d → d < n + a → p d ≡ q d) → filter p (from n a) ≡ filter q (from n a)
unfolding filter from
filter_from p q zero a h = refl
filter_from p q (suc n) a h = rw (h a (omega arith) (omega arith), filter_from p q n (suc a) (λ d k l. h d (omega arith) (omega arith)))

pub filter_false : {A : Type 0} (l : List A) → filter (λ a. false) l ≡ []
unfolding filter
filter_false [] = refl
filter_false (a ∷ l) = filter_false l

pub filter_none : (p : ℕ → Bool) (n a : ℕ) → ((d : ℕ) → a ≤ d → d < n + a → p d ≡ false) → filter p (from n a) ≡ []
filter_none p n a h = filter_from p (λ d. false) n a h ∙ filter_false (from n a)

-- ---- any

pub any_from : (p : ℕ → Bool) (n a : ℕ) → any p (from n a) ≡ false → (d : ℕ) → a ≤ d → d < n + a → p d ≡ false
unfolding any from
any_from p zero a h d k l = absurd (omega arith)
any_from p (suc n) a h d k l = case-of (eqb a d)
    (λ t. rw (sym (eqb-true a d t)) (or_left (p a) (any p (from n (suc a))) h))
    (λ f. any_from p n (suc a) (or_right (p a) (any p (from n (suc a))) h) d (omega (arith, eqb-false a d f)) (omega arith))

pub from_any : (p : ℕ → Bool) (n a : ℕ) → ((d : ℕ) → a ≤ d → d < n + a → p d ≡ false) → any p (from n a) ≡ false
unfolding any from
from_any p zero a h = refl
from_any p (suc n) a h = rw (h a (omega arith) (omega arith), from_any p n (suc a) (λ d k l. h d (omega arith) (omega arith)))

-- ---- what passes ascends, and so has no repeats

least_cons : (a : ℕ) (l : List ℕ) → ((i : ℕ) → i < length l → suc a ≤ get_or l i 0) → (i : ℕ) → i < suc (length l) → a ≤ get_or (a ∷ l) i 0
least_cons a l g zero h = omega arith
least_cons a l g (suc i) h = let k = g i (le_of_suc-le-suc h) in omega arith

pub filter_least : (p : ℕ → Bool) (n a i : ℕ) → i < length (filter p (from n a)) → a ≤ get_or (filter p (from n a)) i 0
unfolding filter from
filter_least p zero a i h = absurd (not-suc-le-zero h)
filter_least p (suc n) a i h = case-of (p a)
    (λ t. rw t (least_cons a (filter p (from n (suc a))) (λ i k. filter_least p n (suc a) i k) i (rw t at h)))
    (λ f. rw f (let k = filter_least p n (suc a) i (rw f at h) in omega arith))

ascends_cons : (a : ℕ) (l : List ℕ) → ((i : ℕ) → i < length l → suc a ≤ get_or l i 0) → ((i j : ℕ) → i < j → j < length l → get_or l i 0 < get_or l j 0)
    → (i j : ℕ) → i < j → j < suc (length l) → get_or (a ∷ l) i 0 < get_or (a ∷ l) j 0
ascends_cons a l g s i zero k h = absurd (not-suc-le-zero k)
ascends_cons a l g s zero (suc j) k h = g j (le_of_suc-le-suc h)
ascends_cons a l g s (suc i) (suc j) k h = s i j (le_of_suc-le-suc k) (le_of_suc-le-suc h)

pub filter_ascends : (p : ℕ → Bool) (n a i j : ℕ) → i < j → j < length (filter p (from n a)) → get_or (filter p (from n a)) i 0 < get_or (filter p (from n a)) j 0
unfolding filter from
filter_ascends p zero a i j k h = absurd (not-suc-le-zero h)
filter_ascends p (suc n) a i j k h = case-of (p a)
    (λ t. rw t (ascends_cons a (filter p (from n (suc a))) (λ i k. filter_least p n (suc a) i k) (λ i j k h. filter_ascends p n (suc a) i j k h) i j k (rw t at h)))
    (λ f. rw f (filter_ascends p n (suc a) i j k (rw f at h)))

-- numbers from b on pass a test that leaves out a lower one
keep_above : (p : ℕ → Bool) (n a b : ℕ) → b < a → filter (λ c. not (eqb c b)) (filter p (from n a)) ≡ filter p (from n a)
unfolding filter from
keep_above p zero a b h = refl
keep_above p (suc n) a b h = case-of (p a) (λ t. rw (t, ne_eqb a b (λ e. omega arith), keep_above p n (suc a) b (omega arith))) (λ f. rw (f, keep_above p n (suc a) b (omega arith)))

pub filter_firsts : (p : ℕ → Bool) (n a : ℕ) → firsts (filter p (from n a)) ≡ filter p (from n a)
unfolding firsts filter from
filter_firsts p zero a = refl
filter_firsts p (suc n) a = case-of (p a) (λ t. rw (t, filter_firsts p n (suc a), keep_above p n (suc a) a (omega arith))) (λ f. rw (f, filter_firsts p n (suc a)))

-- ---- the numbers from s to n

pub left_one : (n s : ℕ) → s < n → from (n - s) s ≡ s ∷ from (n - (s + 1)) (s + 1)
unfolding from
left_one n s h =
    let e : n - s ≡ suc (n - (s + 1)) = omega arith in
    rw (e, add-one s)

pub left_none : (n s : ℕ) → n ≤ s → from (n - s) s ≡ []
unfolding from
left_none n s h =
    let e : n - s ≡ 0 = omega arith in
    rw e
