-- The turns of the loops that make masks and words, and of the one that finds a place.
use Prim.Native.Nat.{ℕ, zero, suc, ◌+◌, ◌-◌, ◌*◌, ◌/◌, ◌%◌, ◌^◌, ◌<◌, ◌≤◌}
use native.Mathlib.Nat.{lt_irrefl, one-mul, pow-suc, mul-div_cancel, mul-mod_left, zero-lt-suc}
use native.Mathlib.Omega.{arith}
use mathlib.Core.Path.{◌≡◌, refl, sym, ap, ap₂, ◌∙◌, subst}
use mathlib.Core.Logic.{⊎_elim}
use mathlib.Core.List.{List, [], ◌∷◌, ◌++◌}
use mathlib.Core.Bool.{Bool, true, false, ◌&&◌, ◌||◌}
use lib.Arith.{digits_div, digits_mod}
use lib.Dec.{eqb, leb, ltb}
use lib.ListN.{length, get_or, take, set}
use lib.Seq.{get_or-set_same, get_or-set_other}
use lib.Bits.{bit_or, or_step, or_zero_r}
use lib.Pow.{shl_exact}
use borrow.Author.Count.{below_more}
use borrow.Author.Tests.{eq-eqb, ne_eqb, eqb-true, leb-true, ltb-true, lt-ltb}
use Rattle.std.specs.Prelude.{Some, None}
use Rattle.std.specs.List.{position_or_len}
use Rattle.std.proofs.lemmas.List.{take_all, take_more}
use Rattle.std.proofs.lemmas.List.Quantifiers.{position-Some}
use Rattle.lists.specs.Lists.{from, member}
use Rattle.lists.proofs.Members.{member_append, at_member, length_from}
use Rattle.lists.proofs.Truth.{case-of, clash, not_so, and_left, and_right, or_cases, or_left, or_right, same_eqb, eqb_comm}
use Rattle.dem.specs.Model.{ascending, list_fits}
use Rattle.dem.specs.Cover.{one, within}
use Rattle.cover.specs.Masks.{mask_of, word_of, mask_within, Rises, place_of}
use Rattle.cover.proofs.First.{within_all, all_within}
use Rattle.cover.proofs.ByMasks.{one_lt, mask_none}

-- 1 << k
pub shl_one : (w k : ℕ) → k < w → (1 * 2 ^ k) % 2 ^ w ≡ 2 ^ k
shl_one w k h = shl_exact 1 k w (omega arith) (omega arith) ∙ one-mul (2 ^ k)

-- ---- members

-- a member stands somewhere
pub place_of_lem : (x : ℕ) (l : List ℕ) → member x l ≡ true → (i : ℕ) × (i < length l) × (get_or l i 0 ≡ x)
unfolding member
place_of_lem x [] m = clash m refl
place_of_lem x (y ∷ l) m = ⊎_elim
    (λ t. (0, omega arith, sym (eqb-true x y t)))
    (λ t. let (i, h, e) = place_of_lem x l t in (suc i, omega arith, e))
    (or_cases (eqb x y) (member x l) m)

-- ---- a place

-- where a place is found, x stands
pub place_some : (x : ℕ) (ds : List ℕ) (j : ℕ) → place_of x ds ≡ Some j → (j < length ds) × (get_or ds j 0 ≡ x)
place_some x ds j e = let h = position-Some (λ y. eqb y x) ds j 0 e in (h.0, eqb-true (get_or ds j 0) x h.1)

pub place_in : (x : ℕ) (ds : List ℕ) (j : ℕ) → place_of x ds ≡ Some j → member x ds ≡ true
place_in x ds j e = let h = place_some x ds j e in rw h.1 at (at_member ds j h.0)

-- where none is, it is not in the list
pub place_none : (x : ℕ) (ds : List ℕ) → place_of x ds ≡ None → member x ds ≡ false
unfolding member
place_none x ds e = not_so (member x ds) (λ m.
    let l = lt-ltb (position_or_len (λ y. eqb y x) ds) (length ds) (inside ds m) in
    let k : Some (position_or_len (λ y. eqb y x) ds) ≡ None = rw l at e in
    cc)
  where
    inside : (ds : List ℕ) → member x ds ≡ true → position_or_len (λ y. eqb y x) ds < length ds
    inside [] m = clash m refl
    inside (d ∷ ds) m = case-of (eqb d x)
        (λ t. rw t (omega arith))
        (λ f. rw f (let k : member x ds ≡ true = rw (eqb_comm x d, f) at m in let h = inside ds k in omega arith))

-- ---- one more entry in a mask

rises_out : (low : ℕ) (ds : List ℕ) (x : ℕ) → Rises low ds → x < low → member x ds ≡ false
unfolding member
rises_out low [] x r h = refl
rises_out low (d ∷ ds) x r h = rw (ne_eqb x d (λ e. omega arith)) (rises_out (suc d) ds x r.1 (omega arith))

-- an entry that is not in ds changes nothing
pub mask_other : (ds : List ℕ) (x : ℕ) (ys : List ℕ) → member x ds ≡ false → mask_of ds (x ∷ ys) ≡ mask_of ds ys
unfolding mask_of member
mask_other [] x ys h = refl
mask_other (d ∷ ds) x ys h =
    ap₂ (λ (a b : ℕ). a * 2 + b) (mask_other ds x ys (or_right (eqb x d) (member x ds) h)) (rw (eqb_comm d x, or_left (eqb x d) (member x ds) h))

pub rises_at : (low : ℕ) (ds : List ℕ) (j : ℕ) → Rises low ds → j < length ds → low ≤ get_or ds j 0
rises_at low [] j r h = absurd (omega arith)
rises_at low (d ∷ ds) zero r h = r.0
rises_at low (d ∷ ds) (suc j) r h = let q = rises_at (suc d) ds j r.1 (omega arith) in omega (arith, r.0)

pub mask_more : (low : ℕ) (ds : List ℕ) (x : ℕ) (ys : List ℕ) (j : ℕ) → Rises low ds → j < length ds → get_or ds j 0 ≡ x → bit_or (mask_of ds ys) (2 ^ j) ≡ mask_of ds (x ∷ ys)
unfolding mask_of member
mask_more low [] x ys j r h e = absurd (omega arith)
mask_more low (d ∷ ds) x ys zero r h e =
    rw (eq-eqb d x e, mask_other ds x ys (rises_out (suc d) ds x r.1 (omega (arith, e))))
    (or_step (mask_of ds ys * 2 + one (member d ys)) 1
    ∙ rw (digits_div (mask_of ds ys) (one_lt (member d ys)), digits_mod (mask_of ds ys) (one_lt (member d ys)), or_zero_r (mask_of ds ys)) (omega (arith, one_lt (member d ys))))
mask_more low (d ∷ ds) x ys (suc j) r h e =
    let f : eqb d x ≡ false = ne_eqb d x (λ q. absurd (omega (arith, rises_at (suc d) ds j r.1 (omega arith), e))) in
    let hj : 2 ^ suc j / 2 ≡ 2 ^ j = ap (λ (z : ℕ). z / 2) (pow-suc 2 j) ∙ mul-div_cancel (2 ^ j) (zero-lt-suc 1) in
    let lj : 2 ^ suc j % 2 ≡ 0 = ap (λ (z : ℕ). z % 2) (pow-suc 2 j) ∙ mul-mod_left (2 ^ j) 2 in
    rw f
    (or_step (mask_of ds ys * 2 + one (member d ys)) (2 ^ suc j)
    ∙ rw (digits_div (mask_of ds ys) (one_lt (member d ys)), digits_mod (mask_of ds ys) (one_lt (member d ys)), hj, lj, mask_more (suc d) ds x ys j r.1 (omega arith) e) (omega (arith, one_lt (member d ys))))

-- the order of the entries does not matter
mask_last : (ds ys : List ℕ) (x : ℕ) → mask_of ds (ys ++ x ∷ []) ≡ mask_of ds (x ∷ ys)
unfolding mask_of member
mask_last [] ys x = refl
mask_last (d ∷ ds) ys x = ap₂ (λ (a b : ℕ). a * 2 + b) (mask_last ds ys x) (ap one (member_append d ys (x ∷ []) ∙ swap (member d ys) (eqb d x)))
  where
    swap : (a b : Bool) → (a || (b || false)) ≡ (b || a)
    swap true true = refl
    swap true false = refl
    swap false true = refl
    swap false false = refl

module _ (ds xs : List ℕ) (i : ℕ) (h : i < length xs) where
  pub mask_in : (j : ℕ) → Rises 0 ds → j < length ds → get_or ds j 0 ≡ get_or xs i 0 → bit_or (mask_of ds (take i xs)) (2 ^ j) ≡ mask_of ds (take (i + 1) xs)
  mask_in j r l e = rw (take_more xs i 0 h) (mask_more 0 ds (get_or xs i 0) (take i xs) j r l e ∙ sym (mask_last ds (take i xs) (get_or xs i 0)))

  -- an entry that is not in ds
  pub mask_out : member (get_or xs i 0) ds ≡ false → mask_within ds xs ≡ None
  unfolding mask_within
  mask_out f = rw (not_so (within ds xs) (λ t. clash (within_all ds xs t (get_or xs i 0) (at_member xs i h)) f))

pub mask_all : (ds xs : List ℕ) → within ds xs ≡ true → mask_within ds xs ≡ Some (mask_of ds xs)
unfolding mask_within
mask_all ds xs e = rw e

-- a list is within itself
pub mask_self : (ds : List ℕ) → mask_within ds ds ≡ Some (mask_of ds ds)
mask_self ds = mask_all ds ds (all_within ds ds (λ d m. m))

-- all entries passed, each of them in ds
pub mask_end : (ds xs : List ℕ) (i : ℕ) → length xs ≤ i → ((k : ℕ) → k < i → member (get_or xs k 0) ds ≡ true) → Some (mask_of ds (take i xs)) ≡ mask_within ds xs
mask_end ds xs i h f =
    rw (take_all i xs h)
    (sym (mask_all ds xs (all_within ds xs (λ d m. let (k, l, e) = place_of_lem d xs m in subst (λ (x : ℕ). member x ds ≡ true) e (f k (omega arith))))))

pub mask_begin : (ds : List ℕ) → 0 ≡ mask_of ds []
unfolding member
mask_begin ds = sym (mask_none ds [] (λ d. refl))

-- ---- words

from_rises : (n a : ℕ) → Rises a (from n a)
unfolding from
from_rises zero a = tt
from_rises (suc n) a = (omega arith, from_rises n (suc a))

from_at : (n a j : ℕ) → j < n → get_or (from n a) j 0 ≡ j + a
unfolding from
from_at zero a j h = absurd (omega arith)
from_at (suc n) a zero h = omega arith
from_at (suc n) a (suc j) h = from_at n (suc a) j (omega arith) ∙ omega arith

from_out : (n a x : ℕ) → (a ≤ x → x < a + n → ⊥) → member x (from n a) ≡ false
unfolding from member
from_out zero a x f = refl
from_out (suc n) a x f = rw (ne_eqb x a (λ e. f (omega arith) (omega arith))) (from_out n (suc a) x (λ h k. f (omega arith) (omega arith)))

module _ (f : ℕ) (xs : List ℕ) (i : ℕ) (h : i < length xs) where
  pub word_in : f ≤ get_or xs i 0 → get_or xs i 0 - f < 64 → bit_or (word_of f (take i xs)) (2 ^ (get_or xs i 0 - f)) ≡ word_of f (take (i + 1) xs)
  unfolding word_of
  word_in a b =
      let x = get_or xs i 0 in
      rw (take_more xs i 0 h)
      (mask_more f (from 64 f) x (take i xs) (x - f) (from_rises 64 f) (omega (arith, length_from 64 f)) (from_at 64 f (x - f) b ∙ omega arith)
      ∙ sym (mask_last (from 64 f) (take i xs) x))

  pub word_out : (f ≤ get_or xs i 0 → get_or xs i 0 < f + 64 → ⊥) → word_of f (take i xs) ≡ word_of f (take (i + 1) xs)
  unfolding word_of
  word_out g =
      rw (take_more xs i 0 h)
      (sym (mask_last (from 64 f) (take i xs) (get_or xs i 0) ∙ mask_other (from 64 f) (get_or xs i 0) (take i xs) (from_out 64 f (get_or xs i 0) g)))

pub word_begin : (f : ℕ) → 0 ≡ word_of f []
unfolding word_of member
word_begin f = sym (mask_none (from 64 f) [] (λ d. refl))

-- ---- a table that is filled from the front

pub rows_more : (f : ℕ → ℕ) (l : List ℕ) (c r : ℕ) → c < length l → ((k : ℕ) → k < c → get_or l k 0 ≡ f k) → r ≡ f c → (k : ℕ) → k < c + 1 → get_or (set l c r) k 0 ≡ f k
rows_more f l c r h below here =
    below_more (λ k. get_or (set l c r) k 0 ≡ f k) c
    (λ k lt. get_or-set_other l c k r 0 (λ e. lt_irrefl c (subst (λ (z : ℕ). z < c) e lt)) ∙ below k lt)
    (get_or-set_same l c r 0 h ∙ here)

-- ---- what the model check tells of a list

ascends : (low b : ℕ) (l : List ℕ) → ascending low b l ≡ true → Rises low l × ((x : ℕ) → member x l ≡ true → x < b)
unfolding ascending member
ascends low b [] e = (tt, λ x m. clash m refl)
ascends low b (x ∷ l) e =
    let p = leb low x in
    let q = ltb x b in
    let r = ascending (suc x) b l in
    let k = ascends (suc x) b l (and_right q r (and_right p (q && r) e)) in
    let u = ltb-true x b (and_left q r (and_right p (q && r) e)) in
    ((leb-true low x (and_left p (q && r) e), k.0), λ y m. ⊎_elim (λ t. rw (eqb-true y x t) u) (λ t. k.1 y t) (or_cases (eqb y x) (member y l) m))

module _ (b : ℕ) (l : List ℕ) (e : list_fits b l ≡ true) where
  pub fits_length : length l ≤ 16
  unfolding list_fits
  fits_length = leb-true (length l) 16 (and_left (leb (length l) 16) (ascending 0 b l) e)

  pub fits_rises : Rises 0 l
  unfolding list_fits
  fits_rises = (ascends 0 b l (and_right (leb (length l) 16) (ascending 0 b l) e)).0

  pub fits_below : (x : ℕ) → member x l ≡ true → x < b
  unfolding list_fits
  fits_below = (ascends 0 b l (and_right (leb (length l) 16) (ascending 0 b l) e)).1

-- its i-th entry
pub fits_at : (b : ℕ) (l : List ℕ) (i : ℕ) → list_fits b l ≡ true → i < length l → get_or l i 0 < b
fits_at b l i e h = fits_below b l e (get_or l i 0) (at_member l i h)

-- and it fits a wider bound
pub fits_wider : (b c : ℕ) (l : List ℕ) → b ≤ c → list_fits b l ≡ true → list_fits c l ≡ true
unfolding list_fits
fits_wider b c l h e =
    let p = leb (length l) 16 in
    let q = ascending 0 b l in
    rw (and_left p q e) (wider 0 l (and_right p q e))
  where
    wider : (low : ℕ) (l : List ℕ) → ascending low b l ≡ true → ascending low c l ≡ true
    wider low [] e = e
    wider low (x ∷ l) e =
        let p = leb low x in
        let q = ltb x b in
        let r = ascending (suc x) b l in
        let u = ltb-true x b (and_left q r (and_right p (q && r) e)) in
        rw (and_left p (q && r) e, lt-ltb x c (omega arith)) (wider (suc x) l (and_right q r (and_right p (q && r) e)))

pub head_in : (x : ℕ) (l : List ℕ) → member x (x ∷ l) ≡ true
unfolding member
head_in x l = rw (same_eqb x)
