-- The laws of packed shots: what an accepted batch is, and what each refusal says.
use Rattle.codes.specs.Order.{Checked}
use Rattle.std.specs.Prelude.{Ok, Err}
use Prim.Native.Nat.{ℕ, zero, suc, ◌+◌, ◌*◌, ◌≤◌, ◌<◌}
use native.Mathlib.Omega.{arith}
use mathlib.Core.Path.{◌≡◌, refl, sym, ◌∙◌}
use mathlib.Core.Bool.{true, false}
use mathlib.Core.List.{List, [], ◌∷◌}
use lib.Dec.{eqb, ltb}
use lib.ListN.{length}
use borrow.Author.Tests.{eqb-true, eqb-false, eq-eqb, ltb-true, ltb-false, le-ltb}
use Rattle.lists.specs.Lists.{from, below, any}
use Rattle.lists.proofs.Truth.{case-of}
use Rattle.bits.specs.Rows.{words, test_bit, bit, is_clear}
use Rattle.codes.specs.declared.Refusal.{Refusal}
use Rattle.codes.specs.declared.Refusal.TheVariants.{Limit, Length, Padding}
use Rattle.codes.specs.Limits.{max_shots, check_shots}
use Rattle.packed.specs.Packed.{row_at, check_length, check_padding, check_packed, packed_by, packed_of}
use Rattle.packed.specs.Laws.{AcceptedSound, SoundAccepted, RowsAccepted, RefusedSame, RowEnds, RowLong, PaddingFirst, LengthWrong, LimitPassed, WordFour}
use Rattle.packed.proofs.Shots.{row_within, row_length}

-- ---- the padding of a run of shots

module _ (rows : List ℕ) (width : ℕ) where
  abbrev Clear : ℕ → Type 0
  Clear s = is_clear width (row_at (words width) rows s) ≡ true

  all_clear : (n a : ℕ) → check_padding width rows (from n a) ≡ Ok tt → (s : ℕ) → a ≤ s → s < n + a → Clear s
  unfolding check_padding from
  all_clear zero a h s k l = absurd (omega arith)
  all_clear (suc n) a h s k l = case-of (is_clear width (row_at (words width) rows a))
      (λ t. case-of (eqb a s) (λ u. rw (sym (eqb-true a s u)) t) (λ f. all_clear n (suc a) (rw t at h) s (omega (arith, eqb-false a s f)) (omega arith)))
      (λ f. let e = rw f at h in cc)

  clear_all : (n a : ℕ) → ((s : ℕ) → a ≤ s → s < n + a → Clear s) → check_padding width rows (from n a) ≡ Ok tt
  unfolding check_padding from
  clear_all zero a h = refl
  clear_all (suc n) a h = rw (h a (omega arith) (omega arith)) (clear_all n (suc a) (λ s k l. h s (omega arith) (omega arith)))

  abbrev First : ℕ → ℕ → ℕ → Type 0
  First n a s = (a ≤ s) × (s < n + a) × (is_clear width (row_at (words width) rows s) ≡ false) × ((t : ℕ) → a ≤ t → t < s → Clear t)

  first_set : (n a s : ℕ) → check_padding width rows (from n a) ≡ Err (Padding s) → First n a s
  unfolding check_padding from
  first_set zero a s h = cc
  first_set (suc n) a s h = case-of (is_clear width (row_at (words width) rows a))
      (λ t. let r = first_set n (suc a) s (rw t at h) in
      (omega arith, omega arith, r.2, λ u k l. case-of (eqb a u) (λ e. rw (sym (eqb-true a u e)) t) (λ e. r.3 u (omega (arith, eqb-false a u e)) l)))
      (λ f. let g = rw f at h in
      let e : a ≡ s = cc in
      (omega arith, omega arith, rw (sym e) f, λ u k l. absurd (omega arith)))

  only_padding : (ss : List ℕ) (r : Refusal) → check_padding width rows ss ≡ Err r → (s : ℕ) × (r ≡ Padding s)
  unfolding check_padding
  only_padding [] r h = cc
  only_padding (s ∷ ss) r h = case-of (is_clear width (row_at (words width) rows s)) (λ t. only_padding ss r (rw t at h)) (λ f. (s, let g = rw f at h in cc))

-- ---- the three checks in their order

module _ (rows : List ℕ) (shots width : ℕ) where
  at_limit : ltb max_shots shots ≡ true → check_packed rows shots width ≡ Err Limit
  unfolding check_packed check_shots
  at_limit t = rw t

  at_length : ltb max_shots shots ≡ false → eqb (length rows) (shots * words width) ≡ false → check_packed rows shots width ≡ Err Length
  unfolding check_packed check_shots check_length
  at_length f g = rw (f, g)

  at_padding : ltb max_shots shots ≡ false → eqb (length rows) (shots * words width) ≡ true → check_packed rows shots width ≡ check_padding width rows (below shots)
  unfolding check_packed check_shots check_length
  at_padding f t = rw (f, t)

  -- an answer is one of the three
  by_check : {C : Type 0} (c : Checked) → check_packed rows shots width ≡ c
      → (ltb max_shots shots ≡ true → c ≡ Err Limit → C)
      → (eqb (length rows) (shots * words width) ≡ false → c ≡ Err Length → C)
      → (ltb max_shots shots ≡ false → eqb (length rows) (shots * words width) ≡ true → check_padding width rows (below shots) ≡ c → C) → C
  by_check c h limit long clear = case-of (ltb max_shots shots)
      (λ t. limit t (sym h ∙ at_limit t))
      (λ f. case-of (eqb (length rows) (shots * words width)) (λ t. clear f t (sym (at_padding f t) ∙ h)) (λ g. long g (sym h ∙ at_length f g)))

pub accepted_sound : AcceptedSound
unfolding below
accepted_sound rows shots width h = by_check rows shots width (Ok tt) h
    (λ t e. cc)
    (λ g e. cc)
    (λ f t e. record {
      few = ltb-false max_shots shots f;
      long = eqb-true (length rows) (shots * words width) t;
      clear = λ s k. all_clear rows width shots 0 e s (omega arith) (omega arith);
    })

pub sound_accepted : SoundAccepted
unfolding below
sound_accepted rows shots width s =
    at_padding rows shots width (le-ltb max_shots shots s.few) (eq-eqb (length rows) (shots * words width) s.long)
    ∙ clear_all rows width shots 0 (λ t k l. s.clear t (omega arith))

-- what the answer says of the check
by_answer : (m n : ℕ) (c : Checked) → packed_by m c ≡ Ok n → (c ≡ Ok tt) × (n ≡ m)
by_answer m n (Ok tt) h = (refl, cc)
by_answer m n (Err r) h = cc

by_refusal : (m : ℕ) (c : Checked) (r : Refusal) → packed_by m c ≡ Err r → c ≡ Err r
by_refusal m (Ok tt) r h = cc
by_refusal m (Err q) r h = cc

pub rows_accepted : RowsAccepted
unfolding packed_of
rows_accepted rows shots width m h = by_answer (words width) m (check_packed rows shots width) h

pub refused_same : RefusedSame
unfolding packed_of
refused_same rows shots width r h = by_refusal (words width) (check_packed rows shots width) r h

pub row_ends : RowEnds
row_ends rows shots width s sound h = omega (arith, row_within s shots (words width) h, sound.long)

pub row_long : RowLong
row_long rows shots width s sound h = row_length rows shots (words width) s sound.long h

pub padding_first : PaddingFirst
unfolding below
padding_first rows shots width s h = by_check rows shots width (Err (Padding s)) h
    (λ t e. cc)
    (λ g e. cc)
    (λ f t e. let r = first_set rows width shots 0 s e in record { within = omega arith; padded = r.2; lower = λ u k. r.3 u (omega arith) k })

pub length_wrong : LengthWrong
length_wrong rows shots width h e = by_check rows shots width (Err Length) h
    (λ t q. cc)
    (λ g q. eqb-false (length rows) (shots * words width) g e)
    (λ f t q. let (s, p) = only_padding rows width (below shots) Length q in cc)

pub limit_passed : LimitPassed
limit_passed rows shots width h = by_check rows shots width (Err Limit) h
    (λ t q. ltb-true max_shots shots t)
    (λ g q. cc)
    (λ f t q. let (s, p) = only_padding rows width (below shots) Limit q in cc)

pub word_four : WordFour
unfolding check_packed check_shots check_length check_padding below from words is_clear any bit test_bit
word_four = refl
