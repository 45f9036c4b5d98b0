-- The checks of packed shots, one shot after another.
use Rattle.std.specs.Prelude.{Ok, Err}
use Prim.Native.Nat.{ℕ, ◌+◌, ◌-◌, ◌*◌, ◌/◌, ◌%◌, ◌^◌, ◌≤◌, ◌<◌}
use native.Mathlib.Nat.{mul-le-mul_right, suc-mul}
use native.Mathlib.Numerals.{add-one, add-one-le}
use native.Mathlib.Omega.{arith}
use mathlib.Core.Path.{◌≡◌, refl, sym, ap, ◌∙◌}
use mathlib.Core.List.{List, [], ◌∷◌}
use lib.Dec.{leb, eqb}
use lib.ListN.{length, get_or, drop, length-take, length-drop}
use lib.Seq.{length-take-le, get_or-take, get_or-drop}
use borrow.Author.Tests.{eqb-true, le-leb, lt-leb}
use Rattle.lists.specs.Lists.{from}
use Rattle.lists.proofs.Truth.{case-of}
use Rattle.lists.proofs.Ranges.{left_one}
use Rattle.bits.specs.Rows.{words, is_clear}
use Rattle.bits.proofs.Rows.{clear_whole, clear_last}
use Rattle.codes.specs.declared.Refusal.TheVariants.{Padding}
use Rattle.packed.specs.Packed.{row_at, check_length, check_padding}

-- ---- the length

pub length_accepted : (rows : List ℕ) (shots width : ℕ) → Ok tt ≡ check_length rows shots width → length rows ≡ shots * words width
unfolding check_length
length_accepted rows shots width h = case-of (eqb (length rows) (shots * words width)) (λ t. eqb-true (length rows) (shots * words width) t) (λ f. let g = rw f at h in cc)

-- ---- the row of a shot

pub row_next : (s m : ℕ) → (s + 1) * m ≡ s * m + m
row_next s m = rw (add-one, suc-mul) refl

pub row_within : (s shots m : ℕ) → s < shots → (s + 1) * m ≤ shots * m
row_within s shots m h = mul-le-mul_right m (add-one-le h)

pub row_length : (rows : List ℕ) (shots m s : ℕ) → length rows ≡ shots * m → s < shots → length (row_at m rows s) ≡ m
row_length rows shots m s e h =
    let p = row_within s shots m h in
    let q = row_next s m in
    length-take-le m (drop (s * m) rows) (rw (length-drop (s * m) rows) (omega arith))

-- ---- the padding, shot by shot

module _ (rows : List ℕ) (width : ℕ) where
  -- rows of whole words have none
  pub padding_none : width % 64 ≡ 0 → (ss : List ℕ) → check_padding width rows ss ≡ Ok tt
  unfolding check_padding words
  padding_none z [] = refl
  padding_none z (s ∷ ss) =
      let k = length-take (words width) (drop (s * words width) rows) in
      rw (clear_whole width (row_at (words width) rows s) (omega arith), padding_none z ss)

  pub padding_end : (shots s : ℕ) → shots ≤ s → check_padding width rows (from (shots - s) s) ≡ Ok tt
  unfolding check_padding from
  padding_end shots s h =
      let e : shots - s ≡ 0 = omega arith in
      rw e

-- a turn: m words a row, of a width that is no multiple of 64, and shot s
module _ (rows : List ℕ) (shots width m s : ℕ) (long : length rows ≡ shots * words width) (e : m ≡ words width) (t : width % 64 ≡ 0 → ⊥) (h : s < shots) where
  -- where the last word of the row stands
  pub last_within : s * m + (m - 1) < length rows
  unfolding words
  last_within =
      let same : shots * m ≡ shots * words width = ap (λ (k : ℕ). shots * k) e in
      omega (arith, row_within s shots m h, row_next s m)

  module _ (fits : get_or rows (s * m + (m - 1)) 0 < 2 ^ 64) where
    -- the padding of the row is clear where its last word is within the tail mask
    row_padding : is_clear width (row_at (words width) rows s) ≡ leb (get_or rows (s * m + (m - 1)) 0) (2 ^ (width % 64) - 1)
    unfolding words
    row_padding =
        let last : width / 64 ≡ m - 1 = omega arith in
        let at : get_or (row_at (words width) rows s) (width / 64) 0 ≡ get_or rows (s * m + (m - 1)) 0
        = get_or-take (words width) (drop (s * words width) rows) (width / 64) 0 (omega arith) ∙ get_or-drop (s * words width) rows (width / 64) 0
        ∙ ap (λ (k : ℕ). get_or rows (s * k + width / 64) 0) (sym e) ∙ ap (λ (k : ℕ). get_or rows (s * m + k) 0) last in
        clear_last width (row_at (words width) rows s) (width / 64) (row_length rows shots (words width) s long h) t refl (rw at fits)
        ∙ ap (λ (x : ℕ). leb x (2 ^ (width % 64) - 1)) at

    -- above the mask: the answer is this shot
    pub padding_set : 2 ^ (width % 64) - 1 < get_or rows (s * m + (m - 1)) 0 → Err (Padding s) ≡ check_padding width rows (from (shots - s) s)
    unfolding check_padding
    padding_set l = rw (left_one shots s h, row_padding ∙ lt-leb (get_or rows (s * m + (m - 1)) 0) (2 ^ (width % 64) - 1) l)

    -- within it: the answer from the next shot on is the answer from this one on
    pub padding_clear : get_or rows (s * m + (m - 1)) 0 ≤ 2 ^ (width % 64) - 1 → check_padding width rows (from (shots - (s + 1)) (s + 1)) ≡ check_padding width rows (from (shots - s) s)
    unfolding check_padding
    padding_clear l = rw (left_one shots s h, row_padding ∙ le-leb (get_or rows (s * m + (m - 1)) 0) (2 ^ (width % 64) - 1) l)
