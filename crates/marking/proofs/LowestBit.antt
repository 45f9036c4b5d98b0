-- The lowest set bit of a row, word by word.
use Rattle.std.specs.Prelude.{None, Some}
use Prim.Native.Nat.{ℕ, ◌+◌, ◌*◌, ◌^◌, ◌≤◌, ◌<◌}
use native.Mathlib.Omega.{arith}
use mathlib.Core.Path.{◌≡◌, sym, ap, ◌∙◌}
use mathlib.Core.List.{List, [], ◌++◌}
use mathlib.Core.Bool.{true}
use lib.Count.{count_trailing_zeros}
use lib.ListN.{length, get_or}
use Rattle.bits.specs.Rows.{words, word_bits, set_bits, is_clear}
use Rattle.bits.proofs.Lowest.{bits_lowest, bits_zero}
use Rattle.bits.proofs.Listed.{rest_bits, rest_all, rest_turn, rest_end}
use Rattle.bits.proofs.Rows.{clear_whole}
use Rattle.marking.specs.Passes.{lowest_of}

whole_words : (n : ℕ) → n ≡ words (64 * n)
unfolding words
whole_words n = omega arith

module _ (row : List ℕ) where
  abbrev all : List ℕ
  all = set_bits (64 * length row) row

  -- the words from word 0 on are all
  pub lowest_start : lowest_of (rest_bits row 0) ≡ lowest_of all
  lowest_start = ap lowest_of (rest_all (64 * length row) row (whole_words (length row)) (clear_whole (64 * length row) row (omega arith)))

  module _ (i : ℕ) where
    pub lowest_zero : i < length row → get_or row i 0 ≡ 0 → lowest_of (rest_bits row (i + 1)) ≡ lowest_of (rest_bits row i)
    lowest_zero h z =
        let none : word_bits (i * 64) (get_or row i 0) ≡ [] = rw z (bits_zero (i * 64)) in
        ap lowest_of (sym (rest_turn row i h ∙ ap (λ (l : List ℕ). l ++ rest_bits row (i + 1)) none))

    pub lowest_here : (w : ℕ) → i < length row → w ≡ get_or row i 0 → w < 2 ^ 64 → (w ≡ 0 → ⊥) → Some (i * 64 + count_trailing_zeros 64 w) ≡ lowest_of (rest_bits row i)
    lowest_here w h e k f =
        let some = ap (word_bits (i * 64)) (sym e) ∙ bits_lowest (i * 64) w k f in
        sym (ap lowest_of (rest_turn row i h ∙ ap (λ (l : List ℕ). l ++ rest_bits row (i + 1)) some))

    pub lowest_end : length row ≤ i → None ≡ lowest_of (rest_bits row i)
    lowest_end h = ap lowest_of (sym (rest_end row i h))

-- of a row with clear padding
pub same_lowest : (n : ℕ) (row : List ℕ) → length row ≡ words n → is_clear n row ≡ true → lowest_of (set_bits (64 * length row) row) ≡ lowest_of (set_bits n row)
same_lowest n row h c = sym (lowest_start row) ∙ ap lowest_of (rest_all n row h c)
