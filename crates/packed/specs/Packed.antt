-- Packed shots: docs/RULES.md, "Shots and rows", and the comment of `PackedShots` in the Rust.
use Rattle.std.specs.Prelude.{Result, Ok, Err, ℕ, ◌*◌, cond, not, List, [], ◌∷◌, eqb, length, take, drop}
use Rattle.codes.specs.declared.Refusal.{Refusal}
use Rattle.lists.specs.Lists.{below}
use Rattle.bits.specs.Rows.{words, is_clear}
use Rattle.codes.specs.declared.Refusal.TheVariants.{Length, Padding}
use Rattle.codes.specs.Order.{Checked, refuse_if, and_then}
use Rattle.codes.specs.Limits.{check_shots}

-- the row of shot s in rows of m words: bit d of shot s lives at word s·m + d div 64, bit d mod 64
abbrev pub row_at : ℕ → List ℕ → ℕ → List ℕ
row_at m rows s = take m (drop (s * m) rows)

-- 9: the first of the shots whose padding is set
unfoldable pub check_padding : ℕ → List ℕ → List ℕ → Checked
unfolding is_clear words
check_padding width rows [] = Ok tt
check_padding width rows (s ∷ ss) = cond (is_clear width (row_at (words width) rows s)) (check_padding width rows ss) (Err (Padding s))

-- 8: a row has a word per 64 bits begun, and the product over whole numbers decides
unfoldable pub check_length : List ℕ → ℕ → ℕ → Checked
unfolding words
check_length rows shots width = refuse_if (not (eqb (length rows) (shots * words width))) Length

-- 1, then 8, then 9 with the lowest shot
unfoldable pub check_packed : List ℕ → ℕ → ℕ → Checked
unfolding check_length check_padding below check_shots
check_packed rows shots width =
    and_then (check_shots shots) (and_then (check_length rows shots width) (check_padding width rows (below shots)))

-- the words of a row where the check accepts, else its refusal
abbrev pub packed_by : ℕ → Checked → Result ℕ Refusal
packed_by m (Ok tt) = Ok m
packed_by m (Err r) = Err r

-- what a batch of packed shots is taken for
unfoldable pub packed_of : List ℕ → ℕ → ℕ → Result ℕ Refusal
unfolding check_packed words
packed_of rows shots width = packed_by (words width) (check_packed rows shots width)
