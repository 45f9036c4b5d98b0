-- A table that begins with a list, after a store.
use Prim.Native.Nat.{ℕ, zero, suc, ◌+◌, ◌<◌, ◌≤◌}
use native.Mathlib.Nat.{zero-add}
use native.Mathlib.Omega.{arith}
use mathlib.Core.Path.{◌≡◌, refl, sym, ap, ap₂, ◌∙◌}
use mathlib.Core.List.{List, [], ◌∷◌, ◌++◌, map}
use lib.ListN.{length, get_or, take, drop, set, length-append, length-set, get_or-append, get_or-map}
use lib.Seq.{sets, sets-eq, take-append_seam, drop-append_seam, set-append_left}
use Rattle.dem.specs.Tables.{written}
use Rattle.reader.specs.Columns.{byte_of}

module _ (xs col : List ℕ) (e : col ≡ written xs col) where
  -- more behind the list
  pub written_more : (ys : List ℕ) → length xs + length ys ≤ length col → sets col (length xs) ys ≡ written (xs ++ ys) col
  written_more ys h =
      sets-eq ys col (length xs) h
      ∙ ap₂ (λ (f : List ℕ) (k : ℕ). (f ++ ys) ++ drop k col) (ap (take (length xs)) e ∙ take-append_seam xs (drop (length xs) col)) (sym (length-append xs ys))

  -- an entry of the list anew
  pub written_put : (i v : ℕ) → i < length xs → set col i v ≡ written (set xs i v) col
  written_put i v h =
      ap (λ (l : List ℕ). set l i v) e ∙ set-append_left xs (drop (length xs) col) i v h ∙ ap (λ (k : ℕ). set xs i v ++ drop k col) (sym (length-set xs i v))

  pub written_at : (i : ℕ) → i < length xs → get_or col i 0 ≡ get_or xs i 0
  written_at i h = ap (λ (l : List ℕ). get_or l i 0) e ∙ get_or-append xs (drop (length xs) col) 0 i h

-- a list to the front
pub written_front : (ys col : List ℕ) → length ys ≤ length col → sets col 0 ys ≡ written ys col
written_front ys col h =
    let k : 0 + length ys ≤ length col = omega arith in
    sets-eq ys col 0 k ∙ ap (λ (k : ℕ). ys ++ drop k col) (zero-add (length ys))

-- a list that stands already
pub written_again : (xs col : List ℕ) → written xs col ≡ written xs (written xs col)
written_again xs col = ap (λ (r : List ℕ). xs ++ r) (sym (drop-append_seam xs (drop (length xs) col)))

-- ---- counts as bytes

map_put : (l : List ℕ) (i v : ℕ) → map byte_of (set l i v) ≡ set (map byte_of l) i (byte_of v)
map_put [] i v = refl
map_put (x ∷ l) zero v = refl
map_put (x ∷ l) (suc i) v = ap {B = List ℕ} (λ r. byte_of x ∷ r) (map_put l i v)

byte_more : (x : ℕ) → byte_of (byte_of x + 1) ≡ byte_of (x + 1)
byte_more x = omega arith

pub bytes_more : (l : List ℕ) (i : ℕ) → set (map byte_of l) i (byte_of (get_or (map byte_of l) i 0 + 1)) ≡ map byte_of (set l i (get_or l i 0 + 1))
bytes_more l i =
    ap (λ (v : ℕ). set (map byte_of l) i (byte_of (v + 1))) (get_or-map byte_of l i 0)
    ∙ ap (λ (v : ℕ). set (map byte_of l) i v) (byte_more (get_or l i 0)) ∙ sym (map_put l i (get_or l i 0 + 1))
