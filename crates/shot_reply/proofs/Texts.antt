-- Two lines one after the other, and rows that differ.
use Prim.Native.Nat.{ℕ, zero, suc, ◌+◌, ◌-◌, ◌*◌, ◌≤◌}
use native.Mathlib.Omega.{arith}
use mathlib.Core.Path.{◌≡◌, refl, sym, ap, ◌∙◌}
use mathlib.Core.List.{List, [], ◌∷◌, ◌++◌, append-nil, append_assoc}
use mathlib.Core.Bool.{Bool, true, false, not, ◌||◌, ◌&&◌}
use lib.ListN.{length, drop, replicate, length-append, drop_of_length-le}
use lib.Seq.{take-append_seam, drop-append_seam, take_all, drop-drop}
use lib.Dec.{eqb}
use lib.Pointwise.{pointwise}
use borrow.Rule.Slice.PartMut.{mid_of, put_mid}
use Rattle.hex_text.specs.Hex.{text_of, bytes_in, bytes_each}
use Rattle.hex_text.proofs.Texts.{text_long, in_long, each_long}
use Rattle.replies.specs.Replies.{line_of, row_reply, list_reply}
use Rattle.dem.specs.Tables.{written}
use Rattle.shot_reply.specs.Outcome.{differs}

core : (a b was : List ℕ)
    → put_mid (length a) (length (written a was) - length a) (written a was) (written b (mid_of (length a) (length (written a was) - length a) (written a was))) ≡ written (a ++ b) was
core a b was =
    let d = drop (length a) was in
    let k = length (a ++ d) - length a in
    let l : length d ≤ k = omega (arith, length-append a d) in
    rw (drop-append_seam a d, take-append_seam a d, take_all k d l, drop_of_length-le d l, append-nil (b ++ drop (length b) d), drop-drop (length b) (length a) was, length-append a b)
    (sym (append_assoc a b (drop (length a + length b) was)))

-- the second is written past the first
pub two_lines : (a b was out part : List ℕ) (n : ℕ) → n ≡ length a → out ≡ written a was → part ≡ written b (mid_of n (length out - n) out)
    → put_mid n (length out - n) out part ≡ written (a ++ b) was
two_lines a b was out part n e q p = rw (p, e, q) (core a b was)

-- rows of one length differ where they are not the same
pub differs_is : (row truth : List ℕ) → length row ≡ length truth → not (pointwise eqb row truth) ≡ differs row truth
unfolding differs
differs_is [] [] e = refl
differs_is [] (y ∷ truth) e = absurd (omega (arith, e))
differs_is (x ∷ row) [] e = refl
differs_is (x ∷ row) (y ∷ truth) e = first (eqb x y) (pointwise eqb row truth) ∙ ap (λ (b : Bool). not (eqb x y) || b) (differs_is row truth (omega (arith, e)))
  where
    first : (a b : Bool) → not (a && b) ≡ (not a || not b)
    first true b = refl
    first false b = refl

abbrev pub two_zeros : List ℕ
two_zeros = 0 ∷ 0 ∷ []

-- the front of a zero row
pub zero_row_lem : (w : ℕ) → w ≤ 2 → mid_of 0 (w - 0) two_zeros ≡ replicate w 0
zero_row_lem zero h = refl
zero_row_lem (suc zero) h = refl
zero_row_lem (suc (suc zero)) h = refl
zero_row_lem (suc (suc (suc w))) h = absurd (omega (arith, h))

-- how long the two lines are
pub row_long : (row : List ℕ) → length (line_of (row_reply row)) ≡ 3 + 16 * length row
unfolding line_of
row_long row = omega (arith, length-append (text_of (row_reply row)) (10 ∷ []), text_long (row_reply row), each_long 8 row)

pub list_long : (edges : List ℕ) → length (line_of (list_reply edges)) ≡ 7 + 4 * length edges
unfolding line_of
list_long edges =
    omega (arith, length-append (text_of (list_reply edges)) (10 ∷ []), text_long (list_reply edges), length-append (bytes_in 2 (length edges)) (bytes_each 2 edges), in_long 2 (length edges), each_long 2 edges)
