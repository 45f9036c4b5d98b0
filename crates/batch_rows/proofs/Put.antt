-- The row of a shot put in its place.
use Prim.Native.Nat.{ℕ, zero, suc, ◌+◌, ◌-◌, ◌*◌, ◌≤◌, ◌<◌}
use native.Mathlib.Nat.{suc-mul, zero-add, suc-add, mul-le-mul_right}
use native.Mathlib.Omega.{arith}
use mathlib.Core.Path.{◌≡◌, refl, sym, ap, ◌∙◌}
use mathlib.Core.List.{List, [], ◌∷◌, ◌++◌, append_assoc}
use lib.ListN.{length, take, drop, length-append, length-drop}
use lib.Seq.{length-take-le, take-nil, take_at, drop_at, take-take, drop-drop}
use borrow.Rule.Slice.PartMut.{put_mid}
use Rattle.packed.specs.Packed.{row_at}
use Rattle.batch_rows.specs.Row.{put_row}

-- a part that was lent and is back
pub put_part : (w s : ℕ) (out row : List ℕ) → put_mid (s * w) (s * w + w - s * w) out row ≡ put_row w s row out
unfolding put_row
put_part w s out row =
    let k : s * w + (s * w + w - s * w) ≡ s * w + w = omega arith in
    rw (drop-drop (s * w + w - s * w) (s * w) out, k) refl

-- where the next row starts
pub next_row : (s w : ℕ) → suc s * w ≡ s * w + w
next_row s w = suc-mul s w

pub row_inside : (s n w : ℕ) → s < n → s * w + w ≤ n * w
row_inside s n w h = let k = mul-le-mul_right w h in omega (arith, next_row s w)

module _ (w s : ℕ) (row out : List ℕ) (wide : length row ≡ w) (inside : s * w + w ≤ length out) where
  before : length (take (s * w) out) ≡ s * w
  before = length-take-le (s * w) out (omega arith)

  pub put_length : length (put_row w s row out) ≡ length out
  unfolding put_row
  put_length =
      length-append (take (s * w) out) (row ++ drop (s * w + w) out)
      ∙ (let a = length-append row (drop (s * w + w) out) in let b = length-drop (s * w + w) out in omega (arith, before))

  pub put_before : take (s * w) (put_row w s row out) ≡ take (s * w) out
  unfolding put_row
  put_before = take_at (take (s * w) out) (row ++ drop (s * w + w) out) (s * w) before

  pub put_own : row_at w (put_row w s row out) s ≡ row
  unfolding put_row
  put_own = rw (drop_at (take (s * w) out) (row ++ drop (s * w + w) out) (s * w) before) (take_at row (drop (s * w + w) out) w wide)

  pub put_after : drop (s * w + w) (put_row w s row out) ≡ drop (s * w + w) out
  unfolding put_row
  put_after = ap (drop (s * w + w)) (sym (append_assoc (take (s * w) out) row (drop (s * w + w) out)))
      ∙ drop_at (take (s * w) out ++ row) (drop (s * w + w) out) (s * w + w) (length-append (take (s * w) out) row ∙ omega (arith, before))

  pub put_later : (k : ℕ) → s * w + w ≤ k → drop k (put_row w s row out) ≡ drop k out
  put_later k h =
      let e : s * w + w + (k - (s * w + w)) ≡ k = omega arith in
      ap (λ (i : ℕ). drop i (put_row w s row out)) (sym e) ∙ sym (drop-drop (k - (s * w + w)) (s * w + w) (put_row w s row out))
      ∙ ap (drop (k - (s * w + w))) put_after ∙ drop-drop (k - (s * w + w)) (s * w + w) out ∙ ap (λ (i : ℕ). drop i out) e

drop_taken : (a b : ℕ) (xs : List ℕ) → drop a (take (a + b) xs) ≡ take b (drop a xs)
drop_taken zero b xs = ap (λ (k : ℕ). take k xs) (zero-add b)
drop_taken (suc a) b [] = ap (drop (suc a)) (take-nil (suc a + b)) ∙ sym (take-nil b)
drop_taken (suc a) b (x ∷ xs) = ap (λ (k : ℕ). drop (suc a) (take k (x ∷ xs))) (suc-add a b) ∙ drop_taken a b xs

-- a row is read off the words up to its end
pub row_taken : (w s k : ℕ) (out : List ℕ) → s * w + w ≤ k → row_at w (take k out) s ≡ row_at w out s
row_taken w s k out h = sym (drop_taken (s * w) w (take k out)) ∙ ap (drop (s * w)) (take-take (s * w + w) k out h) ∙ drop_taken (s * w) w out
