-- Entries put to rest.
use Prim.Native.Nat.{ℕ, ◌-◌, ◌≤◌}
use native.Mathlib.Nat.{sub-zero}
use mathlib.Core.Path.{◌≡◌, sym, ap, ◌∙◌}
use mathlib.Core.List.{List}
use lib.ListN.{length, replicate, length-replicate}
use lib.Seq.{take_at}
use borrow.Rule.Slice.PartMut.{put_mid, post_of, mid_len}
use Rattle.rest.specs.Rows.{cut}

pub cut_length : {A : Type 0} (n : ℕ) (l : List A) → n ≤ length l → length (cut n l) ≡ n
cut_length n l h = mid_len 0 n l h ∙ sub-zero n

-- what was put into the first n entries is there
pub cut_put : {A : Type 0} (n : ℕ) (l ys : List A) → length ys ≡ n → cut n (put_mid 0 (n - 0) l ys) ≡ ys
cut_put n l ys e = take_at ys (post_of 0 (n - 0) l) (n - 0) (e ∙ sym (sub-zero n))

-- the first n entries filled with v
pub cut_filled : {A : Type 0} (n : ℕ) (l ys : List A) (v : A) → n ≤ length l → ys ≡ replicate (length (cut n l)) v → cut n (put_mid 0 (n - 0) l ys) ≡ replicate n v
cut_filled {A} n l ys v h e =
    let f : ys ≡ replicate n v = e ∙ ap (λ (k : ℕ). replicate {A = A} k v) (cut_length n l h) in
    cut_put n l ys (ap length f ∙ length-replicate n v) ∙ f
