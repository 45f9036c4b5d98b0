-- Texts: their lengths, and one after another.
use Prim.Native.Nat.{ℕ, zero, suc, ◌+◌, ◌*◌, ◌≤◌, ◌<◌}
use native.Mathlib.Omega.{arith}
use mathlib.Core.Path.{◌≡◌, refl, sym, ap, ◌∙◌}
use mathlib.Core.List.{List, [], ◌∷◌, ◌++◌, map}
use lib.ListN.{length, get_or, drop, length-append}
use lib.Seq.{sets}
use Rattle.std.proofs.lemmas.List.{at_drop_more, at_drop_all}
use Rattle.hex_text.specs.Hex.{text_of, bytes_in, bytes_each}
use Rattle.lists.proofs.Slices.{sets_append}

pub text_append : (l m : List ℕ) → text_of (l ++ m) ≡ text_of l ++ text_of m
unfolding text_of
text_append [] m = refl
text_append (b ∷ l) m = rw (text_append l m)

pub text_long : (l : List ℕ) → length (text_of l) ≡ 2 * length l
unfolding text_of
text_long [] = refl
text_long (b ∷ l) = omega (arith, text_long l)

pub in_long : (k x : ℕ) → length (bytes_in k x) ≡ k
unfolding bytes_in
in_long zero x = refl
in_long (suc k) x = ap suc (in_long k x)

pub each_long : (k : ℕ) (l : List ℕ) → length (bytes_each k l) ≡ k * length l
unfolding bytes_each
each_long k [] = omega arith
each_long k (x ∷ l) = omega (arith, length-append (bytes_in k x) (bytes_each k l), in_long k x, each_long k l)

-- number i of the list is x: its k bytes at place j
pub each_turn : {A : Type 0} (f : A → ℕ) (k i j : ℕ) (l : List A) (x : A) (out : List ℕ) → i < length l → x ≡ get_or l i x
    → sets out j (text_of (bytes_each k (map f (drop i l)))) ≡ sets (sets out j (text_of (bytes_in k (f x)))) (j + 2 * k) (text_of (bytes_each k (map f (drop (i + 1) l))))
unfolding bytes_each
each_turn f k i j l x out h e =
    let head = bytes_in k (f x) in
    let rest = bytes_each k (map f (drop (i + 1) l)) in
    let q : length (text_of head) ≡ 2 * k = text_long head ∙ ap (λ (n : ℕ). 2 * n) (in_long k (f x)) in
    at_drop_more (λ r. sets out j (text_of (bytes_each k (map f r)))) l i x h
    ∙ ap (λ y. sets out j (text_of (bytes_in k (f y) ++ rest))) (sym e)
    ∙ ap (sets out j) (text_append head rest)
    ∙ sets_append out j (text_of head) (text_of rest)
    ∙ ap (λ (n : ℕ). sets (sets out j (text_of head)) (j + n) (text_of rest)) q

pub each_end : {A : Type 0} (f : A → ℕ) (k i j : ℕ) (l : List A) (out : List ℕ) → length l ≤ i → sets out j (text_of (bytes_each k (map f (drop i l)))) ≡ out
unfolding bytes_each text_of
each_end f k i j l out h = at_drop_all (λ r. sets out j (text_of (bytes_each k (map f r)))) l i h
