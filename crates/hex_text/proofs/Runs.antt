-- Runs of numbers stored, and of bytes written: a turn, and the end.
use Prim.Native.Nat.{ℕ, zero, suc, ◌+◌, ◌-◌, ◌*◌, ◌/◌, ◌%◌, ◌^◌, ◌≤◌, ◌<◌}
use native.Mathlib.Omega.{arith}
use mathlib.Core.Path.{◌≡◌, refl, sym, ap, ap₂, ◌∙◌}
use mathlib.Core.List.{List, [], ◌∷◌, ◌++◌}
use lib.ListN.{length, take, drop, set}
use lib.Seq.{sets, drop-drop}
use Rattle.lists.proofs.Slices.{sets_append}
use Rattle.std.proofs.Math.Nat.{mul-le-mul_left}
use Rattle.std.proofs.Math.Numerals.{add-one-le}
use Rattle.hex_text.specs.Hex.{number, numbers, text_of, bytes_in}

-- ---- numbers of k bytes

pub numbers_long : (k n : ℕ) (l : List ℕ) → length (numbers k n l) ≡ n
unfolding numbers
numbers_long k zero l = refl
numbers_long k (suc n) l = ap suc (numbers_long k n (drop k l))

-- one run after another
pub numbers_add : (k n m : ℕ) (l : List ℕ) → numbers k (n + m) l ≡ numbers k n l ++ numbers k m (drop (k * n) l)
unfolding numbers
numbers_add k zero m l =
    let p : 0 + m ≡ m = omega arith in
    let q : k * 0 ≡ 0 = omega arith in
    ap₂ (λ (a : ℕ) (b : ℕ). numbers k a (drop b l)) p (sym q)
numbers_add k (suc n) m l =
    let p : suc n + m ≡ suc (n + m) = omega arith in
    let q : k + k * n ≡ k * suc n = omega arith in
    ap (λ (a : ℕ). numbers k a l) p
    ∙ ap {B = List ℕ} (λ (r : List ℕ). number (take k l) ∷ r)
    (numbers_add k n m (drop k l) ∙ ap (λ (r : List ℕ). numbers k n (drop k l) ++ numbers k m r) (drop-drop (k * n) k l ∙ ap (λ (a : ℕ). drop a l) q))

-- number i of those from byte b on, x, goes behind the first i at place j
pub run_more : (k i b j x : ℕ) (l out : List ℕ) → x ≡ number (take k (drop (b + k * i) l))
    → set (sets out j (numbers k i (drop b l))) (j + i) x ≡ sets out j (numbers k (i + 1) (drop b l))
unfolding numbers
run_more k i b j x l out q =
    let first = numbers k i (drop b l) in
    ap₂ (λ (m : ℕ) (y : ℕ). set (sets out j first) (j + m) y) (sym (numbers_long k i (drop b l))) (q ∙ ap (λ (m : List ℕ). number (take k m)) (sym (drop-drop (k * i) b l)))
    ∙ sym (ap (sets out j) (numbers_add k i 1 (drop b l)) ∙ sets_append out j first (numbers k 1 (drop (k * i) (drop b l))))

-- and its bytes are there
pub within_run : (k i n b m : ℕ) → i < n → b + k * n ≤ m → b + k * i + k ≤ m
within_run k i n b m h q = omega (arith, mul-le-mul_left k (add-one-le h))

-- ---- bytes of a number

-- byte i of k, two digits at place j
pub byte_turn : (k i x j : ℕ) (out : List ℕ) → i < k
    → sets out j (text_of (bytes_in (k - i) x)) ≡ sets (sets out j (text_of (x / 2 ^ (8 * (k - 1 - i)) % 256 ∷ []))) (j + 2) (text_of (bytes_in (k - (i + 1)) x))
unfolding text_of bytes_in
byte_turn k i x j out h =
    let e : k - i ≡ suc (k - 1 - i) = omega arith in
    let f : k - 1 - i ≡ k - (i + 1) = omega arith in
    let q : suc (suc j) ≡ j + 2 = omega arith in
    ap (λ (m : ℕ). sets out j (text_of (bytes_in m x))) e
    ∙ ap₂ (λ (m : ℕ) (n : ℕ). sets (sets out j (text_of (x / 2 ^ (8 * (k - 1 - i)) % 256 ∷ []))) m (text_of (bytes_in n x))) q f

pub byte_end : (k x j : ℕ) (out : List ℕ) → k ≤ 0 → sets out j (text_of (bytes_in k x)) ≡ out
unfolding text_of bytes_in
byte_end k x j out h = let e : k ≡ 0 = omega arith in ap (λ (m : ℕ). sets out j (text_of (bytes_in m x))) e
