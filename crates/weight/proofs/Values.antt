-- The operations of binary64 on values that are whole numbers of units, each as one rounding of a whole number of units. Assumes nothing.
use mathlib.Core.Path.{◌≡◌, refl, sym, ap, ◌∙◌, subst}
use mathlib.Core.Bool.{Bool, true, false, not, true≢false, cond}
use Prim.Native.Nat.{ℕ, ◌+◌, ◌-◌, ◌*◌, ◌^◌, ◌≤◌, ◌<◌}
use native.Mathlib.Nat.{le_trans, le_of_eq, lt_of_lt_of_le, lt_of_le_of_lt, not-le_of_lt, mul_comm, mul_assoc, mul_right_comm, add-mul, mul-sub, mul-le-mul_right, mul-lt-mul_of_pos_right, le_of_mul-le-mul_right, lt_of_mul-lt-mul_right, mul-pos, mul-one, one-mul}
use lib.IntN.{pos}
use lib.Dec.{T, ltb, ltb→lt, lt→ltb}
use lib.Pow.{pow_pos}
use lib.Ieee.{Float, nan, inf, fin, binary64, up, down, unlike, round, sum, add, sub, neg, mul, div, of_int}
use lib.Ieee.Exact.{HasValue, units_val}
use lib.Ieee.Back.{round_whole}
use lib.Ieee.Fits.{down_pos, round_is}
use lib.Ieee.Order.{drop, kept}
use lib.Ieee.Scale.{grid, overflow, round_same}
use Rattle.weight.proofs.Err.{U}

-- x is finite, has the sign s, and is X units in size
abbrev pub Signed : Float → Bool → ℕ → Type 0
Signed x s X = HasValue x s X U

-- x is finite, not negative, and X units
abbrev pub Units : Float → ℕ → Type 0
Units x X = HasValue x false X U

-- rounding gives a number of units, where it does not overflow
pub round_units : (s : Bool) (a c : ℕ) → grid binary64 a c < overflow binary64 → Signed (round binary64 s a c) s (grid binary64 a c)
round_units s a c h =
    subst (λ (z : Float). HasValue z s (grid binary64 a c) U) (sym (round_is binary64 s a c))
    (units_val binary64 s (kept 53 (a * U) c) (drop 53 (a * U) c) h)

-- ---- p / d is X / u, and q / e is Y / u
module _ (p q d e X Y u : ℕ) (h : p * u ≡ X * d) (k : q * u ≡ Y * e) where
  -- over the common divisor
  left : p * e * u ≡ X * (d * e)
  left = mul_right_comm p e u ∙ ap (λ (z : ℕ). z * e) h ∙ mul_assoc X d e

  -- over the common divisor
  right : q * d * u ≡ Y * (d * e)
  right = mul_right_comm q d u ∙ ap (λ (z : ℕ). z * d) k ∙ mul_assoc Y e d ∙ ap (λ (z : ℕ). Y * z) (mul_comm e d)

  -- the sum
  sum_cross : (p * e + q * d) * u ≡ (X + Y) * (d * e)
  sum_cross = add-mul (p * e) (q * d) u ∙ ap (λ (z : ℕ). z + q * d * u) left ∙ ap (λ (z : ℕ). X * (d * e) + z) right ∙ sym (add-mul X Y (d * e))

-- a product of a difference
sub_mul : (a b c : ℕ) → (a - b) * c ≡ a * c - b * c
sub_mul a b c = mul_comm (a - b) c ∙ mul-sub c a b ∙ ap (λ (z : ℕ). z - c * b) (mul_comm c a) ∙ ap (λ (z : ℕ). a * c - z) (mul_comm c b)

module _ (p q d e X Y u : ℕ) (h : p * u ≡ X * d) (k : q * u ≡ Y * e) where
  -- the difference
  diff_cross : (p * e - q * d) * u ≡ (X - Y) * (d * e)
  diff_cross = sub_mul (p * e) (q * d) u ∙ ap (λ (z : ℕ). z - q * d * u) (left p q d e X Y u h k) ∙ ap (λ (z : ℕ). X * (d * e) - z) (right p q d e X Y u h k) ∙ sym (sub_mul X Y (d * e))

  -- the difference the other way
  diff_back : (q * d - p * e) * u ≡ (Y - X) * (d * e)
  diff_back = sub_mul (q * d) (p * e) u ∙ ap (λ (z : ℕ). z - p * e * u) (right p q d e X Y u h k) ∙ ap (λ (z : ℕ). Y * (d * e) - z) (left p q d e X Y u h k) ∙ sym (sub_mul Y X (d * e))

  -- their order
  order_le : 0 < u → Y ≤ X → q * d ≤ p * e
  order_le P l = le_of_mul-le-mul_right (le_trans (le_of_eq (right p q d e X Y u h k)) (le_trans (mul-le-mul_right (d * e) l) (le_of_eq (sym (left p q d e X Y u h k))))) P

  -- their strict order
  order_lt : 0 < d → 0 < e → X < Y → p * e < q * d
  order_lt D E l = lt_of_mul-lt-mul_right u (lt_of_le_of_lt (le_of_eq (left p q d e X Y u h k)) (lt_of_lt_of_le (mul-lt-mul_of_pos_right l (mul-pos D E)) (le_of_eq (sym (right p q d e X Y u h k)))))

-- ---- sums
-- of two values that are not negative
pub add_units : (x y : Float) (X Y : ℕ) → Units x X → Units y Y → add binary64 x y ≡ round binary64 false (X + Y) U
unfolding add
add_units nan y X Y h k = absurd h
add_units (inf s) y X Y h k = absurd h
add_units (fin true m e) y X Y h k = absurd (true≢false h.0)
add_units (fin false m e) nan X Y h k = absurd k
add_units (fin false m e) (inf s) X Y h k = absurd k
add_units (fin false m e) (fin true n d) X Y h k = absurd (true≢false k.0)
add_units (fin false m e) (fin false n d) X Y h k =
    round_same binary64 false (m * up e * down d + n * up d * down e) (down e * down d) (X + Y) U (mul-pos (down_pos e) (down_pos d)) (pow_pos 1074)
    (sum_cross (m * up e) (n * up d) (down e) (down d) X Y U h.1 k.1)

-- ---- differences: what `sum` picks where the signs differ
-- the first is the larger
pick_ge : (s : Bool) (a b c : ℕ) → b ≤ a → sum binary64 false a true b c ≡ round binary64 false (a - b) c
unfolding sum
pick_ge s a b c h = go (ltb a b) (ltb→lt a b)
  where
    go : (t : Bool) → (T t → a < b) → cond t (round binary64 true (b - a) c) (round binary64 false (a - b) c) ≡ round binary64 false (a - b) c
    go true k = absurd (not-le_of_lt (k tt) h)
    go false k = refl

-- the second is the larger
pick_lt : (s : Bool) (a b c : ℕ) → a < b → sum binary64 s a (not s) b c ≡ round binary64 (not s) (b - a) c
unfolding sum
pick_lt true a b c h = go (ltb a b) (lt→ltb a b h)
  where
    go : (t : Bool) → T t → cond t (round binary64 false (b - a) c) (round binary64 (ltb b a) (a - b) c) ≡ round binary64 false (b - a) c
    go true k = refl
    go false k = absurd k
pick_lt false a b c h = go (ltb a b) (lt→ltb a b h)
  where
    go : (t : Bool) → T t → cond t (round binary64 true (b - a) c) (round binary64 false (a - b) c) ≡ round binary64 true (b - a) c
    go true k = refl
    go false k = absurd k

-- x and y of opposite signs, x the larger and not negative
pub diff_ge : (x y : Float) (X Y : ℕ) → Units x X → Signed y true Y → Y ≤ X → add binary64 x y ≡ round binary64 false (X - Y) U
unfolding add
diff_ge nan y X Y h k l = absurd h
diff_ge (inf s) y X Y h k l = absurd h
diff_ge (fin true m e) y X Y h k l = absurd (true≢false h.0)
diff_ge (fin false m e) nan X Y h k l = absurd k
diff_ge (fin false m e) (inf s) X Y h k l = absurd k
diff_ge (fin false m e) (fin false n d) X Y h k l = absurd (true≢false (sym k.0))
diff_ge (fin false m e) (fin true n d) X Y h k l =
    pick_ge true (m * up e * down d) (n * up d * down e) (down e * down d) (order_le (m * up e) (n * up d) (down e) (down d) X Y U h.1 k.1 (pow_pos 1074) l)
    ∙ round_same binary64 false (m * up e * down d - n * up d * down e) (down e * down d) (X - Y) U (mul-pos (down_pos e) (down_pos d)) (pow_pos 1074)
    (diff_cross (m * up e) (n * up d) (down e) (down d) X Y U h.1 k.1)

-- y the larger: the result has y's sign
pub diff_lt : (x y : Float) (s : Bool) (X Y : ℕ) → Signed x s X → Signed y (not s) Y → X < Y → add binary64 x y ≡ round binary64 (not s) (Y - X) U
unfolding add
diff_lt nan y s X Y h k l = absurd h
diff_lt (inf t) y s X Y h k l = absurd h
diff_lt (fin t m e) nan s X Y h k l = absurd k
diff_lt (fin t m e) (inf r) s X Y h k l = absurd k
diff_lt (fin t m e) (fin r n d) s X Y h k l =
    ap (λ (z : Bool). sum binary64 z (m * up e * down d) r (n * up d * down e) (down e * down d)) h.0
    ∙ ap (λ (z : Bool). sum binary64 s (m * up e * down d) z (n * up d * down e) (down e * down d)) k.0
    ∙ pick_lt s (m * up e * down d) (n * up d * down e) (down e * down d) (order_lt (m * up e) (n * up d) (down e) (down d) X Y U h.1 k.1 (down_pos e) (down_pos d) l)
    ∙ round_same binary64 (not s) (n * up d * down e - m * up e * down d) (down e * down d) (Y - X) U (mul-pos (down_pos e) (down_pos d)) (pow_pos 1074)
    (diff_back (m * up e) (n * up d) (down e) (down d) X Y U h.1 k.1)

-- the other sign
pub neg_units : (x : Float) (X : ℕ) → Units x X → Signed (neg x) true X
unfolding neg
neg_units nan X h = h
neg_units (inf s) X h = h
neg_units (fin s m e) X h = (ap not h.0, h.1)

-- a difference is a sum
sub_is : (x y : Float) → sub binary64 x y ≡ add binary64 x (neg y)
unfolding sub
sub_is x y = refl

-- x - y, for y of x's size at most
pub sub_ge : (x y : Float) (X Y : ℕ) → Units x X → Units y Y → Y ≤ X → sub binary64 x y ≡ round binary64 false (X - Y) U
sub_ge x y X Y h k l = sub_is x y ∙ diff_ge x (neg y) X Y h (neg_units y Y k) l

-- x - y, for y the larger
pub sub_lt : (x y : Float) (X Y : ℕ) → Units x X → Units y Y → X < Y → sub binary64 x y ≡ round binary64 true (Y - X) U
sub_lt x y X Y h k l = sub_is x y ∙ diff_lt x (neg y) false X Y h (neg_units y Y k) l

-- ---- by a count of 1 or 2
-- 1
abbrev pub one : Float
one = fin false 1 (pos 0)

-- 2
abbrev pub two : Float
two = fin false 1 (pos 1)

-- by a value that is not negative
same_sign : (s t : Bool) → s ≡ t → unlike s false ≡ t
same_sign true t h = h
same_sign false t h = h

-- of a value that is not negative
same_sign' : (s t : Bool) → s ≡ t → unlike false s ≡ t
same_sign' true t h = h
same_sign' false t h = h

-- x / 1
pub div_one : (x : Float) (s : Bool) (X : ℕ) → Signed x s X → div binary64 x one ≡ round binary64 s X U
unfolding div
div_one nan s X h = absurd h
div_one (inf t) s X h = absurd h
div_one (fin t m e) s X h =
    ap (λ (z : Bool). round binary64 z (m * up e * 1) (1 * down e)) (same_sign t s h.0)
    ∙ round_same binary64 s (m * up e * 1) (1 * down e) X U (mul-pos (pow_pos 0) (down_pos e)) (pow_pos 1074)
    (ap (λ (z : ℕ). z * U) (mul-one (m * up e)) ∙ h.1 ∙ ap (λ (z : ℕ). X * z) (sym (one-mul (down e))))

-- x / 2
pub div_two : (x : Float) (s : Bool) (X : ℕ) → Signed x s X → div binary64 x two ≡ round binary64 s X (2 * U)
unfolding div
div_two nan s X h = absurd h
div_two (inf t) s X h = absurd h
div_two (fin t m e) s X h =
    ap (λ (z : Bool). round binary64 z (m * up e * 1) (2 * down e)) (same_sign t s h.0)
    ∙ round_same binary64 s (m * up e * 1) (2 * down e) X (2 * U) (mul-pos (pow_pos 1) (down_pos e)) (mul-pos (pow_pos 1) (pow_pos 1074))
    (ap (λ (z : ℕ). z * (2 * U)) (mul-one (m * up e)) ∙ cross (m * up e) (down e) X U h.1)
  where
    cross : (p d X u : ℕ) → p * u ≡ X * d → p * (2 * u) ≡ X * (2 * d)
    cross p d X u h = ap (λ (z : ℕ). p * z) (mul_comm 2 u) ∙ sym (mul_assoc p u 2) ∙ ap (λ (z : ℕ). z * 2) h ∙ mul_assoc X d 2 ∙ ap (λ (z : ℕ). X * z) (mul_comm d 2)

-- 1 * x
pub one_mul' : (x : Float) (s : Bool) (X : ℕ) → Signed x s X → mul binary64 one x ≡ round binary64 s X U
unfolding mul
one_mul' nan s X h = absurd h
one_mul' (inf t) s X h = absurd h
one_mul' (fin t m e) s X h =
    ap (λ (z : Bool). round binary64 z (1 * (m * up e)) (1 * down e)) (same_sign' t s h.0)
    ∙ round_same binary64 s (1 * (m * up e)) (1 * down e) X U (mul-pos (pow_pos 0) (down_pos e)) (pow_pos 1074)
    (ap (λ (z : ℕ). z * U) (one-mul (m * up e)) ∙ h.1 ∙ ap (λ (z : ℕ). X * z) (sym (one-mul (down e))))

-- 2 * x
pub two_mul : (x : Float) (s : Bool) (X : ℕ) → Signed x s X → mul binary64 two x ≡ round binary64 s (2 * X) U
unfolding mul
two_mul nan s X h = absurd h
two_mul (inf t) s X h = absurd h
two_mul (fin t m e) s X h =
    ap (λ (z : Bool). round binary64 z (2 * (m * up e)) (1 * down e)) (same_sign' t s h.0)
    ∙ round_same binary64 s (2 * (m * up e)) (1 * down e) (2 * X) U (mul-pos (pow_pos 0) (down_pos e)) (pow_pos 1074)
    (mul_assoc 2 (m * up e) U ∙ ap (λ (z : ℕ). 2 * z) h.1 ∙ sym (mul_assoc 2 X (down e)) ∙ ap (λ (z : ℕ). 2 * X * z) (sym (one-mul (down e))))

-- ---- whole numbers
-- n ones
in_units : (x : Float) (n : ℕ) → HasValue x false n 1 → Units x (n * U)
in_units nan n h = absurd h
in_units (inf s) n h = absurd h
in_units (fin s m e) n h = (h.0, ap (λ (z : ℕ). z * U) (sym (mul-one (m * up e)) ∙ h.1) ∙ mul_right_comm n (down e) U)

-- a whole number of 2 ^ 53 at most is a float exactly
pub int_units : (n : ℕ) → n ≤ 2 ^ 53 → Units (of_int binary64 (pos n)) (n * U)
unfolding of_int
int_units n h = in_units (of_int binary64 (pos n)) n (round_whole binary64 false n h)
