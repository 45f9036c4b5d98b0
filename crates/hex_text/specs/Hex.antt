-- Lower-case hexadecimal, big-endian: docs/RULES.md, "Frames".
use Rattle.std.specs.Prelude.{ℕ, zero, suc, ◌+◌, ◌-◌, ◌*◌, ◌/◌, ◌%◌, ◌^◌, List, [], ◌∷◌, ◌++◌, Bool, true, cond, ◌&&◌, ◌||◌, length, take, drop, leb, ltb, eqb}

-- ---- reading

abbrev pub between : ℕ → ℕ → ℕ → Bool
between a z b = leb a b && leb b z

-- 0 to 9, a to f
abbrev pub is_digit : ℕ → Bool
is_digit b = between 48 57 b || between 97 102 b

-- the value of a digit, and 0 of any other byte
abbrev pub digit_value : ℕ → ℕ
digit_value b = cond (between 48 57 b) (b - 48) (cond (between 97 102 b) (b - 87) 0)

unfoldable pub all_digits : List ℕ → Bool
all_digits [] = true
all_digits (b ∷ l) = is_digit b && all_digits l

-- a line of digits, in pairs
unfoldable pub is_hex : List ℕ → Bool
unfolding all_digits
is_hex line = eqb (length line % 2) 0 && all_digits line

-- the bytes of such a line, a pair of digits each
unfoldable pub bytes_of : List ℕ → List ℕ
bytes_of [] = []
bytes_of (a ∷ []) = []
bytes_of (a ∷ b ∷ l) = (16 * digit_value a + digit_value b) ∷ bytes_of l

-- the number of bytes read after v: the first byte is the greatest part
unfoldable pub number_after : ℕ → List ℕ → ℕ
number_after v [] = v
number_after v (b ∷ l) = number_after (v * 256 + b) l

unfoldable pub number : List ℕ → ℕ
unfolding number_after
number l = number_after 0 l

-- n numbers of k bytes each
unfoldable pub numbers : ℕ → ℕ → List ℕ → List ℕ
unfolding number
numbers k zero l = []
numbers k (suc n) l = number (take k l) ∷ numbers k n (drop k l)

-- ---- writing

-- the digit of a value below 16
abbrev pub digit_of : ℕ → ℕ
digit_of v = cond (ltb v 10) (v + 48) (v + 87)

-- the text of bytes, two digits each
unfoldable pub text_of : List ℕ → List ℕ
text_of [] = []
text_of (b ∷ l) = digit_of (b / 16) ∷ digit_of (b % 16) ∷ text_of l

-- a number as k bytes, the first the greatest part
unfoldable pub bytes_in : ℕ → ℕ → List ℕ
bytes_in zero x = []
bytes_in (suc k) x = x / 2 ^ (8 * k) % 256 ∷ bytes_in k x

-- numbers as k bytes each
unfoldable pub bytes_each : ℕ → List ℕ → List ℕ
unfolding bytes_in
bytes_each k [] = []
bytes_each k (x ∷ l) = bytes_in k x ++ bytes_each k l
