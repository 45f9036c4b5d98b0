-- What holds of hexadecimal text; proofs/Laws.antt proves it.
use Rattle.std.specs.Prelude.{ℕ, ◌<◌, ◌≡◌, refl, true, false, List, [], ◌∷◌, get_or}
use Rattle.hex_text.specs.Hex.{is_hex, bytes_of, numbers, text_of, bytes_in}

pub record Laws : Type 0 where
  -- what is written is read back
  pub text_hex : (l : List ℕ) → ((i : ℕ) → get_or l i 0 < 256) → is_hex (text_of l) ≡ true
  pub text_back : (l : List ℕ) → ((i : ℕ) → get_or l i 0 < 256) → bytes_of (text_of l) ≡ l

-- ---- cases

-- an odd number of digits, upper case, a carriage return and a byte above 127 are no text; an empty line is, of no bytes
pub cases : (is_hex (48 ∷ 49 ∷ 48 ∷ []) ≡ false) × (is_hex (48 ∷ 65 ∷ []) ≡ false) × (is_hex (48 ∷ 49 ∷ 13 ∷ 48 ∷ []) ≡ false)
    × (is_hex (48 ∷ 200 ∷ []) ≡ false) × (is_hex [] ≡ true) × (bytes_of (48 ∷ 49 ∷ 102 ∷ 97 ∷ []) ≡ 1 ∷ 250 ∷ [])
    × (numbers 2 2 (1 ∷ 2 ∷ 0 ∷ 255 ∷ []) ≡ 258 ∷ 255 ∷ []) × (text_of (bytes_in 2 258) ≡ 48 ∷ 49 ∷ 48 ∷ 50 ∷ [])
unfolding is_hex bytes_of numbers text_of bytes_in
cases = (refl, refl, refl, refl, refl, refl, refl, refl)
