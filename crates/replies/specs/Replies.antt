-- What is written: docs/RULES.md, "Frames".
use Rattle.std.specs.Prelude.{ℕ, ◌≡◌, refl, List, [], ◌∷◌, ◌++◌, length}
use Rattle.hex_text.specs.Hex.{text_of, bytes_in, bytes_each}

-- "One per line": its text, and a line feed
unfoldable pub line_of : List ℕ → List ℕ
unfolding text_of
line_of bytes = text_of bytes ++ (10 ∷ [])

-- "85 row", 8 bytes a word
abbrev pub row_reply : List ℕ → List ℕ
row_reply row = 0x85 ∷ bytes_each 8 row

-- "86 count and edges (2 each)"
abbrev pub list_reply : List ℕ → List ℕ
list_reply edges = 0x86 ∷ (bytes_in 2 (length edges) ++ bytes_each 2 edges)

-- "8f shots, failures (4 each), rate bits (8)"
abbrev pub rate_reply : ℕ → ℕ → ℕ → List ℕ
rate_reply shots failures rate = 0x8f ∷ (bytes_in 4 shots ++ (bytes_in 4 failures ++ bytes_in 8 rate))

-- "a refusal is ff and code (1 byte)"
abbrev pub refusal_reply : ℕ → List ℕ
refusal_reply code = 0xff ∷ code ∷ []

-- ---- the example of the rules, and wrong writers that it rules out: a count of edges in one byte or off by one, a row with its least byte first

pub example : (line_of (row_reply (1 ∷ [])) ≡ 56 ∷ 53 ∷ 48 ∷ 48 ∷ 48 ∷ 48 ∷ 48 ∷ 48 ∷ 48 ∷ 48 ∷ 48 ∷ 48 ∷ 48 ∷ 48 ∷ 48 ∷ 48 ∷ 48 ∷ 49 ∷ 10 ∷ [])
    × (line_of (list_reply (1 ∷ 0 ∷ [])) ≡ 56 ∷ 54 ∷ 48 ∷ 48 ∷ 48 ∷ 50 ∷ 48 ∷ 48 ∷ 48 ∷ 49 ∷ 48 ∷ 48 ∷ 48 ∷ 48 ∷ 10 ∷ [])
    × (line_of (rate_reply 1 0 0) ≡ 56 ∷ 102 ∷ 48 ∷ 48 ∷ 48 ∷ 48 ∷ 48 ∷ 48 ∷ 48 ∷ 49 ∷ 48 ∷ 48 ∷ 48 ∷ 48 ∷ 48 ∷ 48 ∷ 48 ∷ 48
    ∷ 48 ∷ 48 ∷ 48 ∷ 48 ∷ 48 ∷ 48 ∷ 48 ∷ 48 ∷ 48 ∷ 48 ∷ 48 ∷ 48 ∷ 48 ∷ 48 ∷ 48 ∷ 48 ∷ 10 ∷ [])
    × (line_of (refusal_reply 3) ≡ 102 ∷ 102 ∷ 48 ∷ 51 ∷ 10 ∷ [])
unfolding line_of bytes_each bytes_in
example = (refl, refl, refl, refl)
