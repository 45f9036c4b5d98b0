-- What holds of packed shots. Each statement is proved in proofs/ under the same name in small letters.
use Rattle.std.specs.Prelude.{Ok, Err, ℕ, ◌+◌, ◌*◌, ◌≤◌, ◌<◌, ◌≡◌, true, false, List, [], ◌∷◌, length}
use Rattle.bits.specs.Rows.{words, is_clear}
use Rattle.codes.specs.declared.Refusal.{Refusal}
use Rattle.codes.specs.declared.Refusal.TheVariants.{Limit, Length, Padding}
use Rattle.codes.specs.Limits.{max_shots}
use Rattle.packed.specs.Packed.{row_at, check_packed, packed_of}

-- a batch that may be read: its shots are few enough, its rows have a word per 64 bits begun, and no padding is set
pub record Sound (rows : List ℕ) (shots width : ℕ) : Type 0 where
  pub few : shots ≤ max_shots
  pub long : length rows ≡ shots * words width
  pub clear : (s : ℕ) → s < shots → is_clear width (row_at (words width) rows s) ≡ true

-- what is accepted is sound
abbrev pub AcceptedSound : Type 0
AcceptedSound = (rows : List ℕ) (shots width : ℕ) → check_packed rows shots width ≡ Ok tt → Sound rows shots width

-- what is sound is accepted
abbrev pub SoundAccepted : Type 0
SoundAccepted = (rows : List ℕ) (shots width : ℕ) → Sound rows shots width → check_packed rows shots width ≡ Ok tt

-- rows are what the check accepts, with a word per 64 bits begun
abbrev pub RowsAccepted : Type 0
RowsAccepted = (rows : List ℕ) (shots width m : ℕ) → packed_of rows shots width ≡ Ok m → (check_packed rows shots width ≡ Ok tt) × (m ≡ words width)

-- and a refusal is the check's
abbrev pub RefusedSame : Type 0
RefusedSame = (rows : List ℕ) (shots width : ℕ) (r : Refusal) → packed_of rows shots width ≡ Err r → check_packed rows shots width ≡ Err r

-- of a sound batch every shot's row ends within the data
abbrev pub RowEnds : Type 0
RowEnds = (rows : List ℕ) (shots width s : ℕ) → Sound rows shots width → s < shots → (s + 1) * words width ≤ length rows

-- and has a word per 64 bits begun
abbrev pub RowLong : Type 0
RowLong = (rows : List ℕ) (shots width s : ℕ) → Sound rows shots width → s < shots → length (row_at (words width) rows s) ≡ words width

-- shot s is the lowest whose padding is set
pub record FirstPadded (rows : List ℕ) (shots width s : ℕ) : Type 0 where
  pub within : s < shots
  pub padded : is_clear width (row_at (words width) rows s) ≡ false
  pub lower : (t : ℕ) → t < s → is_clear width (row_at (words width) rows t) ≡ true

-- 9 names the lowest shot whose padding is set
abbrev pub PaddingFirst : Type 0
PaddingFirst = (rows : List ℕ) (shots width s : ℕ) → check_packed rows shots width ≡ Err (Padding s) → FirstPadded rows shots width s

-- 8 where the length is not the product over whole numbers
abbrev pub LengthWrong : Type 0
LengthWrong = (rows : List ℕ) (shots width : ℕ) → check_packed rows shots width ≡ Err Length → length rows ≡ shots * words width → ⊥

-- 1 where there are too many shots
abbrev pub LimitPassed : Type 0
LimitPassed = (rows : List ℕ) (shots width : ℕ) → check_packed rows shots width ≡ Err Limit → max_shots < shots

-- D = 2 with word 4 gives 9
abbrev pub WordFour : Type 0
WordFour = check_packed (4 ∷ []) 1 2 ≡ Err (Padding 0)
