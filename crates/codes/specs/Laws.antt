-- The marking sheet, row by row: what `proofs/Laws` reads each refusal back off.
use Rattle.std.specs.Prelude.{ℕ, List, [], ◌∷◌}
use Rattle.codes.specs.declared.Refusal.{Refusal}
use Rattle.codes.specs.declared.Refusal.TheVariants.{Limit, Short, Frame, Probability, Index, NoCover, NotGraphlike, Length, Padding, Width, Stuck, Shape, Edge}

-- the rows of the sheet from code 1 on, with the values a and b
abbrev pub sheet : ℕ → ℕ → List Refusal
sheet a b = Limit ∷ Short ∷ Frame ∷ Probability a ∷ Index a ∷ NoCover a ∷ NotGraphlike a ∷ Length ∷ Padding a ∷ Width ∷ Stuck a b ∷ Shape ∷ Edge ∷ []
