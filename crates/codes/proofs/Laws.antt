-- A refusal is known by its code and its values: the marking sheet, read back row by row.
use Rattle.std.specs.Prelude.{ℕ, ◌-◌, ◌≡◌, refl, List, get_or}
use Rattle.std.proofs.Common.{sym, ap, ◌∙◌}
use Rattle.codes.specs.declared.Refusal.{Refusal}
use Rattle.codes.specs.declared.Refusal.TheVariants.{Limit, Short, Frame, Probability, Index, NoCover, NotGraphlike, Length, Padding, Width, Stuck, Shape, Edge}
use Rattle.codes.specs.Codes.{code_of, values_of, first_of, second_of}
use Rattle.codes.specs.Laws.{sheet}

-- each refusal stands in the row of its code
pub in_row : (r : Refusal) → get_or (sheet (first_of r) (second_of r)) (code_of r - 1) Limit ≡ r
in_row Limit = refl
in_row Short = refl
in_row Frame = refl
in_row (Probability at) = refl
in_row (Index at) = refl
in_row (NoCover mechanism) = refl
in_row (NotGraphlike mechanism) = refl
in_row Length = refl
in_row (Padding shot) = refl
in_row Width = refl
in_row (Stuck shot detector) = refl
in_row Shape = refl
in_row Edge = refl

-- so no two refusals have the same code and the same values
pub known_by : (r s : Refusal) → code_of r ≡ code_of s → values_of r ≡ values_of s → r ≡ s
known_by r s p q =
    sym (in_row r)
    ∙ ap (λ (vs : List ℕ). get_or (sheet (get_or vs 0 0) (get_or vs 1 0)) (code_of r - 1) Limit) q
    ∙ ap (λ (n : ℕ). get_or (sheet (first_of s) (second_of s)) (n - 1) Limit) p
    ∙ in_row s
