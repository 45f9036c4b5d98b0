-- The number and the values that the marking sheet (docs/RULES.md, "Refusals") has for each refusal.
use Rattle.std.specs.Prelude.{ℕ, List, [], ◌∷◌, get_or}
use Rattle.codes.specs.declared.Refusal.{Refusal}
use Rattle.std.specs.Prelude.{Ok, Err}
use Rattle.codes.specs.Order.{Checked}
use Rattle.codes.specs.declared.Refusal.TheVariants.{Limit, Short, Frame, Probability, Index, NoCover, NotGraphlike, Length, Padding, Width, Stuck, Shape, Edge}

-- "Returned": the number
abbrev pub code_of : Refusal → ℕ
code_of Limit = 1
code_of Short = 2
code_of Frame = 3
code_of (Probability at) = 4
code_of (Index at) = 5
code_of (NoCover mechanism) = 6
code_of (NotGraphlike mechanism) = 7
code_of Length = 8
code_of (Padding shot) = 9
code_of Width = 10
code_of (Stuck shot detector) = 11
code_of Shape = 12
code_of Edge = 13

-- "Returned": the values beside the number, in the sheet's order
abbrev pub values_of : Refusal → List ℕ
values_of Limit = []
values_of Short = []
values_of Frame = []
values_of (Probability at) = at ∷ []
values_of (Index at) = at ∷ []
values_of (NoCover mechanism) = mechanism ∷ []
values_of (NotGraphlike mechanism) = mechanism ∷ []
values_of Length = []
values_of (Padding shot) = shot ∷ []
values_of Width = []
values_of (Stuck shot detector) = shot ∷ detector ∷ []
values_of Shape = []
values_of Edge = []

-- where a value has a place of its own, a missing one is 0
abbrev pub first_of : Refusal → ℕ
first_of r = get_or (values_of r) 0 0

abbrev pub second_of : Refusal → ℕ
second_of r = get_or (values_of r) 1 0

-- ---- an answer, as the sheet has it

-- its number, which is 0 where nothing is refused, and the values beside it: of a refusal the sheet's, else what the answer carries
pub record Sheet : Type 0 where
  pub code : ℕ
  pub values : List ℕ

-- the row of a refusal
abbrev pub refusal_row : Refusal → Sheet
refusal_row r = record { code = code_of r; values = values_of r }

-- no refusal, and the values carried
abbrev pub success_row : List ℕ → Sheet
success_row values = record { code = 0; values = values }

-- what a check comes to
abbrev pub checked_row : Checked → Sheet
checked_row (Ok _) = success_row []
checked_row (Err r) = refusal_row r
