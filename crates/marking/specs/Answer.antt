-- The marker's answer: docs/RULES.md, "Marking".
use Rattle.std.specs.Prelude.{[], ◌∷◌, Result, Ok, Err}
use Rattle.codes.specs.declared.Refusal.{Refusal}
use Rattle.codes.specs.Codes.{Sheet, refusal_row, success_row}
use Rattle.codes.specs.declared.Refusal.TheVariants as refusal
use Rattle.steps.specs.Marker.{Marked, pass, differs, unfit}
use Rattle.marking.specs.declared.Marking.{Marking}
use Rattle.marking.specs.declared.Marking.TheVariants.{Pass, Differs}

-- 13 for an unknown or repeated edge
abbrev pub marking_of : Marked → Result Marking Refusal
marking_of (pass row) = Ok Pass
marking_of (differs d) = Ok (Differs d)
marking_of unfit = Err refusal.Edge

-- the sheet's number and values for each case of the answer: Pass carries nothing, Differs the lowest wrong detector
abbrev pub sheet_of : Result Marking Refusal → Sheet
sheet_of (Ok Pass) = success_row []
sheet_of (Ok (Differs d)) = success_row (d ∷ [])
sheet_of (Err r) = refusal_row r

-- and for what the marker comes to: "13: edge unknown or repeated"
abbrev pub marked_row : Marked → Sheet
marked_row (pass row) = success_row []
marked_row (differs d) = success_row (d ∷ [])
marked_row unfit = record { code = 13; values = [] }
