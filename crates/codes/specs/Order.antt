-- Checks tried in order: the first refusal is the answer.
use Rattle.std.specs.Prelude.{Bool, true, false, ⊤}
use Rattle.std.specs.Prelude.{Result}
use Rattle.std.specs.Prelude.{Ok, Err}
use Rattle.codes.specs.declared.Refusal.{Refusal}

-- what a check comes to
abbrev pub Checked : Type 0
Checked = Result ⊤ Refusal

-- refused with r where the test holds
abbrev pub refuse_if : Bool → Refusal → Checked
refuse_if true r = Err r
refuse_if false r = Ok tt

-- the second check is tried where the first accepts
abbrev pub and_then : Checked → Checked → Checked
and_then (Ok _) c = c
and_then (Err r) c = Err r
