-- The limits of docs/RULES.md, "Limits", and code 1.
use Rattle.std.specs.Prelude.{ℕ, ltb}
use Rattle.codes.specs.declared.Refusal.TheVariants.{Limit}
use Rattle.codes.specs.Order.{Checked, refuse_if, and_then}

abbrev pub max_detectors : ℕ
max_detectors = 4096

abbrev pub max_observables : ℕ
max_observables = 128

-- mechanisms of a model, and edges of a graph
abbrev pub max_mechanisms : ℕ
max_mechanisms = 16384

-- entries of a list, and components of a mechanism
abbrev pub max_entries : ℕ
max_entries = 16

abbrev pub max_shots : ℕ
max_shots = 16777216

-- "a count over its limit"
abbrev pub over : ℕ → ℕ → Checked
over limit n = refuse_if (ltb limit n) Limit

-- detectors, observables, and mechanisms or edges
unfoldable pub check_counts : ℕ → ℕ → ℕ → Checked
check_counts detectors observables items =
    and_then (over max_detectors detectors) (and_then (over max_observables observables) (over max_mechanisms items))

unfoldable pub check_shots : ℕ → Checked
check_shots shots = over max_shots shots
