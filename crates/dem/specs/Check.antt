-- The check of a model in tables.
use Rattle.std.specs.Prelude.{ℕ, not}
use Rattle.codes.specs.declared.Refusal.TheVariants.{Short}
use Rattle.codes.specs.Order.{Checked, refuse_if, and_then}
use Rattle.codes.specs.Limits.{check_counts}
use Rattle.dem.specs.Model.{check_model}
use Rattle.dem.specs.Tables.{Tables, model_of, tables_hold}

-- D detectors, O observables and n mechanisms: the limits (1), the tables (2), then "all mechanisms in order, lists then probability"
abbrev pub check_all : ℕ → ℕ → ℕ → Tables → Checked
check_all D O n t = and_then (check_counts D O n) (and_then (refuse_if (not (tables_hold n t)) Short) (check_model D O 0 (model_of n t)))
