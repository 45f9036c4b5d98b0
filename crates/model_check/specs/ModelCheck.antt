-- The model is checked at 04: docs/RULES.md, "Frames".
use Rattle.std.specs.Prelude.{Ok, Err, ℕ, ◌≤◌, ◌≡◌, false, ◌||◌, List, ◌++◌, map, pos, ltb, length, take, drop, replicate, Float}
use Rattle.std.specs.Float.{fin}
use Rattle.codes.specs.declared.Refusal.TheVariants.{Short}
use Rattle.codes.specs.Order.{Checked, refuse_if, and_then}
use Rattle.dem.specs.Model.{check_model}
use Rattle.dem.specs.Tables.{Tables, model_of}
use Rattle.dem.specs.Positions.{tables}
use Rattle.dem.specs.Check.{check_all}
use Rattle.frames.specs.declared.State.{State}
use Rattle.frames.specs.Input.{Input, model_read}
use Rattle.model_check.specs.Bits.{probability_of}
use Rattle.reader.specs.Columns.{Columns, columns, Holds}

-- the tables of a model, with the column of probabilities ps
abbrev pub model_tables : List Float → Columns → Tables
model_tables ps c =
    tables ps c.detector_counts c.observable_counts c.component_counts c.component_detectors c.component_observables c.entries

-- m probabilities from their bits, then what was there
abbrev pub from_bits : ℕ → List ℕ → List Float → List Float
from_bits m bs was = map probability_of (take m bs) ++ drop m was

-- 2 where the bits or the column are too short for the mechanisms, else the check of the tables, whatever they hold
unfoldable pub check_read : State → Columns → List Float → Checked
check_read n c was =
    and_then (refuse_if (ltb (length c.bits) n.mechanisms || ltb (length was) n.mechanisms) Short)
    (check_all n.detectors n.observables n.mechanisms (model_tables (from_bits n.mechanisms c.bits was) c))

-- the column of probabilities; after a refusal it is zero, whole
abbrev pub column_left : Checked → ℕ → List ℕ → List Float → List Float
column_left (Err r) m bs was = replicate (length was) (fin false 0 (pos 0))
column_left (Ok tt) m bs was = from_bits m bs was

-- all that the call promises: its answer r to the model that was read into seven tables, and the column ps that it leaves where was stood
pub record ModelChecked (n : State) (bs ds os cs cds cos es : List ℕ) (was : List Float) (r : Checked) (ps : List Float) : Type 0 where
  pub answers : (ws ts : List ℕ) → r ≡ check_read n (columns bs ds os cs cds cos es ws ts) was
  pub column : ps ≡ column_left r n.mechanisms bs was
  -- where the tables are those of what was read, the answer is that of the check of that model,
  pub answer : (s : Input) (ws ts : List ℕ) → Holds s n (columns bs ds os cs cds cos es ws ts) → n.mechanisms ≤ length was
      → r ≡ check_model n.detectors n.observables 0 (model_read s.mechanisms)
  -- and where it is accepted, the tables are that model's
  pub model : (s : Input) (ws ts : List ℕ) → Holds s n (columns bs ds os cs cds cos es ws ts) → n.mechanisms ≤ length was → r ≡ Ok tt
      → model_of n.mechanisms (tables ps ds os cs cds cos es) ≡ model_read s.mechanisms
