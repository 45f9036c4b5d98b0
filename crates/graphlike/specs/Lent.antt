-- What the call finds lent, and what it goes on with once all of it is accepted.
use Rattle.std.specs.Prelude.{ℕ, ◌≡◌, true}
use Rattle.codes.specs.Order.{Checked}
use Rattle.dem.specs.declared.Model.{Model}
use Rattle.dem.specs.declared.Output.{Output}
use Rattle.dem.specs.Lent.{tables_of, tables_out}
use Rattle.dem.specs.Tables.{Tables, components_in, entries_in, columns_hold, lists_hold}
use Rattle.dem.specs.Decompose.{Split}
use Rattle.decompose.specs.declared.Lengths.{Lengths}
use Rattle.decompose.specs.declared.Scratch.{Scratch}
use Rattle.decompose.specs.Call.{scratch_long, checked, outcome}
use Rattle.decompose.specs.Lent.{lengths_in}
use Rattle.decompose.specs.Started.{Fitting}

-- the checks of a call, and what it comes to
abbrev pub checked_in : Model → Output → Lengths → Checked
checked_in m out s = checked m.detectors m.observables m.mechanisms (tables_of m) (tables_out out) s

abbrev pub outcome_in : Model → Output → Scratch → Split
outcome_in m out s = outcome m.detectors m.observables m.mechanisms (tables_of m) (tables_out out) (lengths_in s)

-- a model that was accepted, and every slice long enough for it
pub record Lent (D n : ℕ) (t was : Tables) (s : Lengths) : Type 0 where
  pub fitting : Fitting D n t
  pub columns : columns_hold n was ≡ true
  pub lists : lists_hold (components_in n t) (entries_in n t) was ≡ true
  pub scratch : scratch_long D n s ≡ true
