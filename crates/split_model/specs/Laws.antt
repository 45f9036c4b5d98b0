-- What holds of a decomposed model; proofs/Grows.antt proves it.
use Rattle.std.specs.Prelude.{◌≡◌, List, ◌++◌, length, replicate}
use Rattle.dem.specs.Model.{Symptom, ErrorMechanism}
use Rattle.dem.specs.Tables.{tables_of, symptom_entries}
use Rattle.split_model.specs.Begun.{symptoms_of}

-- b is a with new mechanisms at its end: lists and components stay, and the new ones have no components
pub record Grows (a b : List ErrorMechanism) : Type 0 where
  pub new : List Symptom
  pub symptoms : symptoms_of b ≡ symptoms_of a ++ new
  pub component_counts : (tables_of b).component_counts ≡ (tables_of a).component_counts ++ replicate (length new) 0
  pub component_detectors : (tables_of b).component_detectors ≡ (tables_of a).component_detectors
  pub component_observables : (tables_of b).component_observables ≡ (tables_of a).component_observables
  pub entries : (tables_of b).entries ≡ (tables_of a).entries ++ symptom_entries new
