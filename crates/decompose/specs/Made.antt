-- On the way to the answer: the kept mechanisms in the output tables, and the model that they grow to.
use Rattle.std.specs.Prelude.{Result, Ok, Err, ℕ, ◌-◌, ◌≤◌, ◌≡◌, List, ◌++◌, length, take, replicate}
use Rattle.codes.specs.declared.Refusal.{Refusal}
use Rattle.dem.specs.Model.{ErrorMechanism}
use Rattle.dem.specs.Tables.{Tables, tables_written, symptom_entries, written}
use Rattle.dem.specs.Decompose.{Split, into, refused}
use Rattle.suggested.specs.declared.Size.{Size}
use Rattle.split_model.specs.declared.Counts.{Counts}
use Rattle.decompose.specs.Call.{counts_of}
use Rattle.decompose.specs.Appended.{lists_from}

-- the appended mechanisms have no components, and their lists follow those of the kept ones
pub record Finished (kept : Counts) (size : Size) (starts ds os es cs out : List ℕ) (r : Counts) (cs' out' : List ℕ) : Type 0 where
  pub answer : r ≡ record { mechanisms = size.mechanisms; components = kept.components; entries = size.entries }
  pub component_counts : cs' ≡ written (take kept.mechanisms cs ++ replicate (size.mechanisms - kept.mechanisms) 0) cs
  pub entries : out' ≡ written (take kept.entries out ++ symptom_entries (lists_from starts ds os es kept.mechanisms size.mechanisms)) out

-- the kept mechanisms ks are counted, and they and all of the room find their places in the tables
pub record Roomy (ks : List ErrorMechanism) (kept : Counts) (room : Size) (cs out : List ℕ) : Type 0 where
  pub counted : kept ≡ counts_of ks
  pub few : kept.mechanisms ≤ room.mechanisms
  pub listed : kept.entries ≤ room.entries
  pub components_hold : room.mechanisms ≤ length cs
  pub entries_hold : room.entries ≤ length out

-- the model in the tables and its counts as the answer; or the refusal
abbrev pub Made : Split → Tables → Result Counts Refusal → Tables → Type 0
Made (into ms) was r after = (r ≡ Ok (counts_of ms)) × (after ≡ tables_written ms was)
Made (refused x) was r after = r ≡ Err x
