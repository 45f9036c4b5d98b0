-- What holds of a decomposed model; proofs/Laws.antt proves it.
use Rattle.std.specs.Prelude.{ℕ, ◌<◌, ◌≤◌, ◌≡◌, List, length, get_or}
use Rattle.dem.specs.Model.{ErrorMechanism}
use Rattle.dem.specs.Decompose.{Places, into, entries_of, kept_of, decompose}

-- the model ms finds its places
pub record Placed (room : Places) (ms : List ErrorMechanism) : Type 0 where
  pub mechanisms : length ms ≤ room.mechanisms
  pub entries : entries_of ms ≤ room.entries

pub record Laws : Type 0 where
  -- every mechanism of a decomposed model has at most two detectors
  pub graphlike : (room : Places) (ms b : List ErrorMechanism) → decompose room ms ≡ into b
      → (k : ℕ) (z : ErrorMechanism) → k < length b → length (get_or b k z).symptom.detectors ≤ 2
  -- it finds its places where the kept mechanisms do
  pub placed : (room : Places) (ms b : List ErrorMechanism) → decompose room ms ≡ into b → Placed room (kept_of ms) → Placed room b
