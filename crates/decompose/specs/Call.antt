-- What the call answers and leaves: docs/RULES.md, "Decomposition" and "Refusals".
use Rattle.std.specs.Prelude.{Result, Ok, Err, ℕ, ◌*◌, min, ◌≡◌, List, [], ◌∷◌, Bool, not, ◌&&◌, length, leb}
use Rattle.codes.specs.declared.Refusal.{Refusal}
use Rattle.codes.specs.Codes.{Sheet, refusal_row, success_row}
use Rattle.codes.specs.declared.Refusal.TheVariants.{Short}
use Rattle.codes.specs.Order.{Checked, refuse_if, and_then}
use Rattle.codes.specs.Limits.{check_counts}
use Rattle.dem.specs.Model.{ErrorMechanism, check_model}
use Rattle.dem.specs.Tables.{Tables, model_of, components_in, entries_in, columns_hold, lists_hold, tables_hold, tables_of, tables_written, tables_zero}
use Rattle.dem.specs.Decompose.{Places, Split, into, refused, entries_of, decompose}
use Rattle.split_model.specs.declared.Counts.{Counts}
use Rattle.decompose.specs.declared.Lengths.{Lengths}

-- the lent places
abbrev pub room_of : Tables → Places
room_of was = record {
  mechanisms = min (length was.probability) (min (length was.detector_counts) (min (length was.observable_counts) (length was.component_counts)));
  entries = length was.entries;
}

-- the lengths of the scratch slices
abbrev pub lengths_of : List ℕ → List ℕ → List ℕ → List ℕ → List ℕ → List ℕ → List ℕ → List ℕ → List ℕ → List ℕ → Lengths
lengths_of starts before last first next numbers masks words0 words1 earlier = record {
  starts = length starts;
  before = length before;
  last_of = length last;
  first_of = length first;
  next_of = length next;
  numbers = length numbers;
  masks = length masks;
  words0 = length words0;
  words1 = length words1;
  earlier = length earlier;
}

-- a mechanism may bring 16 more: 17 entries for each, or one; or an entry for each detector
unfoldable pub scratch_long : ℕ → ℕ → Lengths → Bool
scratch_long D n s =
    leb (17 * n) s.starts && (leb (17 * n) s.before && (leb D s.last_of && (leb D s.first_of
    && (leb n s.next_of && (leb n s.numbers && (leb n s.masks && (leb n s.words0 && (leb n s.words1 && leb n s.earlier))))))))

-- "a table, list, output or scratch slice shorter than the counts need (for decomposition: than the model given)"
unfoldable pub long : ℕ → ℕ → Tables → Tables → Lengths → Bool
unfolding scratch_long
long D n t was s = columns_hold n was && (lists_hold (components_in n t) (entries_in n t) was && scratch_long D n s)

-- the limits (1), all lengths (2), then all mechanisms in order
unfoldable pub checked : ℕ → ℕ → ℕ → Tables → Tables → Lengths → Checked
unfolding long
checked D O n t was s =
    and_then (check_counts D O n) (and_then (refuse_if (not (tables_hold n t && long D n t was s)) Short) (check_model D O 0 (model_of n t)))

abbrev pub outcome_of : Checked → Split → Split
outcome_of (Err r) x = refused r
outcome_of (Ok tt) x = x

-- what the call comes to
unfoldable pub outcome : ℕ → ℕ → ℕ → Tables → Tables → Lengths → Split
unfolding checked
outcome D O n t was s = outcome_of (checked D O n t was s) (decompose (room_of was) (model_of n t))

-- the mechanisms, components and entries of a model
abbrev pub counts_of : List ErrorMechanism → Counts
counts_of ms = record { mechanisms = length ms; components = length (tables_of ms).component_detectors; entries = entries_of ms }

-- the sheet's number and values for each case of the answer: mechanisms, components, entries
abbrev pub sheet_of : Result Counts Refusal → Sheet
sheet_of (Ok n) = success_row (n.mechanisms ∷ n.components ∷ n.entries ∷ [])
sheet_of (Err r) = refusal_row r

-- and for what the call comes to
abbrev pub call_row : Split → Sheet
call_row (into ms) = success_row (length ms ∷ length (tables_of ms).component_detectors ∷ entries_of ms ∷ [])
call_row (refused r) = refusal_row r

-- the answer: how much the tables hold, or the refusal
abbrev pub answer_of : Split → Result Counts Refusal
answer_of (into ms) = Ok (counts_of ms)
answer_of (refused r) = Err r

-- the output tables that it leaves: the model, then the old contents; after a refusal zero, whole
abbrev pub tables_left : Split → Tables → Tables
tables_left (into ms) was = tables_written ms was
tables_left (refused r) was = tables_zero was

-- the answer and every output table; the scratch slices may hold anything
pub record Decomposes (x : Split) (r : Result Counts Refusal) (was after : Tables) : Type 0 where
  pub sheet : sheet_of r ≡ call_row x
  pub answer : r ≡ answer_of x
  pub tables : after ≡ tables_left x was
