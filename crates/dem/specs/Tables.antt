-- A model in flat tables: a column for each count, and one list of entries in the order of the frames: a mechanism's detectors,
-- its observables, then each component's detectors and observables.
use Rattle.std.specs.Prelude.{ℕ, zero, suc, ◌+◌, List, [], ◌∷◌, ◌++◌, Bool, false, ◌&&◌, length, get_or, take, drop, replicate, leb, pos, Float}
use Rattle.std.specs.Float.{nan, fin}
use Rattle.dem.specs.Model.{Symptom, ErrorMechanism}

pub record Tables : Type 0 where
  -- an entry for each mechanism: its probability, and the lengths of its three lists
  pub probability : List Float
  pub detector_counts : List ℕ
  pub observable_counts : List ℕ
  pub component_counts : List ℕ
  -- an entry for each component, those of mechanism 0 first: the lengths of its two lists
  pub component_detectors : List ℕ
  pub component_observables : List ℕ
  -- the lists
  pub entries : List ℕ

-- ---- reading

-- n components, in the tables from here on
unfoldable pub components_of : ℕ → List ℕ → List ℕ → List ℕ → List Symptom
components_of zero ds os es = []
components_of (suc n) ds os es =
    record { detectors = take (get_or ds 0 0) es; observables = take (get_or os 0 0) (drop (get_or ds 0 0) es) }
    ∷ components_of n (drop 1 ds) (drop 1 os) (drop (get_or ds 0 0 + get_or os 0 0) es)

-- how many entries n components take
unfoldable pub component_entries : ℕ → List ℕ → List ℕ → ℕ
component_entries zero ds os = 0
component_entries (suc n) ds os = get_or ds 0 0 + get_or os 0 0 + component_entries n (drop 1 ds) (drop 1 os)

-- the first mechanism
unfoldable pub first_of : Tables → ErrorMechanism
unfolding components_of
first_of t = record {
  probability = get_or t.probability 0 nan;
  symptom = record {
    detectors = take (get_or t.detector_counts 0 0) t.entries;
    observables = take (get_or t.observable_counts 0 0) (drop (get_or t.detector_counts 0 0) t.entries);
  };
  components = components_of (get_or t.component_counts 0 0) t.component_detectors t.component_observables
      (drop (get_or t.detector_counts 0 0 + get_or t.observable_counts 0 0) t.entries);
}

-- how many entries it takes, its components' included
unfoldable pub first_entries : Tables → ℕ
unfolding component_entries
first_entries t =
    get_or t.detector_counts 0 0 + get_or t.observable_counts 0 0
    + component_entries (get_or t.component_counts 0 0) t.component_detectors t.component_observables

-- the tables past it
unfoldable pub rest_of : Tables → Tables
unfolding first_entries
rest_of t = record {
  probability = drop 1 t.probability;
  detector_counts = drop 1 t.detector_counts;
  observable_counts = drop 1 t.observable_counts;
  component_counts = drop 1 t.component_counts;
  component_detectors = drop (get_or t.component_counts 0 0) t.component_detectors;
  component_observables = drop (get_or t.component_counts 0 0) t.component_observables;
  entries = drop (first_entries t) t.entries;
}

-- the n mechanisms that the tables hold
unfoldable pub model_of : ℕ → Tables → List ErrorMechanism
unfolding first_of rest_of
model_of zero t = []
model_of (suc n) t = first_of t ∷ model_of n (rest_of t)

-- the components and the entries of n mechanisms
unfoldable pub components_in : ℕ → Tables → ℕ
unfolding rest_of
components_in zero t = 0
components_in (suc n) t = get_or t.component_counts 0 0 + components_in n (rest_of t)

unfoldable pub entries_in : ℕ → Tables → ℕ
unfolding first_entries rest_of
entries_in zero t = 0
entries_in (suc n) t = first_entries t + entries_in n (rest_of t)

-- ---- long enough

-- an entry in each column for n mechanisms
unfoldable pub columns_hold : ℕ → Tables → Bool
columns_hold n t =
    leb n (length t.probability) && (leb n (length t.detector_counts) && (leb n (length t.observable_counts) && leb n (length t.component_counts)))

-- and in each component's column, and for all lists: c components, e entries
unfoldable pub lists_hold : ℕ → ℕ → Tables → Bool
lists_hold c e t = leb c (length t.component_detectors) && (leb c (length t.component_observables) && leb e (length t.entries))

-- the tables hold the n mechanisms that their counts tell of
unfoldable pub tables_hold : ℕ → Tables → Bool
unfolding columns_hold lists_hold components_in entries_in
tables_hold n t = columns_hold n t && lists_hold (components_in n t) (entries_in n t) t

-- ---- writing

unfoldable pub symptom_entries : List Symptom → List ℕ
symptom_entries [] = []
symptom_entries (s ∷ ss) = s.detectors ++ (s.observables ++ symptom_entries ss)

unfoldable pub component_detectors : List Symptom → List ℕ
component_detectors [] = []
component_detectors (s ∷ ss) = length s.detectors ∷ component_detectors ss

unfoldable pub component_observables : List Symptom → List ℕ
component_observables [] = []
component_observables (s ∷ ss) = length s.observables ∷ component_observables ss

-- the tables of a model, with nothing past it
unfoldable pub tables_of : List ErrorMechanism → Tables
unfolding symptom_entries component_detectors component_observables
tables_of [] = record { probability = []; detector_counts = []; observable_counts = []; component_counts = []; component_detectors = []; component_observables = []; entries = [] }
tables_of (m ∷ ms) =
    let t = tables_of ms in
    record {
      probability = m.probability ∷ t.probability;
      detector_counts = length m.symptom.detectors ∷ t.detector_counts;
      observable_counts = length m.symptom.observables ∷ t.observable_counts;
      component_counts = length m.components ∷ t.component_counts;
      component_detectors = component_detectors m.components ++ t.component_detectors;
      component_observables = component_observables m.components ++ t.component_observables;
      entries = m.symptom.detectors ++ (m.symptom.observables ++ (symptom_entries m.components ++ t.entries));
    }

-- ---- what a call leaves of the tables that it was to fill

-- what was written, then the old contents
abbrev pub written : {A : Type 0} → List A → List A → List A
written new was = new ++ drop (length new) was

-- the model, at the front of every table
unfoldable pub tables_written : List ErrorMechanism → Tables → Tables
unfolding tables_of
tables_written ms was =
    let t = tables_of ms in
    record {
      probability = written t.probability was.probability;
      detector_counts = written t.detector_counts was.detector_counts;
      observable_counts = written t.observable_counts was.observable_counts;
      component_counts = written t.component_counts was.component_counts;
      component_detectors = written t.component_detectors was.component_detectors;
      component_observables = written t.component_observables was.component_observables;
      entries = written t.entries was.entries;
    }

-- zero, whole
unfoldable pub tables_zero : Tables → Tables
tables_zero was = record {
  probability = replicate (length was.probability) (fin false 0 (pos 0));
  detector_counts = replicate (length was.detector_counts) 0;
  observable_counts = replicate (length was.observable_counts) 0;
  component_counts = replicate (length was.component_counts) 0;
  component_detectors = replicate (length was.component_detectors) 0;
  component_observables = replicate (length was.component_observables) 0;
  entries = replicate (length was.entries) 0;
}
