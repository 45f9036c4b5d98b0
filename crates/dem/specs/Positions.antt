-- Where a mechanism stands in the tables.
use Rattle.std.specs.Prelude.{ℕ, ◌+◌, ◌*◌, ◌≤◌, ◌≡◌, List, [], ◌∷◌, length, get_or, take, drop, Float}
use Rattle.std.specs.Float.{nan}
use Rattle.codes.specs.Limits.{max_mechanisms}
use Rattle.dem.specs.declared.Mechanism.{Mechanism}
use Rattle.dem.specs.declared.Place.{Place}
use Rattle.dem.specs.Model.{Symptom, ErrorMechanism}
use Rattle.dem.specs.Tables.{Tables, component_entries, first_of, first_entries, components_in, entries_in}

-- the seven slices as tables
abbrev pub tables : List Float → List ℕ → List ℕ → List ℕ → List ℕ → List ℕ → List ℕ → Tables
tables ps ds os cs cds cos es = record {
  probability = ps;
  detector_counts = ds;
  observable_counts = os;
  component_counts = cs;
  component_detectors = cds;
  component_observables = cos;
  entries = es;
}

-- the head of mechanism i, in the four columns
abbrev pub head_at : List Float → List ℕ → List ℕ → List ℕ → ℕ → Mechanism
head_at ps ds os cs i = record { probability = get_or ps i nan; detectors = get_or ds i 0; observables = get_or os i 0; components = get_or cs i 0 }

-- the same of tables
abbrev pub head_of : ℕ → Tables → Mechanism
head_of i t = head_at t.probability t.detector_counts t.observable_counts t.component_counts i

-- ---- at a place

-- the lists of d detectors and o observables at the front of the entries
abbrev pub symptom_at : ℕ → ℕ → List ℕ → Symptom
symptom_at d o es = record { detectors = take d es; observables = take o (drop d es) }

-- the head h, and the three other lists from the place p on
abbrev pub tables_at : Mechanism → Place → List ℕ → List ℕ → List ℕ → Tables
tables_at h p cds cos es =
    tables (h.probability ∷ []) (h.detectors ∷ []) (h.observables ∷ []) (h.components ∷ []) (drop p.component cds) (drop p.component cos)
    (drop p.entry es)

-- the mechanism with head h at p
unfoldable pub mechanism_at : Mechanism → Place → List ℕ → List ℕ → List ℕ → ErrorMechanism
unfolding first_of
mechanism_at h p cds cos es = first_of (tables_at h p cds cos es)

-- the place past it
unfoldable pub place_past : Mechanism → Place → List ℕ → List ℕ → Place
unfolding first_entries
place_past h p cds cos = record { component = p.component + h.components; entry = p.entry + first_entries (tables_at h p cds cos []) }

-- n components from number c on, with entries from e on, lie inside the tables
pub record Within (n c e : ℕ) (cds cos es : List ℕ) : Type 0 where
  pub detectors : c + n ≤ length cds
  pub observables : c + n ≤ length cos
  pub entries : e + component_entries n (drop c cds) (drop c cos) ≤ length es

-- and so do all lists of the mechanism with head h at p
abbrev pub Inside : Mechanism → Place → List ℕ → List ℕ → List ℕ → Type 0
Inside h p cds cos es = Within h.components p.component (p.entry + (h.detectors + h.observables)) cds cos es

-- ---- by number

-- where mechanism i begins: past the components and the entries of those before it
abbrev pub place_of : ℕ → Tables → Place
place_of i t = record { component = components_in i t; entry = entries_in i t }

-- the tables from mechanism i on
abbrev pub tables_from : ℕ → Tables → Tables
tables_from i t =
    tables (drop i t.probability) (drop i t.detector_counts) (drop i t.observable_counts) (drop i t.component_counts)
    (drop (components_in i t) t.component_detectors) (drop (components_in i t) t.component_observables) (drop (entries_in i t) t.entries)

-- ---- sums

-- the sum of a list
unfoldable pub total : List ℕ → ℕ
total [] = 0
total (x ∷ xs) = x + total xs

-- s is the sum of a list of bytes
pub record Summed (xs : List ℕ) (s : ℕ) : Type 0 where
  pub is : s ≡ total xs
  pub small : s ≤ 255 * length xs

-- the columns that positions go by
abbrev pub columns : List ℕ → List ℕ → List ℕ → List ℕ → List ℕ → Tables
columns ds os cs cds cos = tables [] ds os cs cds cos []

-- they hold n mechanisms and their components
pub record Counted (n : ℕ) (ds os cs cds cos : List ℕ) : Type 0 where
  pub few : n ≤ max_mechanisms
  pub detectors : n ≤ length ds
  pub observables : n ≤ length os
  pub components : n ≤ length cs
  pub component_detectors : total (take n cs) ≤ length cds
  pub component_observables : total (take n cs) ≤ length cos
