-- What is copied of the columns: docs/RULES.md, "Decomposition": mechanisms of 0, 1 or 2 detectors are kept, in order, with their components.
use Rattle.std.specs.Prelude.{ℕ, zero, suc, ◌-◌, ◌<◌, ◌≤◌, ◌≡◌, List, [], ◌∷◌, ◌++◌, true, cond, length, get_or, take, drop, leb}
use Rattle.std.specs.Float.{nan}
use Rattle.dem.specs.Positions.{tables, total}
use Rattle.dem.specs.Tables.{Tables, entries_in, tables_hold, written}

module _ {A : Type 0} where
  -- of the first n mechanisms, what f tells of those with at most two detectors
  unfoldable pub kept_by : ℕ → List ℕ → (ℕ → A) → List A
  kept_by zero ds f = []
  kept_by (suc n) ds f = kept_by n ds f ++ cond (leb (get_or ds n 0) 2) (f n ∷ []) []

  -- the same of a column
  abbrev pub kept_column : A → ℕ → List ℕ → List A → List A
  kept_column z n ds xs = kept_by n ds (λ k. get_or xs k z)

  -- and of parts: that of mechanism i begins at start i and ends where the next begins
  unfoldable pub kept_parts : ℕ → List ℕ → (ℕ → ℕ) → List A → List A
  kept_parts zero ds start xs = []
  kept_parts (suc n) ds start xs = kept_parts n ds start xs ++ cond (leb (get_or ds n 0) 2) (take (start (suc n) - start n) (drop (start n) xs)) []

  -- the list is at the front of the table, and nothing else of it is touched
  pub record Copied (new was : List A) (count : ℕ) (after : List A) : Type 0 where
    pub counted : count ≡ length new
    pub copied : after ≡ written new was

-- tables that hold n mechanisms, with entries that a u32 counts, and room for them in two others
pub record Sized (n : ℕ) (t : Tables) (out starts : List ℕ) : Type 0 where
  pub holds : tables_hold n t ≡ true
  pub small : entries_in n t < 4294967296
  pub room : entries_in n t ≤ length out
  pub started : n ≤ length starts

-- the entries of the kept mechanisms and their starts, at the front of the two others
pub record Listed (n : ℕ) (t : Tables) (out starts : List ℕ) (count : ℕ) (out' starts' : List ℕ) : Type 0 where
  pub copied : Copied (kept_parts n t.detector_counts (λ i. entries_in i t) t.entries) out count out'
  pub marked : starts' ≡ written (kept_by n t.detector_counts (λ i. entries_in i t)) starts

-- the tables of the kept mechanisms
unfoldable pub kept_tables : ℕ → Tables → Tables
unfolding kept_by kept_parts
kept_tables n t =
    let ds = t.detector_counts in
    let part : ℕ → ℕ = λ i. total (take i t.component_counts) in
    tables (kept_column nan n ds t.probability) (kept_column 0 n ds ds) (kept_column 0 n ds t.observable_counts) (kept_column 0 n ds t.component_counts)
    (kept_parts n ds part t.component_detectors) (kept_parts n ds part t.component_observables) (kept_parts n ds (λ i. entries_in i t) t.entries)
