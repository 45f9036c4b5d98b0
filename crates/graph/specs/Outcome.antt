-- What a call of `from_model` comes to: docs/RULES.md, "Refusals".
use Rattle.std.specs.Prelude.{Result, Ok, Err}
use Rattle.codes.specs.declared.Refusal.{Refusal}
use Rattle.std.specs.Prelude.{ℕ, ◌≡◌, List, [], ◌∷◌, Bool, false, not, ◌&&◌, leb, pos, length, replicate}
use Rattle.std.specs.Float.{fin}
use Rattle.codes.specs.Codes.{Sheet, refusal_row, success_row}
use Rattle.codes.specs.declared.Refusal.TheVariants.{Short}
use Rattle.codes.specs.Order.{Checked, refuse_if, and_then}
use Rattle.codes.specs.Limits.{check_counts}
use Rattle.dem.specs.Tables.{Tables, model_of, tables_hold, written}
use Rattle.lent_graph.specs.Lent.{tables_long}
use Rattle.edges.specs.Compile.{Edge, Edges, into, refused, compile, graph_by}
use Rattle.edges.specs.Tables.{Slices, flat, filled}
use Rattle.edges.specs.Chains.{Chained}

-- ---- the answer, and what is left

-- the sheet's number and values for each case of the answer: how many edges
abbrev pub sheet_of : Result ℕ Refusal → Sheet
sheet_of (Ok n) = success_row (n ∷ [])
sheet_of (Err r) = refusal_row r

-- and for what the call comes to
unfoldable pub call_row : Edges → Sheet
call_row (into es) = success_row (length es ∷ [])
call_row (refused r) = refusal_row r

-- edges: how many; or the refusal
unfoldable pub answer_of : Edges → Result ℕ Refusal
answer_of (into es) = Ok (length es)
answer_of (refused r) = Err r

-- a table of the graph: its column, then the old contents; after a refusal zero, whole
unfoldable pub table_left : {A : Type 0} → A → (List Edge → List A) → Edges → List A → List A
table_left z column (into es) was = written (column es) was
table_left z column (refused r) was = replicate (length was) z

-- ---- 1 and 2

-- an entry for each of the m mechanisms in each output and in two scratch slices, and one for each detector in the third
unfoldable pub slices_long : ℕ → ℕ → ℕ → Slices → List ℕ → List ℕ → Bool
unfolding tables_long
slices_long d o m out first next =
    tables_long o m out.edge_u out.edge_v out.edge_weight out.edge_obs
    && (leb m (length out.edge_p) && (leb d (length first) && leb m (length next)))

-- the limits, then every slice
unfoldable pub check_slices : ℕ → ℕ → ℕ → Tables → Slices → List ℕ → List ℕ → Checked
unfolding check_counts tables_hold slices_long
check_slices d o m t out first next = and_then (check_counts d o m) (refuse_if (not (tables_hold m t && slices_long d o m out first next)) Short)

abbrev pub only_then : Checked → Edges → Edges
only_then (Ok tt) r = r
only_then (Err x) r = refused x

-- then per mechanism in order
unfoldable pub outcome : ℕ → ℕ → ℕ → Tables → Slices → List ℕ → List ℕ → Edges
unfolding check_slices compile model_of
outcome d o m t out first next = only_then (check_slices d o m t out first next) (compile d o (model_of m t))

-- the answer and every table of the graph; the scratch slices may hold anything
pub record Compiles (d o : ℕ) (e : Edges) (r : Result ℕ Refusal) (entry exit : Slices) : Type 0 where
  pub sheet : sheet_of r ≡ call_row e
  pub answer : r ≡ answer_of e
  pub ends : exit.edge_u ≡ table_left 0 (λ es. (graph_by d o es).edge_u) e entry.edge_u
  pub others : exit.edge_v ≡ table_left 0 (λ es. (graph_by d o es).edge_v) e entry.edge_v
  pub weights : exit.edge_weight ≡ table_left (fin false 0 (pos 0)) (λ es. (graph_by d o es).edge_weight) e entry.edge_weight
  pub rows : exit.edge_obs ≡ table_left 0 (λ es. flat (graph_by d o es).edge_obs) e entry.edge_obs

-- ---- on the way

-- edges in the tables and their number as the answer; or the refusal
abbrev pub Joined : ℕ → Edges → Result ℕ Refusal → Slices → Slices → Type 0
Joined o (into es) r was exit = (r ≡ Ok (length es)) × (exit ≡ filled o es was)
Joined o (refused x) r was exit = r ≡ Err x

-- where the n edges at the front of the tables are es, what is joined to them is `next es`
abbrev pub Joins : ℕ → ℕ → (List Edge → Edges) → Result ℕ Refusal → Slices → Slices → Type 0
Joins o n next r entry exit = (es : List Edge) (was : Slices) → length es ≡ n → entry ≡ filled o es was → Joined o (next es) r was exit

-- the edges are in their chains
abbrev pub ChainedBy : Result ℕ Refusal → Slices → List ℕ → List ℕ → Type 0
ChainedBy (Ok n) t first next = Chained n t.edge_u t.edge_v first next
ChainedBy (Err r) t first next = Unit {0}
