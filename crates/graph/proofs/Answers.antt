-- The answer of a call, and what it leaves.
use Rattle.std.specs.Prelude.{Ok, Err}
use Prim.Native.Nat.{ℕ}
use mathlib.Core.Path.{◌≡◌, refl, ap, ◌∙◌}
use mathlib.Core.List.{List}
use mathlib.Core.Bool.{false}
use lib.IntN.{pos}
use lib.Ieee.{fin}
use lib.ListN.{length, replicate}
use Rattle.codes.specs.declared.Refusal.{Refusal}
use Rattle.dem.specs.Tables.{Tables, model_of}
use Rattle.edges.specs.Compile.{Edges, into, refused, compile, graph_by}
use Rattle.edges.specs.Tables.{Slices, filled}
use Rattle.graph.specs.Outcome.{sheet_of, call_row, answer_of, table_left, check_slices, outcome, Compiles, Joined}

-- the limits and the slices: a refusal
pub outcome_refused : (d o m : ℕ) (t : Tables) (out : Slices) (first next : List ℕ) (x : Refusal) → check_slices d o m t out first next ≡ Err x → outcome d o m t out first next ≡ refused x
unfolding outcome
outcome_refused d o m t out first next x h = rw h

-- or the mechanisms' edges
pub outcome_edges : (d o m : ℕ) (t : Tables) (out : Slices) (first next : List ℕ) → check_slices d o m t out first next ≡ Ok tt → outcome d o m t out first next ≡ compile d o (model_of m t)
unfolding outcome
outcome_edges d o m t out first next h = rw h

-- the answer on the sheet
on_sheet : (e : Edges) → sheet_of (answer_of e) ≡ call_row e
unfolding call_row answer_of
on_sheet (into es) = refl
on_sheet (refused r) = refl

module _ (d o : ℕ) (entry exit : Slices) where
  -- a refusal leaves zero, whatever was left on the way
  pub zero_left : (e : Edges) (x : Refusal) (between : Slices) → Joined o e (Err x) entry between → exit.edge_u ≡ replicate (length entry.edge_u) 0
      → exit.edge_v ≡ replicate (length entry.edge_v) 0 → exit.edge_weight ≡ replicate (length entry.edge_weight) (fin false 0 (pos 0))
      → exit.edge_obs ≡ replicate (length entry.edge_obs) 0 → Compiles d o e (Err x) entry exit
  unfolding answer_of table_left
  zero_left (into es) x between (a, b) u v w rows = cc
  zero_left (refused y) x between a u v w rows = record { sheet = ap sheet_of a ∙ on_sheet (refused y); answer = a; ends = u; others = v; weights = w; rows = rows }

  -- edges stand in their tables
  pub edges_left : (e : Edges) (n : ℕ) → Joined o e (Ok n) entry exit → Compiles d o e (Ok n) entry exit
  unfolding answer_of table_left filled graph_by
  edges_left (refused x) n a = cc
  edges_left (into es) n (a, b) = record {
    sheet = ap sheet_of a ∙ on_sheet (into es);
    answer = a;
    ends = ap (λ (s : Slices). s.edge_u) b;
    others = ap (λ (s : Slices). s.edge_v) b;
    weights = ap (λ (s : Slices). s.edge_weight) b;
    rows = ap (λ (s : Slices). s.edge_obs) b;
  }
