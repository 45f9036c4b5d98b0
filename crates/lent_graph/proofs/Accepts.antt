-- What an accepted call leaves true, proved.
use Rattle.std.specs.Prelude.{Ok}
use Prim.Native.Nat.{ℕ, ◌*◌, ◌≤◌, ◌<◌}
use native.Mathlib.Omega.{arith}
use mathlib.Core.Path.{◌≡◌, ◌∙◌}
use mathlib.Core.List.{List, []}
use mathlib.Core.Bool.{Bool, true, not, ◌&&◌}
use lib.Dec.{eqb}
use lib.ListN.{length, get_or, take, drop}
use lib.Seq.{length-take-le, get_or-take}
use borrow.Author.Tests.{eqb-true, not-false}
use Rattle.lists.specs.Lists.{below}
use Rattle.lists.proofs.Truth.{and_left, and_right}
use Rattle.lists.proofs.Members.{get_d_any, get_d_below}
use Rattle.bits.specs.Rows.{words}
use Rattle.codes.specs.declared.Refusal.TheVariants.{Short, Width}
use Rattle.codes.specs.Order.{refuse_if, and_then}
use Rattle.codes.specs.Limits.{check_counts, check_shots}
use Rattle.packed.specs.Packed.{check_packed}
use Rattle.packed.specs.Laws.{Sound}
use Rattle.packed.proofs.Laws.{accepted_sound, row_ends, row_long}
use Rattle.steps.specs.Graph.{boundary}
use Rattle.steps.specs.Call.{graph_of, check_edges, AcceptedGraph}
use Rattle.found.proofs.Accepted.{accepted_ends, accepted_rows}
use Rattle.lent_graph.specs.Lent.{check_lent}
use Rattle.codes.proofs.Checks.{then_accepted, if_accepted, counts_within}
use Rattle.lent_graph.proofs.Laws.{Long, long, lent_accepted}
use Rattle.lent_graph.specs.Call.{Lent, graph_in, tables_in, check_rows, check_call}
use Rattle.lent_graph.specs.Accepts.{EdgeIn, CallAccepted}

-- ---- the tests, one by one

record Tests (l : Lent) (own : Bool) (rows : List ℕ) (shots width : ℕ) : Type 0 where
  counts : check_counts l.detectors l.observables l.edges ≡ Ok tt
  tables : tables_in l ≡ true
  own_long : own ≡ true
  edges : check_edges (graph_in l) (below l.edges) ≡ Ok tt
  pack : check_packed rows shots width ≡ Ok tt
  wide : width ≡ l.detectors

tests : (l : Lent) (own : Bool) (rows : List ℕ) (shots width : ℕ) → check_call l own rows shots width ≡ Ok tt → Tests l own rows shots width
unfolding check_call check_rows
tests l own rows shots width h =
    let d = l.detectors in
    let last = refuse_if (not (eqb width d)) Width in
    let pack = and_then (check_packed rows shots width) last in
    let graph = and_then (check_edges (graph_in l) (below l.edges)) pack in
    let short = refuse_if (not (tables_in l && own)) Short in
    let (a, p) = then_accepted (check_counts d l.observables l.edges) (and_then (check_shots shots) (and_then short graph)) h in
    let (b, q) = then_accepted (check_shots shots) (and_then short graph) p in
    let (s, r) = then_accepted short graph q in
    let (e, t) = then_accepted (check_edges (graph_in l) (below l.edges)) pack r in
    let (k, w) = then_accepted (check_packed rows shots width) last t in
    let both = not-false (tables_in l && own) (if_accepted (not (tables_in l && own)) Short s) in
    record {
      counts = a;
      tables = and_left (tables_in l) own both;
      own_long = and_right (tables_in l) own both;
      edges = e;
      pack = k;
      wide = eqb-true width d (not-false (eqb width d) (if_accepted (not (eqb width d)) Width w));
    }

-- ---- the graph

-- an entry among the first n of a table
pub entry : (table : List ℕ) (n e y z : ℕ) → n ≤ length table → e < n → get_or (take n table) e y ≡ get_or table e z
entry table n e y z k h = get_or-take n table e y h ∙ get_d_any table e y z (omega arith)

module _ (l : Lent) where
  abbrev L : Type 0
  L = Long l.observables l.edges l.u l.v l.weight l.obs

  counted : L → length (graph_in l).edge_u ≡ l.edges
  unfolding graph_of
  counted t = length-take-le l.edges l.u t.ends

  whole : check_counts l.detectors l.observables l.edges ≡ Ok tt → tables_in l ≡ true → check_edges (graph_in l) (below l.edges) ≡ Ok tt → AcceptedGraph (graph_in l)
  unfolding check_lent
  whole a t e = lent_accepted l.detectors l.observables l.edges l.u l.v l.weight l.obs (rw (a, t) e)

  edge_in : L → AcceptedGraph (graph_in l) → (e : ℕ) → e < l.edges → EdgeIn l e
  unfolding graph_of
  edge_in t a e h =
      let n = l.edges in
      let w = words l.observables in
      let (long, clear) = accepted_rows (graph_in l) a e (rw (counted t) h) in
      record {
        first = entry l.u n e boundary 0 t.ends h;
        second = entry l.v n e boundary 0 t.others h;
        row = get_d_below (λ j. take w (drop (j * w) l.obs)) [] n e h;
        row_long = long;
        row_clear = clear;
      }

-- ---- all of it

pub call_accepted : CallAccepted
call_accepted l own rows shots width h =
    let t = tests l own rows shots width h in
    let d = l.detectors in
    let k = counts_within d l.observables l.edges t.counts in
    let m = long l.observables l.edges l.u l.v l.weight l.obs t.tables in
    let a = whole l t.counts t.tables t.edges in
    let s : Sound rows shots d = rw t.wide at (accepted_sound rows shots width t.pack) in
    record {
      few_detectors = k.0;
      few_observables = k.1;
      few_edges = k.2;
      few_shots = s.few;
      u_long = m.ends;
      v_long = m.others;
      weight_long = m.weights;
      obs_long = m.rows;
      own_long = t.own_long;
      graph = a;
      ends = accepted_ends (graph_in l) a;
      counted = counted l m;
      edge = edge_in l m a;
      wide = t.wide;
      rows_long = s.long;
      row_ends = λ i b. row_ends rows shots d i s b;
      row_long = λ i b. row_long rows shots d i s b;
      row_clear = s.clear;
    }
