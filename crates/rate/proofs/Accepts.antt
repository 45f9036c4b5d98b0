-- What an accepted check of the rate leaves true: the check of a batch accepts, and the packing of the true observables.
use Rattle.std.specs.Prelude.{Ok}
use Prim.Native.Nat.{ℕ}
use mathlib.Core.Path.{◌≡◌}
use mathlib.Core.List.{List}
use mathlib.Core.Bool.{Bool, not, ◌&&◌}
use lib.Dec.{eqb}
use Rattle.lists.specs.Lists.{below}
use Rattle.codes.specs.declared.Refusal.TheVariants.{Short, Width}
use Rattle.codes.specs.Order.{Checked, refuse_if, and_then}
use Rattle.codes.specs.Limits.{check_counts, check_shots}
use Rattle.packed.specs.Packed.{check_packed}
use Rattle.steps.specs.Call.{check_edges}
use Rattle.codes.proofs.Checks.{then_accepted}
use Rattle.lent_graph.specs.Call.{Lent, graph_in, tables_in, check_rows, check_call}
use Rattle.rate.specs.Checks.{check_both, check_rate}

-- six checks that accept
accept_all : (a b c d e f : Checked) → a ≡ Ok tt → b ≡ Ok tt → c ≡ Ok tt → d ≡ Ok tt → e ≡ Ok tt → f ≡ Ok tt → and_then a (and_then b (and_then c (and_then d (and_then e f)))) ≡ Ok tt
accept_all a b c d e f p q r s t u = rw (p, q, r, s, t, u)

-- what an accepted call has
pub record Passed (l : Lent) (long : Bool) (rows : List ℕ) (shots width : ℕ) (truth : List ℕ) (true_shots true_width : ℕ) : Type 0 where
  -- a batch of the same shots is accepted
  pub call : check_call l long rows shots width ≡ Ok tt
  pub packing : check_packed truth true_shots true_width ≡ Ok tt

module _ (l : Lent) (long : Bool) (rows : List ℕ) (shots width : ℕ) (truth : List ℕ) (true_shots true_width : ℕ) where
  pub rate_accepted : check_rate l long rows shots width truth true_shots true_width ≡ Ok tt → Passed l long rows shots width truth true_shots true_width
  unfolding check_rate check_both check_call check_rows
  rate_accepted h =
      let last = refuse_if (not (eqb width l.detectors)) Width in
      let packings = and_then (check_packed rows shots width) (and_then (check_packed truth true_shots true_width) last) in
      let graph = and_then (check_edges (graph_in l) (below l.edges)) packings in
      let short = refuse_if (not (tables_in l && long)) Short in
      let (a, p) = then_accepted (check_counts l.detectors l.observables l.edges) (and_then (check_shots shots) (and_then (check_shots true_shots) (and_then short graph))) h in
      let (b, q) = then_accepted (check_shots shots) (and_then (check_shots true_shots) (and_then short graph)) p in
      let (c, r) = then_accepted (check_shots true_shots) (and_then short graph) q in
      let (s, t) = then_accepted short graph r in
      let (e, u) = then_accepted (check_edges (graph_in l) (below l.edges)) packings t in
      let (k, v) = then_accepted (check_packed rows shots width) (and_then (check_packed truth true_shots true_width) last) u in
      let (m, w) = then_accepted (check_packed truth true_shots true_width) last v in
      record {
        call = accept_all (check_counts l.detectors l.observables l.edges) (check_shots shots) short (check_edges (graph_in l) (below l.edges)) (check_packed rows shots width) last a b s e k w;
        packing = m;
      }
