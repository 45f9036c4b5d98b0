-- The law of the check, proved. Assumes nothing.
use Prim.Native.Nat.{ℕ, ◌*◌, ◌≤◌}
use native.Mathlib.Omega.{arith}
use mathlib.Core.Path.{◌≡◌, sym, ◌∙◌}
use mathlib.Core.List.{List}
use mathlib.Core.Bool.{true, not}
use lib.Ieee.{Float}
use lib.ListN.{length, take}
use lib.Seq.{length-take-le}
use borrow.Author.Tests.{not-false}
use Rattle.lists.specs.Lists.{below}
use Rattle.lists.proofs.Members.{length_below}
use Rattle.bits.specs.Rows.{words}
use Rattle.codes.specs.declared.Refusal.TheVariants.{Short}
use Rattle.codes.specs.Order.{refuse_if, and_then}
use Rattle.codes.specs.Limits.{check_counts}
use Rattle.steps.specs.Call.{graph_of, check_edges}
use Rattle.lent_graph.specs.Lent.{tables_long, check_lent}
use Rattle.lent_graph.specs.Laws.{LentAccepted}
use Rattle.lent_graph.proofs.Edges.{length_map}
use Rattle.codes.proofs.Checks.{then_accepted, if_accepted}

-- tables that are long enough
pub record Long (o edges : ℕ) (u v : List ℕ) (weight : List Float) (obs : List ℕ) : Type 0 where
  pub ends : edges ≤ length u
  pub others : edges ≤ length v
  pub weights : edges ≤ length weight
  pub rows : edges * words o ≤ length obs

module _ (o edges : ℕ) (u v : List ℕ) (weight : List Float) (obs : List ℕ) where
  pub long : tables_long o edges u v weight obs ≡ true → Long o edges u v weight obs
  unfolding tables_long
  long h = record { ends = grind arith; others = grind arith; weights = grind arith; rows = grind arith }

pub lent_accepted : LentAccepted
unfolding check_lent graph_of
lent_accepted d o edges u v weight obs h =
    let g = graph_of d o edges u v weight obs in
    let t = tables_long o edges u v weight obs in
    let (p, q) = then_accepted (check_counts d o edges) (and_then (refuse_if (not t) Short) (check_edges g (below edges))) h in
    let (s, r) = then_accepted (refuse_if (not t) Short) (check_edges g (below edges)) q in
    let l = long o edges u v weight obs (not-false t (if_accepted (not t) Short s)) in
    let n : length (take edges u) ≡ edges = length-take-le edges u l.ends in
    record {
      limits = rw n p;
      ends_table = length-take-le edges v l.others ∙ sym n;
      weight_table = length-take-le edges weight l.weights ∙ sym n;
      obs_table = length_map _ (below edges) ∙ length_below edges ∙ sym n;
      passes = rw n r;
    }
