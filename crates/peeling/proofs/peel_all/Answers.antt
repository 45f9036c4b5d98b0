-- `peeling::peel_all` meets its contract. Assumes nothing.
use mathlib.Core.Path.{refl, ◌∙◌}
use mathlib.Core.List.{[], ◌∷◌}
use native.Mathlib.Omega.{arith}
use Rattle.columns.proofs.Columns.{column_length, keep_length, keep_none, keep_more, keep_then}
use Rattle.cells.specs.Tables.{flag_column, frees}
use Rattle.cells.proofs.Stores.{read_free}
use Rattle.walks.proofs.Rows.{moved}
use Rattle.peeling.proofs.Fields.{defect_found}
use Rattle.peeling.proofs.Order.{start_peel, end_peel, x_in, turn_met, fresh, turn_peel, same_then}
use Rattle.peeling.proofs.peel_all.Goals.{then-not-met, else-not-met}
use Rattle.peeling.proofs.peel_all.Goals as goal

pub loop-i-init : goal.loop-i-init
loop-i-init c = (
  start_peel c.requires.tabled c.requires.grown c.requires.lit,
  record { down = c.requires.down; kept = refl; size = refl },
  keep_more (0 ∷ []) refl (keep_none c.args.tree.now),
  keep_more (0 ∷ 4 ∷ []) refl (keep_none c.args.flags.now),
  keep_more (2 ∷ 3 ∷ 4 ∷ 5 ∷ []) refl (keep_none c.args.stacks.now),
)

pub bounds-flags-x : goal.bounds-flags-x
bounds-flags-x c = rw (defect_found c.loop-i.invariant.4) (omega (arith, x_in c.requires.tabled c.requires.grown c.requires.lit c.loop-i.invariant.0 c.loop-i-test.true, c.requires.tabled.mets, c.loop-i.invariant.0.mets, column_length flag_column 4 c.loop-i.flags))

pub peel_cluster-listed-requires-clause-grown : goal.peel_cluster-listed-requires-clause-grown
peel_cluster-listed-requires-clause-grown c = rw (c.loop-i.invariant.1.kept, c.loop-i.invariant.2.rest 1 refl) c.requires.grown

pub peel_cluster-listed-requires-clause-fresh : goal.peel_cluster-listed-requires-clause-fresh
peel_cluster-listed-requires-clause-fresh c =
    rw (c.loop-i.invariant.1.kept, defect_found c.loop-i.invariant.4) (fresh c.requires.tabled c.requires.grown c.requires.lit c.loop-i.invariant.0 c.loop-i-test.true (moved (frees c.loop-i.flags) (defect_found c.loop-i.invariant.4 c.loop-i.i) (read_free c.loop-i.flags _ ∙ c.if-not-met.true)))

pub loop-i-preserved : goal.loop-i-preserved
loop-i-preserved c = elim c.if-not-met.branch [
  | then-not-met w ↦
      let p = w.peel_cluster-listed in
      rw (w.tree-is, w.flags-is, w.stacks-is, w.list-is, w.listed-is) (
        turn_peel c.requires.tabled c.requires.grown c.requires.lit c.loop-i.invariant.0 c.loop-i-test.true (moved (frees c.loop-i.flags) (defect_found c.loop-i.invariant.4 c.loop-i.i) (read_free c.loop-i.flags _ ∙ w.if-not-met.true)) (rw (c.loop-i.invariant.1.kept, defect_found c.loop-i.invariant.4) at p.ensures.done) (keep_length p.ensures.same_tree.1 4) (keep_length p.ensures.same_tree.1 0) (keep_length p.ensures.same_tree.2 3) (keep_length p.ensures.same_tree.2 2) (keep_length p.ensures.same_tree.2 4) (keep_length p.ensures.same_tree.2 5) p.auto.list,
        same_then c.loop-i.invariant.1 p.ensures.same,
        keep_then c.loop-i.invariant.2 p.ensures.same_tree.0,
        keep_then c.loop-i.invariant.3 p.ensures.same_tree.1,
        keep_then c.loop-i.invariant.4 p.ensures.same_tree.2,
      )
  | else-not-met w ↦
      rw (w.tree-is, w.flags-is, w.stacks-is, w.list-is, w.listed-is) (turn_met c.requires.tabled c.requires.grown c.requires.lit c.loop-i.invariant.0 c.loop-i-test.true (moved (frees c.loop-i.flags) (defect_found c.loop-i.invariant.4 c.loop-i.i) (read_free c.loop-i.flags _ ∙ w.if-not-met.false)), c.loop-i.invariant.1, c.loop-i.invariant.2, c.loop-i.invariant.3, c.loop-i.invariant.4)
]

pub returns-clause-listed : goal.returns-clause-listed
returns-clause-listed c = end_peel c.requires.tabled c.requires.grown c.requires.lit c.loop-i.invariant.0 c.loop-i-test.false
