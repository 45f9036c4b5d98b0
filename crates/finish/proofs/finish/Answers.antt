-- `finish::finish` meets its contract. Assumes nothing.
use mathlib.Core.Path.{refl}
use native.Mathlib.Omega.{arith}
use Rattle.columns.proofs.Columns.{keep_length}
use Rattle.finish.proofs.Ends.{edges, places, finished}
use Rattle.finish.proofs.finish.Goals as goal

pub xor_edge_observables-requires : goal.xor_edge_observables-requires
xor_edge_observables-requires c =
    edges c.requires.tabled c.requires.grown c.requires.lit c.requires.settles c.peel_all-r.ensures.listed _ (omega arith)

pub unmark-requires : goal.unmark-requires
unmark-requires c =
    rw (c.peel_all-r.ensures.same_tree.2.rest 1 refl) (places c.requires.tabled c.requires.grown c.requires.lit c.requires.settles c.peel_all-r.ensures.listed (keep_length c.peel_all-r.ensures.same_tree.1 4))

pub returns-clause-finished : goal.returns-clause-finished
returns-clause-finished c = rw (c.unmark.ensures.1.rest 0 refl) (finished c.requires.tabled c.requires.grown c.requires.lit c.requires.settles c.peel_all-r.ensures.listed (keep_length c.peel_all-r.ensures.same_tree.1 4) c.xor_edge_observables.ensures (rw (c.peel_all-r.ensures.same_tree.2.rest 1 refl) at c.unmark.ensures.0))
