-- `peeling::peel_cluster` meets its contract. Assumes nothing.
use mathlib.Core.Path.{refl, ◌∙◌}
use Rattle.columns.proofs.Columns.{keep_length}
use Rattle.peeling.proofs.Fields.{exit_found}
use Rattle.peeling.proofs.Peels.{exit_known, start_in, start_new, unwindable, start_lives, close_fits, done}
use Rattle.peeling.proofs.peel_cluster.Goals as goal

pub start_of-s-requires : goal.start_of-s-requires
start_of-s-requires c =
    rw (exit_found c.find-a.ensures.1 c.find-a.result) (exit_known c.requires.tabled c.requires.grown c.requires.fresh c.find-a.result c.find-a.ensures.0.is)

pub walk-n-requires-clause-start_lt_d : goal.walk-n-requires-clause-start_lt_d
walk-n-requires-clause-start_lt_d c = (start_in c.requires.tabled c.requires.grown c.requires.fresh c.find-a.result c.find-a.ensures.0.is c.start_of-s.result (rw (exit_found c.find-a.ensures.1 c.find-a.result) at c.start_of-s.ensures), start_new c.requires.tabled c.requires.grown c.requires.fresh c.find-a.result c.find-a.ensures.0.is c.start_of-s.result (rw (exit_found c.find-a.ensures.1 c.find-a.result) at c.start_of-s.ensures))

pub unwind-at-requires : goal.unwind-at-requires
unwind-at-requires c =
    record {
      unwindable = rw (c.walk-n.ensures.same_flags.0.rest 0 refl) (unwindable c.requires.tabled c.requires.grown c.requires.fresh c.find-a.result c.find-a.ensures.0.is c.start_of-s.result (rw (exit_found c.find-a.ensures.1 c.find-a.result) at c.start_of-s.ensures) c.walk-n.ensures.gone (keep_length c.walk-n.ensures.same_flags.1 2) (keep_length c.walk-n.ensures.same_flags.1 4) (keep_length c.walk-n.ensures.same_flags.1 5));
    }

pub close-requires : goal.close-requires
close-requires c =
    (start_lives c.requires.tabled c.requires.grown c.requires.fresh c.find-a.result c.find-a.ensures.0.is c.start_of-s.result (rw (exit_found c.find-a.ensures.1 c.find-a.result) at c.start_of-s.ensures) c.walk-n.ensures.gone (rw (c.walk-n.ensures.same_flags.0.rest 0 refl) at c.unwind-at.ensures.unwound) (keep_length c.unwind-at.ensures.same_flags 0 ∙ keep_length c.walk-n.ensures.same_flags.0 0), close_fits c.requires.tabled c.requires.grown c.requires.fresh c.find-a.result c.find-a.ensures.0.is c.start_of-s.result (rw (exit_found c.find-a.ensures.1 c.find-a.result) at c.start_of-s.ensures) c.walk-n.ensures.gone (rw (c.walk-n.ensures.same_flags.0.rest 0 refl) at c.unwind-at.ensures.unwound) c.unwind-at.auto.list)

pub returns-clause-done : goal.returns-clause-done
returns-clause-done c = rw (c.close.ensures.same_flags.rest 4 refl, c.unwind-at.ensures.same_flags.rest 4 refl) (done c.requires.tabled c.requires.grown c.requires.fresh c.find-a.result c.find-a.ensures.0.is c.start_of-s.result (rw (exit_found c.find-a.ensures.1 c.find-a.result) at c.start_of-s.ensures) c.walk-n.ensures.gone (rw (c.walk-n.ensures.same_flags.0.rest 0 refl) at c.unwind-at.ensures.unwound) (rw (exit_found c.find-a.ensures.1 c.find-a.result) at c.close.ensures.closed))
