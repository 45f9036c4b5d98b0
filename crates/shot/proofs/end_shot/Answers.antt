-- `shot::end_shot` meets its contract. Assumes nothing.
use mathlib.Core.Path.{refl}
use Rattle.columns.proofs.Columns.{keep_length}
use Rattle.shot.proofs.Ends.{used, ended}
use Rattle.shot.proofs.end_shot.Goals as goal

pub finish-r-requires : goal.finish-r-requires
finish-r-requires c =
    record {
      tabled = c.requires.tabled;
      down = c.requires.down;
      grown = c.requires.grown;
      lit = c.requires.lit;
      settles = c.requires.settles;
    }

pub clean-requires : goal.clean-requires
clean-requires c =
    record {
      cleaning = rw (c.finish-r.ensures.same_tree.2.rest 1 refl) c.requires.cleaning;
      used = rw (c.finish-r.ensures.same_tree.2.rest 1 refl, c.finish-r.ensures.same_tree.1.rest 1 refl, c.finish-r.ensures.same_tree.1.rest 2 refl, c.finish-r.ensures.same_tree.1.rest 3 refl, c.finish-r.ensures.same_tree.0.rest 1 refl) (used c.finish-r.ensures.finished c.requires.down c.finish-r.ensures.same c.requires.used (keep_length c.finish-r.ensures.same_tree.1 4));
    }

pub returns-clause-finished : goal.returns-clause-finished
returns-clause-finished c = ended c.finish-r.ensures.finished c.requires.down c.finish-r.ensures.same c.clean.ensures.clean
