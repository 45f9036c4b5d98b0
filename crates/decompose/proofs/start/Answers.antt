-- `decompose::start`: the kept mechanisms as they were copied, then both kinds of chains.
use mathlib.Core.Path.{refl}
use native.Mathlib.Omega.{arith}
use Rattle.decompose.proofs.Starting.{small, kept_few, kept_tabled}
use Rattle.decompose.proofs.start.Goals as goal

pub copy_kept-kept-requires : goal.copy_kept-kept-requires
copy_kept-kept-requires c =
    let r = c.requires in
    record { holds = r.fitting.holds; columns = r.columns; lists = r.lists; small = small r.fitting; started = r.starts_hold }

pub index_last-requires : goal.index_last-requires
index_last-requires c =
    let few = kept_few c.copy_kept-kept.ensures.copied c.requires.fitting in
    (kept_tabled c.copy_kept-kept.ensures.copied c.requires.fitting _ refl, omega (arith, few, c.requires.before_hold))

pub index_kept-requires : goal.index_kept-requires
index_kept-requires c =
    let few = kept_few c.copy_kept-kept.ensures.copied c.requires.fitting in
    (kept_tabled c.copy_kept-kept.ensures.copied c.requires.fitting _ c.requires.wide, omega (arith, few, c.requires.next_hold))
