-- `splits::add_cover`: the members of the cover are kept mechanisms.
use native.Mathlib.Omega.{arith}
use Rattle.splits.proofs.Covers.{told_below}
use Rattle.splits.proofs.add_cover.Goals as goal

pub raise_all-requires : goal.raise_all-requires
raise_all-requires c = λ i l. let b = told_below c.args.ms.now.starts.now c.args.ms.now.detector_counts.now c.args.ms.now.observable_counts.now c.args.entries.now c.args.index.now.kept _ _ c.find_cover.new.chosen c.in_ok-n.n c.in_ok-n.ensures.found i l in omega (arith, b, c.requires.1.probable)
