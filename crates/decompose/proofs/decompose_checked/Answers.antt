-- `decompose::decompose_checked`: splitting begins where copying ends.
use mathlib.Core.Path.{sym, ◌∙◌}
use native.Mathlib.Omega.{arith}
use Rattle.dem.proofs.Lent.{same_then}
use Rattle.decompose.proofs.Starting.{part_long, startable, roomy, begun}
use Rattle.decompose.proofs.decompose_checked.Goals as goal

pub start-kept-requires : goal.start-kept-requires
start-kept-requires c = startable c.requires

pub split_kept-requires : goal.split_kept-requires
split_kept-requires c =
    let r = c.requires in
    let done = c.start-kept.ensures.started in
    let same = c.start-kept.ensures.same_output in
    let x = c.start-kept.ensures.same_chains in
    let w = x.last_of_long ∙ part_long _ _ r.last_hold in
    record {
      begun = begun done.copied r.fitting r.places r.columns r.lists w done (x.first_of_long ∙ part_long _ _ r.first_hold ∙ sym w) (omega (arith, r.starts_hold, x.starts_long)) (omega (arith, r.before_hold, x.before_long)) (omega (arith, r.next_hold, x.next_of_long)) r.numbers_hold r.masks_hold r.words0_hold r.words1_hold r.earlier_hold same.probability_long same.detector_counts_long same.observable_counts_long;
      roomy = roomy done.copied r.fitting r.places r.columns r.lists same.component_counts_long same.entries_long;
    }

pub returns-clause-same_output : goal.returns-clause-same_output
returns-clause-same_output c = same_then c.start-kept.ensures.same_output c.split_kept.ensures.same_output
