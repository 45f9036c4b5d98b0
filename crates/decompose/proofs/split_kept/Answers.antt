-- `decompose::split_kept`: a refusal is the answer; else what was appended is written.
use Rattle.std.proofs.Common.{rules}
use mathlib.Core.Path.{refl}
use Rattle.decompose.proofs.Growing.{grew, stopped, fits, appendable, made, made_as}
use Rattle.decompose.proofs.split_kept.Goals as goal

pub returns-in_err-grown-clause-made : goal.returns-in_err-grown-clause-made
returns-in_err-grown-clause-made c = λ old e. stopped _ _ _ _ _ _ _ _ _ _ c.in_err-grown.field-0.0 _ old _ c.in_err-grown.ensures.split (search rules)

pub finish-requires : goal.finish-requires
finish-requires c =
    let g = grew _ _ _ _ _ _ _ _ _ _ c.in_ok-grown.grown c.in_ok-grown.ensures.split in
    (appendable g c.requires.roomy, fits g c.requires.roomy)

pub returns-clause-made : goal.returns-clause-made
returns-clause-made c =
    let g = grew _ _ _ _ _ _ _ _ _ _ c.in_ok-grown.grown c.in_ok-grown.ensures.split in
    λ old e. made_as _ _ _ _ _ _ _ _ _ _ _ _ _ (search rules) (search rules) (search rules)
    (made g c.requires.roomy old _ _ _ _ _ refl e _ _ _ c.finish.ensures)
