-- `cover::partition_cover` meets its contract: the search over the candidates finds the first cover.
use Rattle.std.proofs.Common.{length, ◌∙◌, arith, rules}
use Rattle.std.specs.Int.Count.{ones-le}
use Rattle.cover.proofs.Steps.{fits_length, fits_rises, mask_self}
use Rattle.cover.proofs.Whole.{found}
use Rattle.cover.proofs.partition_cover.Goals as goal

pub mask_within-requires : goal.mask_within-requires
mask_within-requires c = (fits_length (length c.args.index.now.first_of.now) c.args.detectors.now c.requires.compact.merged.checked, fits_rises (length c.args.index.now.first_of.now) c.args.detectors.now c.requires.compact.merged.checked)

pub unwrap-mask-requires : goal.unwrap-mask-requires
unwrap-mask-requires c = rw (c.mask_within.ensures ∙ mask_self c.args.detectors.now) (search rules)

pub returns-clause-found : goal.returns-clause-found
returns-clause-found c =
    let e = c.mask_within.ensures ∙ mask_self c.args.detectors.now in
    found _ _ _ _ _ c.requires.compact.observables _ _ c.requires.checked _ _ _ _ _ _ c.compact-n.ensures.made _ _ _
    (let q = c.unwrap-mask.ensures in cc) c.word_of-word0.ensures c.word_of-word1.ensures
    c.args.chosen.now (omega (arith, ones-le 16 c.unwrap-mask.result c.unwrap-mask.type_inv, c.requires.room)) _ _ c.find_first.ensures
