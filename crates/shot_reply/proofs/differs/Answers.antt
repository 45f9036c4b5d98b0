-- `shot_reply::differs`: rows of one length differ where they are not the same.
use mathlib.Core.Path.{◌∙◌}
use Rattle.shot_reply.proofs.Texts.{differs_is}
use Rattle.shot_reply.proofs.differs.Goals as goal

pub returns : goal.returns
returns c = c.ne.ensures ∙ differs_is c.args.row.now c.args.truth.now c.requires
