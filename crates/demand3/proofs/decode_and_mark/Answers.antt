-- `demand3::decode_and_mark` meets its contract: the decoder's promise and the marker's, put together.
use Rattle.demand3.proofs.Verified.{fits, verified}
use Rattle.demand3.proofs.decode_and_mark.Goals as goal

pub mark_answer-requires : goal.mark_answer-requires
mark_answer-requires c = fits _ _ _ _ c.decode_shot-answer.ensures.decodes

pub returns-clause-verified : goal.returns-clause-verified
returns-clause-verified c = verified _ _ _ _ _ c.decode_shot-answer.ensures.decodes c.mark_answer.ensures
