-- `graphlike::try_decompose`: what the check accepts is decomposed.
use Rattle.std.proofs.Common.{rules}
use Rattle.graphlike.proofs.Answers.{same_check, lent, decomposable, refused_by, made_of}
use Rattle.graphlike.proofs.try_decompose.Goals as goal

pub returns-in_err-check-clause-made : goal.returns-in_err-check-clause-made
returns-in_err-check-clause-made c =
    refused_by _ _ _ _ _ _ c.in_err-check.field-0.0 _ _ (same_check _ _ _ _ _ _ _ _ c.lengths.ensures c.in_err-check.ensures) (search rules)

pub decompose_checked-requires : goal.decompose_checked-requires
decompose_checked-requires c =
    decomposable _ _ _ _ _ _ _ _ _ _ _ _ _ _ _ (lent _ _ _ _ _ _ (same_check _ _ _ _ _ _ _ _ c.lengths.ensures c.in_ok-check.ensures)) c.room-room.ensures

pub returns-clause-made : goal.returns-clause-made
returns-clause-made c =
    made_of _ _ _ _ _ _ _ _ _ (same_check _ _ _ _ _ _ _ _ c.lengths.ensures c.in_ok-check.ensures) c.room-room.ensures c.decompose_checked.ensures.made
