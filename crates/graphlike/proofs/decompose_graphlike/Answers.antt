-- `graphlike::decompose_graphlike`: a refusal leaves zero.
use Rattle.std.proofs.Common.{rules}
use mathlib.Core.Path.{◌∙◌}
use Rattle.dem.proofs.Lent.{same_then}
use Rattle.graphlike.proofs.Answers.{same_zero, refused_left}
use Rattle.graphlike.proofs.decompose_graphlike.Goals as goal

pub returns-then-is_err-clause-answer : goal.returns-then-is_err-clause-answer
returns-then-is_err-clause-answer c =
    refused_left _ _ _ _ _ c.try_decompose-answer.ensures.made (search rules)
    (c.zero_tables.ensures.zero ∙ same_zero _ _ c.try_decompose-answer.ensures.same_output)

pub returns-then-is_err-clause-same_output : goal.returns-then-is_err-clause-same_output
returns-then-is_err-clause-same_output c = same_then c.try_decompose-answer.ensures.same_output c.zero_tables.ensures.same
