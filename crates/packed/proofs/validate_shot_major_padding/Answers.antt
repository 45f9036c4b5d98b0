-- `packed::validate_shot_major_padding` meets its contract: at a word above the tail mask the answer is its shot.
use Rattle.std.proofs.Common.{arith, rules, ◌∙◌, ◌%◌}
use Rattle.std.proofs.lemmas.Nat.{one_shl}
use Rattle.packed.proofs.Shots.{padding_set}
use Rattle.packed.proofs.validate_shot_major_padding.Goals as goal

pub returns-then-tail_mask-data : goal.returns-then-tail_mask-data
returns-then-tail_mask-data c =
    padding_set _ _ _ _ _ c.requires c.words-m_words.ensures c.if-tail-eq0.false c.loop-shot-test.true
    (search rules) (omega (arith, one_shl (c.args.num_measurements % 64) 64 (omega arith)))
    ∙ c.loop-shot.invariant
