-- `cover::compact` meets its contract: the tables that the three calls fill hold the candidates.
use Rattle.std.proofs.Common.{◌∙◌, arith}
use Rattle.cover.specs.Lent.{symptom_of}
use Rattle.cover.proofs.Whole.{candidates_numbered, same_candidates}
use Rattle.cover.proofs.Lent.{first_earlier}
use Rattle.cover.proofs.compact.Goals as goal

pub fill_words-requires : goal.fill_words-requires
fill_words-requires c = (omega (arith, c.gather-count.ensures.counted, c.gather-count.auto.numbers, c.requires.merged.numbers_hold), candidates_numbered _ _ _ _ _ _ _ _ _ _ _ _ _ c.requires _ _ _ c.gather-count.ensures)

pub returns-clause-made : goal.returns-clause-made
returns-clause-made c =
    let g = c.gather-count.ensures in
    let w = c.fill_words.ensures in
    let m = c.mark_earlier.ensures in
    rw (m.kept.0, m.kept.1, m.kept.2, m.kept.3) (record {
      counted = g.counted;
      candidates = rw (w.kept.0, w.kept.1) (same_candidates (symptom_of c.args.lists.now) _ _ _ _ _ _ _ g (rw w.kept.0 at w.worded) (omega (arith, g.counted, c.gather-count.auto.numbers, c.requires.merged.numbers_hold)));
      repeats = λ j h. m.marked j h ∙ first_earlier _ j c.fill_words.new.c h;
    })
