use Rattle.columns.proofs.Columns.{keep_length}
use Rattle.growth_round.proofs.Touching.{counting, touched_of}
use Rattle.growth_round.proofs.touch.Goals as goal

pub count-requires : goal.count-requires
count-requires c = record { counting = counting c.requires.space c.requires.touching c.front-f.ensures.0 (keep_length c.front-f.ensures.2 3) }

pub returns-clause-touched : goal.returns-clause-touched
returns-clause-touched c = touched_of c.requires.space c.requires.touching c.front-f.ensures.0 c.args.t.now.growth.now c.count.ensures.0 (keep_length c.count.ensures.2 0) (keep_length c.count.ensures.2 1)

pub returns-clause-others : goal.returns-clause-others
returns-clause-others c = (c.front-f.ensures.1, c.count.ensures.1, c.front-f.ensures.2, c.count.ensures.2)
