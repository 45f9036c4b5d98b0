-- `shot::stuck_shot` meets its contract. Assumes nothing.
use Rattle.shot.proofs.Joins.{to_clean, stuck_answer, stuck_list, stuck_row_lem}
use Rattle.shot.proofs.stuck_shot.Goals as goal

pub clean-requires : goal.clean-requires
clean-requires c =
    record {
      cleaning = to_clean c.requires.tables c.requires.grew_to.grew;
      used = c.requires.grew_to.grew.used;
    }

pub returns-clause-answers : goal.returns-clause-answers
returns-clause-answers c = stuck_answer c.requires.tables c.requires.grew_to.grew c.requires.fact

pub returns-clause-lists : goal.returns-clause-lists
returns-clause-lists c = stuck_list c.requires.tables c.requires.grew_to.grew c.requires.fact

pub returns-clause-rows : goal.returns-clause-rows
returns-clause-rows c = stuck_row_lem c.requires.tables c.requires.grew_to.grew c.requires.fact
