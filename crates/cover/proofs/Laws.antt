-- The laws of the first cover and of the chains.
use Rattle.dem.specs.Cover.{first_cover}
use Rattle.cover.specs.Laws.{Laws}
use Rattle.cover.proofs.First.{is_first, one_first}
use Rattle.cover.proofs.Distinct.{all_distinct}
use Rattle.cover.proofs.Follow.{chain_list}
use Rattle.cover.proofs.Turn.{previous_is}

pub laws : Laws
laws = record {
  first_cover_is = is_first;
  only_first = λ kept s x h. one_first kept s x (first_cover kept s) h (is_first kept s);
  repeats = all_distinct;
  chain = chain_list;
  held_past = previous_is;
}
