-- `batch_rows::reset_and_decode_rows` meets its contract: the tables put to rest, and the shots decoded over the entries that the counts need.
use native.Mathlib.Omega.{arith}
use Rattle.shot.proofs.Longer.{few_part, small_of, tables}
use Rattle.batch_rows.proofs.Starts.{parted}
use Rattle.batch_rows.proofs.reset_and_decode_rows.Goals as goal

pub reset-requires : goal.reset-requires
reset-requires c =
    (omega (arith, small_of c.requires.longer), c.requires.spaces)

pub decode_rows-requires : goal.decode_rows-requires
decode_rows-requires c =
    record {
      tables = tables c.requires.longer;
      given_rows = c.requires.given_rows;
      ready = rw (few_part c.requires.longer) (record { rested = c.reset.ensures; stack_rows = c.requires.detectors_in_bounds.0; link_rows = c.requires.detectors_in_bounds.1 });
    }

pub returns : goal.returns
returns c =
    record {
      answers = (parted c.requires.longer c.args.rows.now c.args.out.now c.args.shots (c.decode_rows.ensures.answers, c.decode_rows.ensures.rows)).0;
      rows = (parted c.requires.longer c.args.rows.now c.args.out.now c.args.shots (c.decode_rows.ensures.answers, c.decode_rows.ensures.rows)).1;
    }
