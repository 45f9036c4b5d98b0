-- `decoder::reset_and_decode` meets its contract: the tables put to rest, and the shot decoded over the entries that the counts need.
use native.Mathlib.Omega.{arith}
use Rattle.shot.proofs.Longer.{few_part, small_of, tables, places}
use Rattle.decoder.proofs.Laws.{parted}
use Rattle.decoder.proofs.reset_and_decode.Goals as goal

pub reset-requires : goal.reset-requires
reset-requires c =
    (omega (arith, small_of c.requires.longer), c.requires.spaces)

pub decode_clean-requires : goal.decode_clean-requires
decode_clean-requires c =
    record {
      tables = tables c.requires.longer;
      given = c.requires.given;
      places = places c.requires.longer c.args.stacks.now c.args.links.now c.requires.detectors_in_bounds.0 c.requires.detectors_in_bounds.1;
      clean = rw (few_part c.requires.longer) c.reset.ensures.clean;
    }

pub returns : goal.returns
returns c =
    record {
      answers = (parted c.args.g.now.detectors c.args.g.now.observables c.args.g.now.edges c.args.g.now.edge_u.now c.args.g.now.edge_v.now c.args.g.now.edge_weight.now c.args.g.now.edge_obs.now c.args.shot.now c.args.list.now c.args.row.now c.requires.longer.firsts c.decode_clean.ensures.answers c.decode_clean.ensures.lists c.decode_clean.ensures.rows).0;
      lists = (parted c.args.g.now.detectors c.args.g.now.observables c.args.g.now.edges c.args.g.now.edge_u.now c.args.g.now.edge_v.now c.args.g.now.edge_weight.now c.args.g.now.edge_obs.now c.args.shot.now c.args.list.now c.args.row.now c.requires.longer.firsts c.decode_clean.ensures.answers c.decode_clean.ensures.lists c.decode_clean.ensures.rows).1.0;
      rows = (parted c.args.g.now.detectors c.args.g.now.observables c.args.g.now.edges c.args.g.now.edge_u.now c.args.g.now.edge_v.now c.args.g.now.edge_weight.now c.args.g.now.edge_obs.now c.args.shot.now c.args.list.now c.args.row.now c.requires.longer.firsts c.decode_clean.ensures.answers c.decode_clean.ensures.lists c.decode_clean.ensures.rows).1.1;
    }
