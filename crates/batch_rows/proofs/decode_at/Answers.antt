-- `batch_rows::decode_at` meets its contract: the shot in its part of the rows, and its row in its part of the output.
use mathlib.Core.Path.{ap, ◌∙◌}
use Rattle.shot.specs.Shots.{shot_of}
use Rattle.batch_rows.proofs.Parts.{steps_is, put_is, row_wide, given}
use Rattle.batch_rows.proofs.decode_at.Goals as goal

pub decode_row-requires : goal.decode_row-requires
decode_row-requires c =
    record {
      tables = c.requires.tables;
      given = given c.args.g.now.detectors c.args.g.now.observables c.args.g.now.edge_u.now c.args.g.now.edge_v.now c.args.g.now.edge_weight.now c.args.g.now.edge_obs.now c.args.rows.now c.args.out.now c.args.list.now c.args.out.now c.args.shot c.words-m.result c.words-w.result c.words-m.ensures c.words-w.ensures c.requires.given_row;
      row_len = row_wide c.args.g.now.detectors c.args.g.now.observables c.args.g.now.edge_u.now c.args.g.now.edge_v.now c.args.g.now.edge_weight.now c.args.g.now.edge_obs.now c.args.rows.now c.args.out.now c.args.list.now c.args.out.now c.args.shot c.words-m.result c.words-w.result c.words-m.ensures c.words-w.ensures c.requires.given_row;
      ready = c.requires.ready;
    }

pub returns : goal.returns
returns c =
    record {
      answers = c.decode_row.ensures.answers ∙ ap shot_of (steps_is c.args.g.now.detectors c.args.g.now.observables c.args.g.now.edge_u.now c.args.g.now.edge_v.now c.args.g.now.edge_weight.now c.args.g.now.edge_obs.now c.args.rows.now c.args.out.now c.args.list.now c.decode_row.new.row c.args.shot c.words-m.result c.words-w.result c.words-m.ensures c.words-w.ensures c.requires.given_row);
      rows = put_is c.args.g.now.detectors c.args.g.now.observables c.args.g.now.edge_u.now c.args.g.now.edge_v.now c.args.g.now.edge_weight.now c.args.g.now.edge_obs.now c.args.rows.now c.args.out.now c.args.list.now c.decode_row.new.row c.args.shot c.words-m.result c.words-w.result c.words-m.ensures c.words-w.ensures c.requires.given_row c.decode_row.ensures.rows;
      rests = c.decode_row.ensures.rests;
      same = c.decode_row.ensures.same;
    }
