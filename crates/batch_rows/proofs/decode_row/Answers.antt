-- `batch_rows::decode_row` meets its contract: the row zeroed, then a blank shot answered at once, and another decoded into it.
use mathlib.Core.Path.{sym, ap, ◌∙◌}
use mathlib.Core.List.{List}
use Rattle.steps.specs.Rows.{zeros}
use Rattle.steps.specs.Shot.{row_left}
use Rattle.cells.proofs.Lent.{same_none}
use Rattle.lent_graph.specs.Graph.{whole_graph}
use Rattle.shot.specs.Lent.{decode_on}
use Rattle.steps.specs.Call.{graph_of}
use Rattle.shot.proofs.Decodes.{blank, blank_row}
use Rattle.shot.proofs.Blank.{none_lit}
use Rattle.shot.proofs.Longer.{places_in}
use Rattle.batch_rows.proofs.Parts.{zeroed, given_zeroed}
use Rattle.batch_rows.proofs.Turns.{ready_on}
use Rattle.batch_rows.proofs.decode_row.Goals as goal

pub returns-then-is_blank : goal.returns-then-is_blank
unfolding graph_of
returns-then-is_blank c =
    let q = blank (whole_graph c.args.g.now) c.args.shot.now (none_lit c.args.g.now.detectors c.args.shot.now (sym c.is_blank.ensures ∙ c.if-is_blank.true)) in record {
      answers = rw q;
      rows = zeroed c.args.g.now.detectors c.args.g.now.observables c.args.g.now.edge_u.now c.args.g.now.edge_v.now c.args.g.now.edge_weight.now c.args.g.now.edge_obs.now c.args.row.now c.fill.new.self c.requires.row_len (c.fill.ensures.after (λ y h. h)) ∙ rw q (sym (blank_row (whole_graph c.args.g.now) (zeros (whole_graph c.args.g.now))));
      rests = c.requires.ready;
      same = same_none c.args.t.now;
    }

pub decode_clean-requires : goal.decode_clean-requires
decode_clean-requires c =
    record {
      tables = c.requires.tables;
      given = given_zeroed c.args.g.now.detectors c.args.g.now.observables c.args.g.now.edge_u.now c.args.g.now.edge_v.now c.args.g.now.edge_weight.now c.args.g.now.edge_obs.now c.args.row.now c.fill.new.self c.requires.row_len (c.fill.ensures.after (λ y h. h)) c.requires.given;
      places = places_in c.args.t.now.stacks.now c.args.t.now.links.now c.requires.ready.stack_rows c.requires.ready.link_rows;
      clean = c.requires.ready.rested.clean;
    }

pub returns : goal.returns
returns c =
    record {
      answers = c.decode_clean.ensures.answers;
      rows = c.decode_clean.ensures.rows ∙ ap (λ (t : List _). row_left (whole_graph c.args.g.now) t (decode_on c.args.g.now c.args.shot.now)) (zeroed c.args.g.now.detectors c.args.g.now.observables c.args.g.now.edge_u.now c.args.g.now.edge_v.now c.args.g.now.edge_weight.now c.args.g.now.edge_obs.now c.args.row.now c.fill.new.self c.requires.row_len (c.fill.ensures.after (λ y h. h)));
      rests = ready_on c.requires.ready c.decode_clean.ensures.rests c.decode_clean.ensures.same.stacks_long c.decode_clean.ensures.same.links_long;
      same = c.decode_clean.ensures.same;
    }
