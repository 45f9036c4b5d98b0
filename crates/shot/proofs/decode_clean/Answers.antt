-- `shot::decode_clean` meets its contract: the lit detectors listed; none is an answer, else they are lit, then growth and the answer.
use mathlib.Core.Path.{refl, sym, ◌∙◌}
use native.Mathlib.Omega.{arith}
use Rattle.steps.specs.Call.{graph_of, list_left}
use Rattle.lent_graph.specs.Graph.{whole_graph}
use Rattle.shot.proofs.Joins.{lit_listed, left, small, ends_weighted}
use Rattle.shot.proofs.Rounds.{relit}
use Rattle.shot.proofs.Decodes.{blank, blank_row}
use Rattle.shot.proofs.Lights.{lighting, lit_row, rep_start}
use Rattle.columns.proofs.Columns.{column_length, keep_length}
use Rattle.cells.specs.Tables.{link_column, stack_column, defects}
use Rattle.shot.proofs.DecodeRows.{place_then, room_on}
use Rattle.shot.proofs.decode_clean.Goals as goal

pub list_set_bits-l-requires : goal.list_set_bits-l-requires
list_set_bits-l-requires c =
    let m = column_length stack_column 0 c.args.t.now.stacks.now in
    record { row_len = (c.requires.given.shots, c.requires.given.clear, omega (arith, small c.requires.tables), omega (arith, c.requires.places.lit_ones, m)) }

pub returns-then-l-eq0-clause-answers : goal.returns-then-l-eq0-clause-answers
unfolding graph_of
returns-then-l-eq0-clause-answers c = rw (blank (whole_graph c.args.g.now) c.args.shot.now (sym c.if-l-eq0.true ∙ c.list_set_bits-l.ensures.0))

pub returns-then-l-eq0-clause-lists : goal.returns-then-l-eq0-clause-lists
unfolding list_left graph_of
returns-then-l-eq0-clause-lists c = rw (blank (whole_graph c.args.g.now) c.args.shot.now (sym c.if-l-eq0.true ∙ c.list_set_bits-l.ensures.0))

pub returns-then-l-eq0-clause-rows : goal.returns-then-l-eq0-clause-rows
unfolding graph_of
returns-then-l-eq0-clause-rows c = rw (blank (whole_graph c.args.g.now) c.args.shot.now (sym c.if-l-eq0.true ∙ c.list_set_bits-l.ensures.0)) (sym (blank_row (whole_graph c.args.g.now) c.args.row.now))

pub light-requires : goal.light-requires
light-requires c =
    let r = lit_listed c.args.g.now.detectors c.args.shot.now (defects c.args.t.now.stacks.now) c.list_set_bits-l.ensures.0 c.list_set_bits-l.ensures.1 (keep_length c.list_set_bits-l.ensures.2 0) c.requires.places.lit_ones in
    let m = room_on c.list_set_bits-l.ensures.2 c.requires.places.seens c.requires.places.actives in
    record { lighting = lighting r c.requires.clean m }

pub grow_and_answer-requires : goal.grow_and_answer-requires
grow_and_answer-requires c =
    let r = lit_listed c.args.g.now.detectors c.args.shot.now (defects c.args.t.now.stacks.now) c.list_set_bits-l.ensures.0 c.list_set_bits-l.ensures.1 (keep_length c.list_set_bits-l.ensures.2 0) c.requires.places.lit_ones in
    let m = room_on c.list_set_bits-l.ensures.2 c.requires.places.seens c.requires.places.actives in
    let p = c.requires.places in
    let x = c.list_set_bits-l.ensures.2 in
    let y = c.light.ensures.2 in
    record {
      tables = c.requires.tables;
      left = rw (c.light.ensures.2.rest 0 refl) (left c.requires.given r (lit_row r c.requires.clean m c.light.ensures.0 (keep_length c.light.ensures.1 0) (keep_length c.light.ensures.1 2) (keep_length c.light.ensures.1 1) (keep_length c.light.ensures.1 3) (keep_length c.light.ensures.2 2) (keep_length c.light.ensures.2 1)) (place_then x y 2 p.actives) (place_then x y 3 p.fronts) (place_then x y 4 p.trees) (place_then x y 5 p.parents));
      edge_u_in_bounds = omega (arith, p.touches, column_length link_column 0 c.args.t.now.links.now);
      rep = rw (c.light.ensures.1.rest 4 refl) (rep_start r c.requires.clean m c.light.ensures.0 (keep_length c.light.ensures.1 0) (keep_length c.light.ensures.1 2) (keep_length c.light.ensures.1 1) (keep_length c.light.ensures.1 3) (keep_length c.light.ensures.2 2) (keep_length c.light.ensures.2 1) (ends_weighted c.requires.tables) refl);
    }

pub returns : goal.returns
returns c =
    let r = lit_listed c.args.g.now.detectors c.args.shot.now (defects c.args.t.now.stacks.now) c.list_set_bits-l.ensures.0 c.list_set_bits-l.ensures.1 (keep_length c.list_set_bits-l.ensures.2 0) c.requires.places.lit_ones in
    let m = room_on c.list_set_bits-l.ensures.2 c.requires.places.seens c.requires.places.actives in
    let k = relit (whole_graph c.args.g.now) c.args.list.now c.args.row.now (lit_row r c.requires.clean m c.light.ensures.0 (keep_length c.light.ensures.1 0) (keep_length c.light.ensures.1 2) (keep_length c.light.ensures.1 1) (keep_length c.light.ensures.1 3) (keep_length c.light.ensures.2 2) (keep_length c.light.ensures.2 1)) (c.grow_and_answer.ensures.answers, c.grow_and_answer.ensures.lists, c.grow_and_answer.ensures.rows) in
    let w = c.grow_and_answer.ensures.same in
    record {
      answers = k.0;
      lists = k.1;
      rows = k.2;
      rests = c.grow_and_answer.ensures.rests;
      same = record {
        tree = w.tree;
        flags = w.flags;
        stacks = w.stacks;
        links = w.links;
        growth = w.growth;
        sat = w.sat;
        tree_long = w.tree_long;
        flags_long = w.flags_long ∙ c.light.auto.flags;
        stacks_long = w.stacks_long ∙ c.light.auto.stacks ∙ c.list_set_bits-l.auto.stacks;
        links_long = w.links_long;
        growth_long = w.growth_long;
        sat_long = w.sat_long;
      };
    }
