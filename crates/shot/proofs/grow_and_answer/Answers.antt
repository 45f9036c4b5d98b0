-- `shot::grow_and_answer` meets its contract: round after round, then the answer of a shot that is stuck or of one that is decoded.
use mathlib.Core.Path.{refl, ◌∙◌}
use mathlib.Core.List.{[], ◌∷◌}
use native.Mathlib.Omega.{arith}
use Rattle.columns.proofs.Columns.{column_length, keep_length, keep_then, keep_none, keep_more}
use Rattle.cells.specs.Tables.{link_column}
use Rattle.cells.proofs.Lent.{same_none, same_then}
use Rattle.lent_graph.specs.Graph.{whole_graph}
use Rattle.shot.proofs.Joins as joins
use Rattle.shot.proofs.Growing.{begins, rounds_few, settles, not_boundary, gets_stuck, more, most, goes_on}
use Rattle.shot.proofs.Rounds.{relit}
use Rattle.shot.proofs.RoundRows.{left_kept}
use Rattle.shot.proofs.grow_and_answer.Goals as goal

pub loop-a-init : goal.loop-a-init
loop-a-init c = (
  begins c.requires.tables.fits c.requires.rep,
  keep_more (0 ∷ 1 ∷ []) refl (keep_none c.args.t.now.tree.now),
  keep_more (1 ∷ 2 ∷ 3 ∷ 4 ∷ []) refl (keep_none c.args.t.now.flags.now),
  keep_more (1 ∷ 2 ∷ 3 ∷ []) refl (keep_none c.args.t.now.stacks.now),
  keep_more (0 ∷ 1 ∷ 2 ∷ []) refl (keep_none c.args.t.now.links.now),
  same_none c.args.t.now,
)

pub round-s-requires : goal.round-s-requires
round-s-requires c =
    let links = c.loop-a.t.links.now in
    let long = c.loop-a.invariant.5.links_long in
    record {
      space = joins.space c.requires.tables (omega (arith, c.requires.left.fronts, keep_length c.loop-a.invariant.3 3)) (omega (arith, c.requires.edge_u_in_bounds, long, column_length link_column 0 links)) (omega (arith, c.requires.edge_u_in_bounds, long, column_length link_column 1 links));
      fit = (c.requires.tables.fits, c.loop-a.invariant.0.rooms);
      rep = c.loop-a.invariant.0.rep;
    }

pub stuck_shot-requires : goal.stuck_shot-requires
stuck_shot-requires c =
    let ok = joins.ends_weighted c.requires.tables in
    let r = c.round-s.ensures in
    let t = c.round-s.new.t in
    record {
      tables = c.requires.tables;
      grew_to = gets_stuck ok c.loop-a.invariant.0 c.loop-a-test.true t.tree.now t.flags.now t.stacks.now r.stepped (r.others.1.rest 0 refl) c.in-Some.is;
      fact = not_boundary ok c.loop-a.invariant.0 c.loop-a-test.true t.tree.now t.flags.now t.stacks.now r.stepped (r.others.1.rest 0 refl) c.in-Some.is;
    }

pub returns-in-Some : goal.returns-in-Some
returns-in-Some c =
    let k = relit (whole_graph c.args.g.now) c.args.list.now c.args.row.now (c.round-s.ensures.others.1.rest 0 refl ∙ c.loop-a.invariant.2.rest 0 refl) (c.stuck_shot.ensures.answers, c.stuck_shot.ensures.lists c.args.list.now, c.stuck_shot.ensures.rows c.args.row.now) in
    record { answers = k.0; lists = k.1; rows = k.2; rests = c.stuck_shot.ensures.rests; same = same_then c.loop-a.invariant.5 (same_then c.round-s.ensures.same c.stuck_shot.ensures.same) }

pub overflow_add-rounds : goal.overflow_add-rounds
overflow_add-rounds c = omega (arith, rounds_few (joins.ends_weighted c.requires.tables) c.loop-a.invariant.0, c.requires.tables.few)

pub loop-a-smaller : goal.loop-a-smaller
loop-a-smaller c =
    let ok = joins.ends_weighted c.requires.tables in
    let r = c.round-s.ensures in
    let t = c.round-s.new.t in
    let lit = r.others.1.rest 0 refl in
    omega (arith, more ok c.loop-a.invariant.0 c.loop-a-test.true t.tree.now t.flags.now t.stacks.now r.stepped lit c.in_default.is, most ok c.loop-a.invariant.0 c.loop-a-test.true t.tree.now t.flags.now t.stacks.now r.stepped lit c.in_default.is)

pub loop-a-preserved : goal.loop-a-preserved
loop-a-preserved c =
    let r = c.round-s.ensures in
    let t = c.round-s.new.t in (
      goes_on (joins.ends_weighted c.requires.tables) c.loop-a.invariant.0 c.loop-a-test.true t.tree.now t.flags.now t.stacks.now r.stepped (r.others.1.rest 0 refl) c.in_default.is c.requires.tables.fits,
      keep_then c.loop-a.invariant.1 r.others.0,
      keep_then c.loop-a.invariant.2 r.others.1,
      keep_then c.loop-a.invariant.3 r.others.2,
      keep_then c.loop-a.invariant.4 r.others.3,
      same_then c.loop-a.invariant.5 r.same,
    )

pub end_shot-length-requires : goal.end_shot-length-requires
end_shot-length-requires c =
    let t = c.requires.tables in
    let settled = settles (joins.ends_weighted t) c.loop-a.invariant.0 (omega (arith, c.loop-a-test.false)) in
    let left = left_kept c.loop-a.invariant.3 c.requires.left (c.loop-a.invariant.2.rest 0 refl) in
    record {
      tabled = joins.tabled t settled refl c.words-w.ensures left;
      down = joins.down t settled refl;
      grown = joins.grown t settled refl c.words-w.ensures left;
      lit = joins.lights t settled refl c.words-w.ensures left;
      settles = joins.settles t settled refl c.words-w.ensures left;
      cleaning = joins.to_clean t settled;
      used = settled.used;
    }

pub returns : goal.returns
returns c =
    let t = c.requires.tables in
    let settled = settles (joins.ends_weighted t) c.loop-a.invariant.0 (omega (arith, c.loop-a-test.false)) in
    let left = left_kept c.loop-a.invariant.3 c.requires.left (c.loop-a.invariant.2.rest 0 refl) in
    let k = relit (whole_graph c.args.g.now) c.args.list.now c.args.row.now (c.loop-a.invariant.2.rest 0 refl) (
      joins.decoded_answer t settled refl c.words-w.ensures left c.end_shot-length.ensures.finished c.end_shot-length.auto.list,
      joins.decoded_list t settled refl c.words-w.ensures left c.end_shot-length.ensures.finished,
      joins.decoded_row_lem t settled refl c.words-w.ensures left c.end_shot-length.ensures.finished,
    ) in
    record { answers = k.0; lists = k.1; rows = k.2; rests = c.end_shot-length.ensures.clean; same = same_then c.loop-a.invariant.5 c.end_shot-length.ensures.same }
