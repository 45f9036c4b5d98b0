use Prim.Native.Nat.{ℕ}
use mathlib.Core.Path.{refl, ap, ◌∙◌}
use native.Mathlib.Nat.{sub-zero}
use Rattle.lists.specs.Lists.{from, below}
use Rattle.cells.proofs.Lent.{same_none, same_then}
use Rattle.lent_graph.specs.Graph.{whole_graph}
use Rattle.batch_rows.specs.Rows.{check_shots_of, rows_of}
use Rattle.batch_rows.proofs.Turns.{end_answer, end_rows, stops, goes_on, given_row}
use Rattle.batch_rows.proofs.decode_rows.Goals as goal

pub loop-shot-init : goal.loop-shot-init
unfolding below
loop-shot-init c =
    (ap (λ (k : ℕ). check_shots_of (whole_graph c.args.g.now) c.args.rows.now (from k 0)) (sub-zero c.args.shots), ap (λ (k : ℕ). rows_of (whole_graph c.args.g.now) c.args.rows.now (from k 0) c.args.out.now) (sub-zero c.args.shots), c.requires.ready, refl, refl, same_none c.args.t.now)

pub decode_at-found-requires : goal.decode_at-found-requires
decode_at-found-requires c =
    record {
      tables = c.requires.tables;
      given_row = given_row c.requires.given_rows c.loop-shot-test.true c.loop-shot.out c.loop-shot.list c.loop-shot.invariant.3 c.loop-shot.invariant.4;
      ready = c.loop-shot.invariant.2;
    }

pub returns-in-Stuck : goal.returns-in-Stuck
returns-in-Stuck c =
    let t = stops c.args.g.now.detectors c.args.g.now.observables c.args.g.now.edge_u.now c.args.g.now.edge_v.now c.args.g.now.edge_weight.now c.args.g.now.edge_obs.now c.args.rows.now c.loop-shot.out c.decode_at-found.new.out c.args.shots c.loop-shot.shot c.loop-shot-test.true c.in-Stuck.is (c.decode_at-found.ensures.answers, c.decode_at-found.ensures.rows) in record {
      answers = t.0 ∙ c.loop-shot.invariant.0;
      rows = t.1 ∙ c.loop-shot.invariant.1;
      same = same_then c.loop-shot.invariant.5 c.decode_at-found.ensures.same;
    }

pub loop-shot-preserved : goal.loop-shot-preserved
loop-shot-preserved c =
    let t = goes_on c.args.g.now.detectors c.args.g.now.observables c.args.g.now.edge_u.now c.args.g.now.edge_v.now c.args.g.now.edge_weight.now c.args.g.now.edge_obs.now c.args.rows.now c.loop-shot.out c.decode_at-found.new.out c.args.shots c.loop-shot.shot c.loop-shot-test.true c.in_default.is (c.decode_at-found.ensures.answers, c.decode_at-found.ensures.rows) in
    (t.0 ∙ c.loop-shot.invariant.0, t.1 ∙ c.loop-shot.invariant.1, c.decode_at-found.ensures.rests, c.decode_at-found.auto.out ∙ c.loop-shot.invariant.3, c.decode_at-found.auto.list ∙ c.loop-shot.invariant.4, same_then c.loop-shot.invariant.5 c.decode_at-found.ensures.same)

pub returns : goal.returns
returns c =
    record {
      answers = end_answer (whole_graph c.args.g.now) c.args.rows.now c.loop-shot.out c.args.shots c.loop-shot.shot c.loop-shot-test.false ∙ c.loop-shot.invariant.0;
      rows = end_rows (whole_graph c.args.g.now) c.args.rows.now c.loop-shot.out c.args.shots c.loop-shot.shot c.loop-shot-test.false ∙ c.loop-shot.invariant.1;
      same = c.loop-shot.invariant.5;
    }
