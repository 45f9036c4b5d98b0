-- `graph::join_all`: refused at once, or mechanism by mechanism.
use mathlib.Core.Path.{refl, sym}
use native.Mathlib.Omega.{arith}
use Rattle.std.proofs.Common.{rules}
use Rattle.std.proofs.lemmas.Result.{err_from_is_err_and}
use Rattle.dem.specs.Positions.{head_of, place_of}
use Rattle.dem.specs.Lent.{tables_of}
use Rattle.dem.proofs.Positions.{reached_of, inside_of, past_inside, place_next}
use Rattle.edges.proofs.Lent.{edges_none, edges_then, scratch_then}
use Rattle.graph.proofs.Answers.{outcome_refused, outcome_edges}
use Rattle.graph.proofs.Going.{held, room, going_first, many_few, stopped, went, ended}
use Rattle.graph.proofs.join_all.Goals as goal

pub returns-in_err-check_slices-clause-joined : goal.returns-in_err-check_slices-clause-joined
returns-in_err-check_slices-clause-joined c =
    let e = err_from_is_err_and c.from_residual.result c.from_residual.ensures.1 in
    rw (e.1, e.2, outcome_refused _ _ _ _ _ _ _ _ (sym c.in_err-check_slices.ensures)) refl

pub loop-i-init : goal.loop-i-init
loop-i-init c = record { going = going_first _ _ _ _ _ _ _ c.no_chains.ensures; edges = edges_none _; scratch = search rules }

pub head-h-requires : goal.head-h-requires
head-h-requires c =
    let long = held _ _ _ _ _ _ _ (sym c.in_ok-check_slices.ensures) in
    let reach = reached_of _ _ long.holds in
    (omega (arith, reach.probability), omega (arith, reach.detectors), omega (arith, reach.observables), omega (arith, reach.components))

pub join-requires : goal.join-requires
join-requires c =
    let long = held _ _ _ _ _ _ _ (sym c.in_ok-check_slices.ensures) in
    let inside = inside_of c.loop-i.i _ _ c.loop-i-test.true (reached_of _ _ long.holds) in
    let few = many_few c.loop-i.invariant.going in
    let e = c.loop-i.invariant.edges in
    let s = c.loop-i.invariant.scratch in
    (rw (c.head-h.ensures, c.loop-i.invariant.going.at) inside, omega (arith, long.starts, s.first_long), room _ long (omega (arith, few)) (record { ends = e.edge_u_long; others = e.edge_v_long; weights = e.edge_weight_long; rows = e.edge_obs_long; probabilities = s.edge_p_long }) s.next_long, c.loop-i.invariant.going.chained)

pub returns-in_err-count-clause-joined : goal.returns-in_err-count-clause-joined
returns-in_err-count-clause-joined c =
    let e = err_from_is_err_and c.from_residual-in_err-count.result c.from_residual-in_err-count.ensures.1 in
    rw (e.1, e.2, outcome_edges _ _ _ _ _ _ _ (sym c.in_ok-check_slices.ensures)) (stopped c.loop-i.invariant.going _ _ _ _ c.loop-i-test.true c.head-h.ensures c.in_err-count.ensures.joined.0)

pub past-place-requires : goal.past-place-requires
past-place-requires c =
    let long = held _ _ _ _ _ _ _ (sym c.in_ok-check_slices.ensures) in
    let inside = inside_of c.loop-i.i _ _ c.loop-i-test.true (reached_of _ _ long.holds) in
    let m = c.args.model.now in
    let t = tables_of m in
    let ends = past_inside (head_of c.loop-i.i t) (place_of c.loop-i.i t) m.component_detectors.now m.component_observables.now m.entries.now inside in
    rw (c.head-h.ensures, c.loop-i.invariant.going.at) (inside.detectors, inside.observables, omega (arith, ends))

pub loop-i-preserved : goal.loop-i-preserved
loop-i-preserved c = record {
  going = went c.loop-i.invariant.going _ _ _ _ _ _ c.head-h.ensures c.in_ok-count.ensures.joined.0 c.in_ok-count.ensures.joined.1 (rw (c.past-place.ensures, c.head-h.ensures, c.loop-i.invariant.going.at) (place_next c.loop-i.i _));
  edges = edges_then c.loop-i.invariant.edges c.in_ok-count.ensures.same_edges;
  scratch = scratch_then c.loop-i.invariant.scratch c.in_ok-count.ensures.same_scratch;
}

pub returns-clause-joined : goal.returns-clause-joined
returns-clause-joined c = rw (outcome_edges _ _ _ _ _ _ _ (sym c.in_ok-check_slices.ensures)) (ended c.loop-i.invariant.going _ (omega arith))
