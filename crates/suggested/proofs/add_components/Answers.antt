use Rattle.std.proofs.Common.{◌+◌, ◌-◌, arith}
use Rattle.suggested.proofs.Lent.{same_then}
use Rattle.suggested.proofs.Turns.{component_here, others_suggested, turn_end, turn_full, turn_next}
use Rattle.suggested.proofs.add_components.Goals as goal

pub add_component-requires : goal.add_component-requires
add_component-requires c =
    let i = c.loop-component.component in
    let end = c.args.place.component + c.args.n in
    let held = c.requires.held in
    let k = c.loop-component.invariant.left held.ms held.was held.holds in
    record {
      component = component_here (end - i) (end - (i + 1)) i _ _ _ _ (omega arith) _ c.loop-component.invariant.inside;
      roomy = record {
        starts_hold = omega (arith, c.loop-component.invariant.roomy);
        before_hold = omega (arith, c.loop-component.invariant.roomy);
        counts_hold = c.loop-component.invariant.roomy.counts_hold;
        others_hold = c.loop-component.invariant.roomy.others_hold;
        probability_hold = c.loop-component.invariant.roomy.probability_hold;
      };
      held = record { ms = k.model; was = held.was; holds = k.holds };
    }

pub returns-in_err-sized : goal.returns-in_err-sized
returns-in_err-sized c = record {
  same = same_then c.loop-component.invariant.same c.add_component.ensures.same;
  added = λ so_far was h. let k = c.loop-component.invariant.left so_far was h in
      rw c.from_residual.ensures (turn_full _ _ _ _ _ _ _ _ _ _ _ _ k c.loop-component-test.true c.add_component.new.ms (c.in_err-sized.ensures.added k.model was k.holds));
}

pub loop-component-preserved : goal.loop-component-preserved
loop-component-preserved c =
    let i = c.loop-component.component in
    let end = c.args.place.component + c.args.n in
    let held = c.requires.held in
    let m = c.loop-component.invariant.left held.ms held.was held.holds in
    let few = (turn_next _ _ _ _ _ _ _ _ _ _ _ _ m c.loop-component-test.true c.add_component.new.ms _ (c.in_ok-sized.ensures.added m.model held.was m.holds)).1 in
    let same = c.add_component.ensures.same in
    record {
      same = same_then c.loop-component.invariant.same same;
      inside = rw same.last_of_long (others_suggested (end - i) (end - (i + 1)) i _ _ _ _ (omega arith) _ c.loop-component.invariant.inside);
      roomy = record {
        starts_hold = omega (arith, c.loop-component.invariant.roomy, few, same);
        before_hold = omega (arith, c.loop-component.invariant.roomy, few, same);
        counts_hold = omega (arith, c.loop-component.invariant.roomy, same);
        others_hold = omega (arith, c.loop-component.invariant.roomy, same);
        probability_hold = omega (arith, c.loop-component.invariant.roomy, same);
      };
      left = λ so_far was h. let k = c.loop-component.invariant.left so_far was h in
          (turn_next _ _ _ _ _ _ _ _ _ _ _ _ k c.loop-component-test.true c.add_component.new.ms _ (c.in_ok-sized.ensures.added k.model was k.holds)).0;
    }

pub returns-clause-added : goal.returns-clause-added
returns-clause-added c = λ so_far was h. turn_end _ _ _ _ _ _ _ _ _ _ _ _ (c.loop-component.invariant.left so_far was h) c.loop-component-test.false
