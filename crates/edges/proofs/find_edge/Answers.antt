-- `edges::find_edge`: what is found at a place of the chain, and past it.
use mathlib.Core.Path.{sym, ◌∙◌}
use Rattle.edges.proofs.Chains.{start_link, start_onward, link_below, next_link, next_less, onward_found, onward_next, onward_end}
use Rattle.edges.proofs.find_edge.Goals as goal

pub loop-at-init : goal.loop-at-init
loop-at-init c = (start_link c.requires.4 c.args.u c.requires.0, start_onward c.requires.4 c.args.u c.args.v c.requires.0)

pub returns-then-same_ends : goal.returns-then-same_ends
returns-then-same_ends c =
    let (below, first) = link_below c.requires.4 c.args.u c.loop-at.at c.loop-at.invariant.0 c.loop-at-test.true in
    sym (onward_found c.requires.4 c.args.u c.args.v c.loop-at.at below (sym c.same_ends.ensures ∙ c.if-same_ends.true)) ∙ c.loop-at.invariant.1

pub loop-at-smaller : goal.loop-at-smaller
loop-at-smaller c =
    let (below, first) = link_below c.requires.4 c.args.u c.loop-at.at c.loop-at.invariant.0 c.loop-at-test.true in
    next_less c.requires.4 c.args.u c.loop-at.at below first

pub loop-at-preserved : goal.loop-at-preserved
loop-at-preserved c =
    let (below, first) = link_below c.requires.4 c.args.u c.loop-at.at c.loop-at.invariant.0 c.loop-at-test.true in
    (next_link c.requires.4 c.args.u c.loop-at.at below first, onward_next c.requires.4 c.args.u c.args.v c.loop-at.at below first (sym c.same_ends.ensures ∙ c.if-same_ends.false) ∙ c.loop-at.invariant.1)

pub returns : goal.returns
returns c = sym (onward_end c.args.edges.now.edge_u.now c.args.edges.now.edge_v.now c.args.u c.args.v c.loop-at.at c.loop-at-test.false) ∙ c.loop-at.invariant.1
