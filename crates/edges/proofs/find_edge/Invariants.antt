-- `edges::find_edge`: what is found from this place of the chain on is what is found at all.
use mathlib.Core.Path.{◌≡◌}
use Rattle.edges.specs.Chains.{last_ends}
use Rattle.edges.proofs.Chains.{onward, Link, fuel}
use Rattle.edges.proofs.find_edge.Given as goal

abbrev pub invariant-loop-at : goal.invariant-loop-at
invariant-loop-at l = Link l.edges.edge_u.now l.u l.count l.at × (onward l.edges.edge_u.now l.edges.edge_v.now l.u l.v l.at ≡ last_ends l.edges.edge_u.now l.edges.edge_v.now l.u l.v l.count)

abbrev pub decreases-loop-at : goal.decreases-loop-at
decreases-loop-at l = fuel l.at
