use Rattle.columns.proofs.Columns.{keep_length}
use Rattle.cells.specs.Tables.{active}
use Rattle.growth_round.proofs.Settling.{growing, ready, merging, settled}
use Rattle.growth_round.proofs.settle.Goals as goal

pub least-step-requires-clause-growing : goal.least-step-requires-clause-growing
least-step-requires-clause-growing c = growing (active c.args.t.now.stacks.now) c.args.a c.requires.settling _ c.requires.settling.weights

pub grow-k-requires-clause-growing : goal.grow-k-requires-clause-growing
grow-k-requires-clause-growing c = growing (active c.args.t.now.stacks.now) c.args.a c.requires.settling _ c.requires.settling.weights

pub merge-requires : goal.merge-requires
merge-requires c =
    record {
      ready = ready (active c.args.t.now.stacks.now) c.args.a c.requires.settling;
      merging = merging (active c.args.t.now.stacks.now) c.args.a c.requires.settling c.least-step.ensures c.grow-k.ensures.0 (keep_length c.grow-k.ensures.1 2);
    }

pub returns-clause-settled : goal.returns-clause-settled
returns-clause-settled c =
    settled (active c.args.t.now.stacks.now) c.args.a c.requires.settling c.least-step.ensures c.grow-k.ensures.0 (keep_length c.grow-k.ensures.1 2) c.merge.ensures.0

pub returns-clause-others : goal.returns-clause-others
returns-clause-others c = (c.merge.ensures.1, c.merge.ensures.2, c.merge.ensures.3, c.grow-k.ensures.1)
