use Rattle.std.proofs.Common.{◌≡◌, sym, ap, ◌∙◌, arith}
use Rattle.cover.specs.Search.{highest}
use Rattle.cover.specs.Lent.{equal_in}
use Rattle.cover.proofs.Turn.{highest_hit, highest_miss, highest_none}
use Rattle.cover.proofs.earlier_equal.Goals as goal

pub returns-then-equal_at : goal.returns-then-equal_at
returns-then-equal_at c = sym (highest_hit (λ i. equal_in c.args.c.now i c.args.j) c.loop-i.i c.loop-i-test.true (sym c.if-equal_at.ensures)) ∙ c.loop-i.invariant

pub loop-i-preserved : goal.loop-i-preserved
loop-i-preserved c = sym (highest_miss (λ i. equal_in c.args.c.now i c.args.j) c.loop-i.i c.loop-i-test.true (sym c.if-equal_at.ensures)) ∙ c.loop-i.invariant

pub returns : goal.returns
returns c = let z : c.loop-i.i ≡ 0 = omega arith in sym (highest_none (λ i. equal_in c.args.c.now i c.args.j)) ∙ ap (highest (λ i. equal_in c.args.c.now i c.args.j)) (sym z) ∙ c.loop-i.invariant
