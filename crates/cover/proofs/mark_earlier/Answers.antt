use Rattle.std.proofs.Common.{◌∙◌, arith, rules}
use Rattle.cover.specs.Search.{previous}
use Rattle.cover.specs.Lent.{equal_in}
use Rattle.cover.proofs.Turn.{previous_some, previous_nothing}
use Rattle.cover.proofs.Steps.{rows_more}
use Rattle.cover.proofs.Lent.{same_earlier}
use Rattle.cover.proofs.mark_earlier.Goals as goal
use Rattle.cover.proofs.mark_earlier.Goals.{in-Some, in-None}

pub overflow_cast-c : goal.overflow_cast-c
overflow_cast-c c = omega (arith, (previous_some (λ i. equal_in c.loop-j.c i c.loop-j.j) c.loop-j.j c.in-Some.i c.in-Some.ensures).0, c.requires.0)

pub overflow_add-c : goal.overflow_add-c
overflow_add-c c = omega (arith, (previous_some (λ i. equal_in c.loop-j.c i c.loop-j.j) c.loop-j.j c.in-Some.i c.in-Some.ensures).0, c.requires.0)

pub loop-j-preserved : goal.loop-j-preserved
loop-j-preserved c =
    let j = c.loop-j.j in
    let r = c.loop-j.invariant in
    let e = same_earlier c.args.c.now c.loop-j.c r.kept j in
    record {
      marked =
          rows_more (λ k. previous (λ i. equal_in c.args.c.now i k) k) c.loop-j.c.earlier.now j _ (omega (arith, c.requires.2, r.same.earlier_long)) r.marked
          (elim c.match-earlier_equal.branch [
            | in-Some w ↦ rw w.c-is ((previous_some (λ i. equal_in c.loop-j.c i j) j _ w.in-Some.ensures).1 ∙ e)
            | in-None w ↦ rw w.c-is (previous_nothing (λ i. equal_in c.loop-j.c i j) j w.in-None.ensures ∙ e)
          ]);
      kept = r.kept;
      same = search rules;
    }
