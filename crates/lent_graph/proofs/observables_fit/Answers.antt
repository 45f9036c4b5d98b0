-- `lent_graph::observables_fit` meets its contract: only the last word has padding.
use Rattle.std.proofs.Common.{arith, sym, refl, rules, ◌%◌}
use Rattle.std.proofs.lemmas.Nat.{one_shl}
use Rattle.bits.proofs.Rows.{clear_last}
use Rattle.lent_graph.proofs.observables_fit.Goals as goal

pub returns-else-tail-eq0 : goal.returns-else-tail-eq0
returns-else-tail-eq0 c = rw (one_shl (c.args.observables % 64) 64 (omega arith)) (sym (clear_last c.args.observables _ _ c.requires c.if-tail-eq0.false refl (search rules)))
