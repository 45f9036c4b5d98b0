-- `graphlike::check`: the limits, the model's tables, the other slices, the mechanisms.
use mathlib.Core.Path.{refl, sym, ◌∙◌}
use mathlib.Core.Bool.{true, false}
use Rattle.codes.proofs.Checks.{counts_within, unless_accepted}
use Rattle.dem.proofs.Laws.{counted}
use Rattle.graphlike.proofs.Answers.{by_lengths}
use Rattle.graphlike.proofs.check.Goals as goal

pub totals-end-requires : goal.totals-end-requires
totals-end-requires c = counted _ _ (counts_within _ _ _ (sym c.in_ok-check_counts.ensures)).2 (unless_accepted _ _ (sym c.in_ok-check_tables.ensures))

pub returns-then-not-output_long : goal.returns-then-not-output_long
returns-then-not-output_long c =
    sym (by_lengths _ _ _ _ _ _ (sym c.in_ok-check_counts.ensures) (unless_accepted _ _ (sym c.in_ok-check_tables.ensures)) false _ _ c.totals-end.ensures (sym c.if-not-output_long.true ∙ c.output_long.ensures) refl)

pub returns : goal.returns
returns c =
    c.check_mechanisms.ensures
    ∙ sym (by_lengths _ _ _ _ _ _ (sym c.in_ok-check_counts.ensures) (unless_accepted _ _ (sym c.in_ok-check_tables.ensures)) true true _ c.totals-end.ensures (sym c.if-not-output_long.false ∙ c.output_long.ensures) (sym c.if-not-scratch_long.false ∙ c.scratch_long.ensures))
