-- `split_model::split_all`: what is left to do from the model so far gives the whole.
use mathlib.Core.Path.{◌≡◌}
use Rattle.cover.specs.Lent.{SameCandidates}
use Rattle.dem.specs.Positions.{place_of}
use Rattle.dem.specs.Lent.{tables_of}
use Rattle.suggested.specs.Lent.{SameMechanisms}
use Rattle.split_model.specs.Lent.{columns_in}
use Rattle.split_model.proofs.Turn.{Going}
use Rattle.split_model.proofs.split_all.Given as goal

abbrev pub invariant-loop-i : goal.invariant-loop-i
invariant-loop-i l = record {
  same : SameMechanisms l.initial.ms l.ms;
  same_candidates : SameCandidates l.initial.c l.c;
  place : l.place ≡ place_of l.i (tables_of l.model);
  going : Going l.model.mechanisms (tables_of l.model) (columns_in l.initial.ms) l.room l.fn.size.mechanisms l.i l.sized l.ms;
}
