-- `stream::line_end`: no line feed so far.
use mathlib.Core.Path.{◌≡◌}
use mathlib.Core.Bool.{true}
use Rattle.frames.specs.LineLaws.{unended}
use Rattle.stream.specs.Fed.{between}
use Rattle.stream.proofs.line_end.Given as goal

abbrev pub invariant-loop-at : goal.invariant-loop-at
invariant-loop-at l = unended (between l.from l.at l.block) ≡ true
