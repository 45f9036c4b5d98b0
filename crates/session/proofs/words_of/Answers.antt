-- `session::words_of`: a row for each edge.
use Prim.Native.Nat.{ℕ, ◌*◌}
use mathlib.Core.Path.{ap}
use native.Mathlib.Omega.{arith}
use Rattle.session.proofs.Fronts.{words_few}
use Rattle.session.proofs.words_of.Goals as goal

pub overflow_mul-result : goal.overflow_mul-result
overflow_mul-result c = omega (arith, words_few c.args.n c.args.observables c.words.result c.requires.0 c.requires.1 c.words.ensures)

pub returns : goal.returns
returns c = ap (λ (w : ℕ). c.args.n * w) c.words.ensures
