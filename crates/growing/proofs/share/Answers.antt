-- `growing::share` meets its contract.
use lib.Ieee.{of_bits}
use Rattle.std.proofs.Common.{rules}
use Rattle.growing.proofs.share.Goals as goal

pub returns-then-n-eq2 : goal.returns-then-n-eq2
unfolding of_bits
returns-then-n-eq2 c = search rules
