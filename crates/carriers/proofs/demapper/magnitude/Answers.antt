use Rattle.std.proofs.Common.{rules}
use lib.Ieee.{of_bits}
use Rattle.carriers.proofs.demapper.magnitude.Goals as goal

-- 0.0 by its bits is zero
pub returns-then-x : goal.returns-then-x
unfolding of_bits
returns-then-x c = search rules

pub returns-else-x : goal.returns-else-x
unfolding of_bits
returns-else-x c = search rules
