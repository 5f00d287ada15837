-- `ranges::coefficients` meets its contract: those from the basic range up, and then those below it. Assumes nothing.
use Rattle.std.proofs.Common.{arith}
use Rattle.ranges.proofs.Climb.{together}
use Rattle.ranges.proofs.coefficients.Goals as goal

pub returns : goal.returns
returns c = together _ _ _ _ (omega arith) (omega arith) c.upward.ensures c.downward.ensures
