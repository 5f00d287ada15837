-- `roots::inverse` meets its contract: neither pattern is that of a NaN. Assumes nothing.
use Rattle.std.proofs.Common.{arith}
use Rattle.floats.proofs.Nan.{number-below}
use Rattle.roots.proofs.inverse.Goals as goal

pub float_from_bits-t : goal.float_from_bits-t
float_from_bits-t c = number-below _ (omega arith)

pub float_from_bits-y : goal.float_from_bits-y
float_from_bits-y c = number-below _ (omega arith)
