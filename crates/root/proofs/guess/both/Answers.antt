-- `root::guess::both` meets its contract: the second sum is not NaN, so the first, from which it is computed, is not either. Assumes nothing.
use Rattle.std.proofs.Common.{arith}
use lib.Ieee.{binary64}
use Rattle.floats.proofs.Nan.{same-no-nan}
use Rattle.root.proofs.Numbers.{add_left, add_right, sub-left, mul_left, number-64}
use Rattle.root.proofs.guess.both.Goals as goal

pub float_from_bits-t : goal.float_from_bits-t
float_from_bits-t c = number-64 _ (omega arith)

pub float_to_bits-result : goal.float_to_bits-result
float_to_bits-result c =
    sub-left binary64 _ _ (add_right binary64 _ _ (mul_left binary64 _ _ (add_left binary64 _ _ (same-no-nan _ c.if-second.false))))

pub float_to_bits-result-2 : goal.float_to_bits-result-2
float_to_bits-result-2 c = same-no-nan _ c.if-second.false
