-- `floats::exp2` meets its contract: the bits are right for e below 128 and from there on. Assumes nothing.
use native.Mathlib.Omega.{arith}
use mathlib.Core.Path.{sym, ◌∙◌}
use Rattle.floats.proofs.Nan.{number-below}
use Rattle.floats.proofs.Power.{power-bits, power-above, infinity-bits}
use Rattle.floats.proofs.exp2.Goals as goal

pub float_from_bits-result : goal.float_from_bits-result
float_from_bits-result c = number-below _ (omega arith)

pub float_from_bits-result-else-e-lt128 : goal.float_from_bits-result-else-e-lt128
float_from_bits-result-else-e-lt128 c = number-below 0x7F800000 (omega arith)

pub returns-then-e-lt128 : goal.returns-then-e-lt128
returns-then-e-lt128 c = power-bits _ (omega arith)

pub returns-else-e-lt128 : goal.returns-else-e-lt128
returns-else-e-lt128 c = infinity-bits ∙ sym (power-above _ (omega arith))
