-- `floats::from_bits` meets its contract: the bits that its test selects are exactly those of NaN. Assumes nothing.
use native.Mathlib.Omega.{arith}
use mathlib.Core.Path.{sym, ◌∙◌}
use Rattle.floats.proofs.Nan.{zero_by_zero, nan-above, number-below}
use Rattle.floats.proofs.from_bits.Goals as goal

pub returns-then-bits-gt2139095040 : goal.returns-then-bits-gt2139095040
returns-then-bits-gt2139095040 c = zero_by_zero ∙ sym (nan-above _ (omega arith))

pub float_from_bits-result : goal.float_from_bits-result
float_from_bits-result c = number-below _ (omega arith)
