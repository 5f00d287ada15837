-- `roots::firsts` meets its contract: a step's root has a pattern, and a list stays as long. Assumes nothing.
use Rattle.std.proofs.Common.{refl, arith, length-set}
use Rattle.floats.proofs.Nan.{number-below}
use Rattle.roots.proofs.firsts.Goals as goal

pub loop-i-init : goal.loop-i-init
loop-i-init c = (omega arith, refl)

pub float_from_bits-t : goal.float_from_bits-t
float_from_bits-t c = number-below _ (omega arith)

pub loop-i-preserved : goal.loop-i-preserved
loop-i-preserved c = (omega arith, simp length-set c.loop-i.invariant.1)

pub returns : goal.returns
returns c = c.loop-i.invariant.1
