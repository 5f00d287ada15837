-- `root::lifted` meets its contract: a subnormal is shifted until its highest bit is bit 23, and its exponent falls by as much. Assumes nothing.
use Rattle.std.proofs.Common.{refl, arith}
use Rattle.root.proofs.Magnitude.{shifted, lifted-small, lifted-normal}
use Rattle.root.proofs.lifted.Goals as goal

pub overflow_sub-z : goal.overflow_sub-z
overflow_sub-z c = omega (arith, shifted c.args.b (omega arith) (omega arith))

pub overflow_add-result : goal.overflow_add-result
overflow_add-result c = omega (arith, shifted c.args.b (omega arith) (omega arith))

pub returns-then-b-lt8388608 : goal.returns-then-b-lt8388608
returns-then-b-lt8388608 c = lifted-small c.args.b _ refl (omega arith) (omega arith)

pub returns : goal.returns
returns c = lifted-normal c.args.b (omega arith) (omega arith)
