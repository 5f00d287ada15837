-- `root::significand` meets its contract: the number under the root has 47 or 48 bits, so its root has 24. Assumes nothing.
use Rattle.std.proofs.Common.{arith}
use Rattle.root.proofs.Squares.{under, rounded}
use Rattle.root.proofs.significand.Goals as goal

pub overflow_mul-m : goal.overflow_mul-m
overflow_mul-m c = omega (arith, under c.args.m c.args.k (omega arith) (omega arith))

pub settle-requires : goal.settle-requires
settle-requires c = let u = under c.args.m c.args.k (omega arith) (omega arith) in (omega arith, omega arith, omega arith)

pub returns : goal.returns
returns c = rounded c.args.m c.args.k c.settle.result (omega arith) (omega arith) c.settle.ensures
