-- `root::whole::settle` meets its contract: a difference below 2 * start has not wrapped, so `Rounds` holds; or else the result is `walk`'s. Assumes nothing.
use Rattle.std.proofs.Common.{arith}
use Rattle.root.proofs.Squares.{square_le}
use Rattle.root.proofs.whole.settle.Goals as goal

pub overflow_mul-start : goal.overflow_mul-start
overflow_mul-start c = omega (arith, square_le {a = c.args.start} {b = 0xFFFFFFFF} (omega arith))

pub overflow_add-start : goal.overflow_add-start
overflow_add-start c = omega (arith, square_le {a = c.args.start} {b = 0xFFFFFFFF} (omega arith))
