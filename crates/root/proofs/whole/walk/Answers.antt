-- `root::whole::walk` meets its contract, whatever the start. The first loop leaves n ≤ q * q + q, and the second keeps that and ends at q * q < n + q.
-- Assumes nothing.
use Rattle.std.proofs.Common.{arith}
use Rattle.root.proofs.Squares.{square_le, below, down}
use Rattle.root.proofs.whole.walk.Goals as goal

pub loop-q-init : goal.loop-q-init
loop-q-init c = omega arith

pub overflow_mul-q : goal.overflow_mul-q
overflow_mul-q c = omega (arith, square_le c.loop-q.invariant)

pub overflow_add-q : goal.overflow_add-q
overflow_add-q c = omega (arith, square_le c.loop-q.invariant)

pub overflow_add-q-in-loop-q : goal.overflow_add-q-in-loop-q
overflow_add-q-in-loop-q c = omega arith

pub loop-q-smaller : goal.loop-q-smaller
loop-q-smaller c = omega (arith, below c.loop-q.q 0x1000000 (omega arith))

pub loop-q-preserved : goal.loop-q-preserved
loop-q-preserved c = omega (arith, below c.loop-q.q 0x1000000 (omega arith))

pub loop-q-2-init : goal.loop-q-2-init
loop-q-2-init c = omega arith

pub overflow_add-n : goal.overflow_add-n
overflow_add-n c = omega arith

pub overflow_mul-q-in-loop-q-2 : goal.overflow_mul-q-in-loop-q-2
overflow_mul-q-in-loop-q-2 c = omega (arith, square_le c.loop-q-2.invariant.0)

pub overflow_sub-q : goal.overflow_sub-q
overflow_sub-q c = (down c.args.n c.loop-q-2.q (omega arith) (omega arith)).0

pub loop-q-2-smaller : goal.loop-q-2-smaller
loop-q-2-smaller c = omega (arith, down c.args.n c.loop-q-2.q (omega arith) (omega arith))

pub loop-q-2-preserved : goal.loop-q-2-preserved
loop-q-2-preserved c = (omega arith, (down c.args.n c.loop-q-2.q (omega arith) (omega arith)).1)

pub returns : goal.returns
returns c = record { low = omega arith; high = omega arith }
