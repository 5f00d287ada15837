-- `gates::range_gate` meets its contract: each return is one line of the definition. Assumes nothing.
use borrow.Author.Tests.{le-leb, lt-leb}
use native.Mathlib.Omega.{arith}
use Rattle.refusal.specs.Order.{first_of}
use Rattle.gates.specs.Gate.{range_tests}
use Rattle.gates.proofs.range_gate.Goals as goal

pub returns-then-ranges-basic_range : goal.returns-then-ranges-basic_range
unfolding range_tests first_of
returns-then-ranges-basic_range c = rw (le-leb c.args.ranges c.args.basic_range (omega arith))

pub returns : goal.returns
unfolding range_tests first_of
returns c = rw (lt-leb c.args.ranges c.args.basic_range (omega arith))
