-- `gates::length_gate` meets its contract: each return is one line of the definition. Assumes nothing.
use borrow.Author.Tests.{lt-ltb, le-ltb}
use Prim.Native.Nat.{◌*◌}
use native.Mathlib.Omega.{arith}
use Rattle.refusal.specs.Order.{first_of}
use Rattle.gates.specs.Gate.{length_tests}
use Rattle.gates.proofs.length_gate.Goals as goal

pub returns-then-lengths : goal.returns-then-lengths
unfolding length_tests first_of
returns-then-lengths c = rw (lt-ltb c.args.lengths.table c.args.lengths.size (omega arith))

pub returns-then-lengths-2 : goal.returns-then-lengths-2
unfolding length_tests first_of
returns-then-lengths-2 c = rw (le-ltb c.args.lengths.table c.args.lengths.size (omega arith), lt-ltb c.args.lengths.pixels (2 * c.args.lengths.size) (omega arith))

pub returns-then-lengths-3 : goal.returns-then-lengths-3
unfolding length_tests first_of
returns-then-lengths-3 c =
    rw (
      le-ltb c.args.lengths.table c.args.lengths.size (omega arith),
      le-ltb c.args.lengths.pixels (2 * c.args.lengths.size) (omega arith),
      lt-ltb c.args.lengths.destination c.args.lengths.size (omega arith),
    )

pub returns-then-lengths-4 : goal.returns-then-lengths-4
unfolding length_tests first_of
returns-then-lengths-4 c =
    rw (
      le-ltb c.args.lengths.table c.args.lengths.size (omega arith),
      le-ltb c.args.lengths.pixels (2 * c.args.lengths.size) (omega arith),
      le-ltb c.args.lengths.destination c.args.lengths.size (omega arith),
      lt-ltb c.args.lengths.mask c.args.lengths.size (omega arith),
    )

pub returns : goal.returns
unfolding length_tests first_of
returns c =
    rw (
      le-ltb c.args.lengths.table c.args.lengths.size (omega arith),
      le-ltb c.args.lengths.pixels (2 * c.args.lengths.size) (omega arith),
      le-ltb c.args.lengths.destination c.args.lengths.size (omega arith),
      le-ltb c.args.lengths.mask c.args.lengths.size (omega arith),
    )
