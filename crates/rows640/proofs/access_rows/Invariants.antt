use Prim.Native.Nat.{◌-◌}
use lib.Ieee.{nan}
use Rattle.lists.proofs.Each.{Entering}
use Rattle.pixels.specs.Blocks.{is}
use Rattle.rows640.specs.Rows.{two_rows, access_at}
use Rattle.rows640.proofs.access_rows.Given as goal

abbrev pub invariant-loop-k : goal.invariant-loop-k
invariant-loop-k l = Entering (is (access_at l.pattern l.six)) nan two_rows l.initial.rows l.rows l.k

abbrev pub decreases-loop-k : goal.decreases-loop-k
decreases-loop-k l = two_rows - l.k
