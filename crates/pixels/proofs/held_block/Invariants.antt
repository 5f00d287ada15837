use Prim.Native.Nat.{ℕ, ◌+◌, ◌-◌}
use lib.Ieee.{nan}
use Rattle.lists.proofs.Each.{Entering}
use Rattle.roots.specs.Many.{side}
use Rattle.pixels.specs.Pixels.{held}
use Rattle.pixels.specs.Blocks.{is}
use Rattle.pixels.proofs.held_block.Given as goal

abbrev pub invariant-loop-i : goal.invariant-loop-i
invariant-loop-i l = Entering (is (λ (i : ℕ). held l.destination (l.base + i))) nan side l.initial.numbers l.numbers l.i

abbrev pub decreases-loop-i : goal.decreases-loop-i
decreases-loop-i l = side - l.i
