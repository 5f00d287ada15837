use Prim.Native.Nat.{ℕ, ◌-◌, ◌≤◌}
use lib.ListN.{get_or}
use Rattle.roots.specs.Many.{side}
use Rattle.pixels.specs.Blocks.{Block}
use Rattle.pixels.proofs.write_block.Given as goal

abbrev pub invariant-loop-i : goal.invariant-loop-i
invariant-loop-i l = (l.i ≤ side) × Block l.mask (λ (i : ℕ). get_or l.bits i 0) l.base l.i l.initial.destination l.destination l.lost

abbrev pub decreases-loop-i : goal.decreases-loop-i
decreases-loop-i l = side - l.i
