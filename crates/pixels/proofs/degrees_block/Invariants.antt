use Prim.Native.Nat.{ℕ, ◌-◌, ◌≤◌, ◌<◌}
use lib.ListN.{get_or}
use lib.Ieee.{nan}
use Rattle.lists.proofs.Each.{Entering}
use Rattle.roots.specs.Many.{side, IsRoot}
use Rattle.pixels.specs.Inner.{celsius_at}
use Rattle.pixels.specs.Blocks.{is}
use Rattle.pixels.proofs.degrees_block.Given as goal

abbrev pub invariant-loop-i : goal.invariant-loop-i
invariant-loop-i l =
    Entering (is (celsius_at l.values)) nan side l.initial.temperatures l.temperatures l.i × ((k : ℕ) → l.i ≤ k → k < side → IsRoot l.values k (get_or l.temperatures k nan))

abbrev pub decreases-loop-i : goal.decreases-loop-i
decreases-loop-i l = side - l.i
