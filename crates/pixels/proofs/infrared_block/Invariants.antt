use Prim.Native.Nat.{ℕ, ◌+◌, ◌-◌}
use lib.ListN.{get_or}
use lib.Ieee.{nan}
use Rattle.lists.proofs.Each.{Entering}
use Rattle.roots.specs.Many.{side}
use Rattle.pixels.specs.Inner.{raw_of}
use Rattle.pixels.specs.Blocks.{is}
use Rattle.pixels.proofs.infrared_block.Given as goal

abbrev pub invariant-loop-i : goal.invariant-loop-i
invariant-loop-i l =
    Entering (is (λ (i : ℕ). raw_of l.common l.deduction l.lists.pixels.now l.lists.offsets.now l.lists.k_ta.now (l.base + i) (get_or l.k_v (l.k_v_base + i) nan) (get_or l.access (l.access_base + i) nan))) nan side l.initial.numbers l.numbers l.i

abbrev pub decreases-loop-i : goal.decreases-loop-i
decreases-loop-i l = side - l.i
