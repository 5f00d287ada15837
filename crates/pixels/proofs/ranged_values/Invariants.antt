use Prim.Native.Nat.{ℕ, ◌+◌, ◌-◌}
use lib.ListN.{get_or}
use lib.Ieee.{nan}
use Rattle.lists.proofs.Each.{Entering}
use Rattle.roots.specs.Many.{side}
use Rattle.pixels.specs.Inner.{table, ranged_from, v}
use Rattle.pixels.specs.Blocks.{is}
use Rattle.pixels.proofs.ranged_values.Given as goal

abbrev pub invariant-loop-i : goal.invariant-loop-i
invariant-loop-i l =
    Entering (is (λ (i : ℕ). ranged_from l.common (table l.alpha l.corners l.k_s_to l.coefficients) (v l.numbers i) (l.base + i) (v l.basic i) (get_or l.found i 0))) nan side l.initial.values l.values l.i

abbrev pub decreases-loop-i : goal.decreases-loop-i
decreases-loop-i l = side - l.i
