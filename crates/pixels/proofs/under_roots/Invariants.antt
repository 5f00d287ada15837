use Prim.Native.Nat.{ℕ, ◌+◌, ◌-◌}
use lib.Ieee.{nan}
use Rattle.lists.proofs.Each.{Entering}
use Rattle.roots.specs.Many.{side}
use Rattle.pixels.specs.Inner.{under_at, v}
use Rattle.pixels.specs.Blocks.{is}
use Rattle.pixels.proofs.under_roots.Given as goal

abbrev pub invariant-loop-i : goal.invariant-loop-i
invariant-loop-i l = Entering (is (λ (i : ℕ). under_at l.common l.alpha (v l.numbers i) (l.base + i))) nan side l.initial.under l.under l.i

abbrev pub decreases-loop-i : goal.decreases-loop-i
decreases-loop-i l = side - l.i
