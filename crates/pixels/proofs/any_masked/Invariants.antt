use mathlib.Core.Path.{◌≡◌}
use Prim.Native.Nat.{◌-◌, ◌≤◌}
use Rattle.roots.specs.Many.{side}
use Rattle.pixels.specs.Blocks.{Unasked}
use Rattle.pixels.proofs.any_masked.Given as goal

abbrev pub invariant-loop-i : goal.invariant-loop-i
invariant-loop-i l = (l.i ≤ side) × (l.any ≡ 0 → Unasked l.mask l.base l.i)

abbrev pub decreases-loop-i : goal.decreases-loop-i
decreases-loop-i l = side - l.i
