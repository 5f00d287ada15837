use Prim.Native.Nat.{ℕ, ◌-◌, ◌≤◌}
use mathlib.Core.Path.{◌≡◌}
use lib.ListN.{get_or}
use lib.Ieee.{le}
use Rattle.lists.specs.Pick.{pick}
use Rattle.lists.proofs.Each.{Entering}
use Rattle.roots.specs.Many.{side}
use Rattle.pixels.specs.Inner.{v}
use Rattle.pixels.specs.Blocks.{IsNat}
use Rattle.pixels.proofs.raise_ranges.Given as goal

abbrev pub invariant-loop-i : goal.invariant-loop-i
invariant-loop-i l =
    Entering (IsNat (λ (i : ℕ). pick (le l.corner (v l.basic i)) l.range (get_or l.initial.found i 0))) 0 side l.initial.found l.found l.i × ((k : ℕ) → l.i ≤ k → get_or l.found k 0 ≡ get_or l.initial.found k 0)

abbrev pub decreases-loop-i : goal.decreases-loop-i
decreases-loop-i l = side - l.i
