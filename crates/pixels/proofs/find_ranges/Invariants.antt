use Prim.Native.Nat.{ℕ, ◌-◌, ◌≤◌}
use mathlib.Core.Path.{◌≡◌}
use lib.ListN.{length}
use Rattle.lists.specs.Each.{Each}
use Rattle.lists.specs.Last.{last_below}
use Rattle.roots.specs.Many.{side}
use Rattle.ranges.specs.Corners.{reaches}
use Rattle.pixels.specs.Inner.{v}
use Rattle.pixels.specs.Blocks.{IsNat}
use Rattle.pixels.proofs.find_ranges.Given as goal

abbrev pub invariant-loop-range : goal.invariant-loop-range
invariant-loop-range l =
    (l.range ≤ l.ranges) × (length l.found ≡ length l.initial.found) × Each (IsNat (λ (i : ℕ). last_below (reaches l.corners (v l.basic i)) 0 l.range)) 0 l.found side

abbrev pub decreases-loop-range : goal.decreases-loop-range
decreases-loop-range l = l.ranges - l.range
