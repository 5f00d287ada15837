use Rattle.std.proofs.Common.{◌≡◌, ℕ, ◌-◌, Bool, List, ℤ}
use Rattle.std.specs.Prelude.{int_le}
use Rattle.lists.specs.First.{first_from}
use Rattle.ranges.specs.Corners.{corner_at, unrisen}
use Rattle.ranges.proofs.first_unrisen.Given as goal

abbrev pub stands : List ℤ → ℕ → Bool
stands corners r = int_le (corner_at corners r) (corner_at corners (r - 1))

abbrev pub invariant-loop-range : goal.invariant-loop-range
invariant-loop-range l = first_from (stands l.corners) l.range (l.ranges - l.range) ≡ unrisen l.ranges l.corners
