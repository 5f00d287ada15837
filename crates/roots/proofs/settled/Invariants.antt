use Rattle.std.proofs.Common.{◌≡◌, ◌-◌, ◌≤◌, length}
use Rattle.roots.specs.Many.{side, Leaves}
use Rattle.roots.proofs.settled.Given as goal

abbrev pub invariant-loop-i : goal.invariant-loop-i
invariant-loop-i l = (l.i ≤ side) × (l.open ≤ l.i) × (length l.roots ≡ length l.initial.roots) × Leaves l.bits l.roots l.open l.i

abbrev pub decreases-loop-i : goal.decreases-loop-i
decreases-loop-i l = side - l.i
