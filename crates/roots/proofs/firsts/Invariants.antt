use Rattle.std.proofs.Common.{◌≡◌, ◌-◌, ◌≤◌, length}
use Rattle.roots.specs.Many.{side}
use Rattle.roots.proofs.firsts.Given as goal

abbrev pub invariant-loop-i : goal.invariant-loop-i
invariant-loop-i l = (l.i ≤ side) × (length l.roots ≡ length l.initial.roots)

abbrev pub decreases-loop-i : goal.decreases-loop-i
decreases-loop-i l = side - l.i
