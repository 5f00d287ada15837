use Rattle.std.proofs.Common.{◌≡◌, ℕ, ◌-◌, ◌≤◌, length, get_or}
use lib.Ieee.{nan}
use Rattle.lists.specs.Each.{Each}
use Rattle.roots.specs.Many.{side, IsRoot}
use Rattle.roots.proofs.complete.Given as goal

abbrev pub invariant-loop-i : goal.invariant-loop-i
invariant-loop-i l = (l.i ≤ side) × (length l.roots ≡ length l.initial.roots)
    × Each (IsRoot l.x) nan l.roots l.i × ((k : ℕ) → l.i ≤ k → get_or l.roots k nan ≡ get_or l.initial.roots k nan)

abbrev pub decreases-loop-i : goal.decreases-loop-i
decreases-loop-i l = side - l.i
