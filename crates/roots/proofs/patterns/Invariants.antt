use Rattle.std.proofs.Common.{◌-◌}
use lib.Ieee.{nan}
use Rattle.lists.specs.Each.{Each}
use Rattle.lists.proofs.Fill.{Filling}
use Rattle.roots.specs.Many.{side, IsF32, pattern_at}
use Rattle.roots.proofs.patterns.Given as goal

abbrev pub invariant-loop-i : goal.invariant-loop-i
invariant-loop-i l = Filling (pattern_at l.x) side l.initial.bits l.bits l.i × Each IsF32 nan l.x l.i

abbrev pub decreases-loop-i : goal.decreases-loop-i
decreases-loop-i l = side - l.i
