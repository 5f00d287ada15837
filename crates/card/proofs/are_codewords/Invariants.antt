use Prim.Native.Nat.{◌-◌}
use Rattle.card.proofs.Stretch.{Looked}
use Rattle.card.proofs.are_codewords.Given as goal

abbrev pub invariant-loop-i : goal.invariant-loop-i
invariant-loop-i l = Looked l.image l.first l.n l.any l.i

abbrev pub decreases-loop-i : goal.decreases-loop-i
decreases-loop-i l = l.n - l.i
