use Prim.Native.Nat.{◌-◌}
use Rattle.lists.proofs.Fill.{Filling}
use Rattle.card.specs.Inner.{high_at, low_at}
use Rattle.card.proofs.split_bytes.Given as goal

abbrev pub invariant-loop-i : goal.invariant-loop-i
invariant-loop-i l = Filling (high_at l.image l.first) l.n l.initial.high l.high l.i × Filling (low_at l.image l.first) l.n l.initial.low l.low l.i

abbrev pub decreases-loop-i : goal.decreases-loop-i
decreases-loop-i l = l.n - l.i
