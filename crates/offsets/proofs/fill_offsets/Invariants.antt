use Prim.Native.Nat.{ℕ, ◌+◌, ◌-◌}
use Rattle.lists.proofs.Fill.{Filling}
use Rattle.card.specs.Inner.{at}
use Rattle.offsets.specs.Offsets.{offset_at}
use Rattle.offsets.proofs.fill_offsets.Given as goal

abbrev pub invariant-loop-i : goal.invariant-loop-i
invariant-loop-i l = Filling (λ (k : ℕ). offset_at (at l.words) (l.first + k)) 192 l.initial.table l.table l.i

abbrev pub decreases-loop-i : goal.decreases-loop-i
decreases-loop-i l = 192 - l.i
