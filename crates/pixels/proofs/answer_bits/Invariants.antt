use Prim.Native.Nat.{ℕ, ◌-◌}
use Rattle.lists.proofs.Each.{Entering}
use Rattle.roots.specs.Many.{side}
use Rattle.pixels.specs.Inner.{answers_from}
use Rattle.pixels.specs.Blocks.{IsNat, lost_flag}
use Rattle.pixels.proofs.answer_bits.Given as goal

abbrev pub invariant-loop-i : goal.invariant-loop-i
invariant-loop-i l =
    Entering (IsNat (answers_from l.temperatures l.numbers)) 0 side l.initial.bits l.bits l.i × Entering (IsNat (λ (i : ℕ). lost_flag (answers_from l.temperatures l.numbers i))) 0 side l.initial.flags l.flags l.i

abbrev pub decreases-loop-i : goal.decreases-loop-i
decreases-loop-i l = side - l.i
