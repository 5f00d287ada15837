use Prim.Native.Nat.{ℕ, ◌-◌}
use Rattle.lists.proofs.Each.{Entering}
use Rattle.roots.specs.Many.{side}
use Rattle.pixels.specs.Inner.{number_bits}
use Rattle.pixels.specs.Blocks.{IsNat, lost_flag}
use Rattle.pixels.proofs.number_bits.Given as goal

abbrev pub invariant-loop-i : goal.invariant-loop-i
invariant-loop-i l =
    Entering (IsNat (number_bits l.numbers)) 0 side l.initial.bits l.bits l.i × Entering (IsNat (λ (i : ℕ). lost_flag (number_bits l.numbers i))) 0 side l.initial.flags l.flags l.i

abbrev pub decreases-loop-i : goal.decreases-loop-i
decreases-loop-i l = side - l.i
