-- Signed fields of up to eight bits, by the fact that util has for every width. Assumes nothing.
use mathlib.Core.Path.{◌≡◌, sym, ap, ◌∙◌}
use Prim.Native.Nat.{ℕ, ◌-◌, ◌%◌, ◌^◌, ◌<◌, ◌≤◌}
use native.Mathlib.Omega.{arith}
use lib.IntN.{ℤ}
use lib.Pow.{pow_mono}
use lib.Signed.{mag}
use mir.Syntax.{w8}
use mir.Val.{to_z, of_z}
use mir.ValLaws.{to_z-of_z}
use Rattle.util.specs.Fields.{signed}
use Rattle.util.proofs.Width.{stands}

-- such a field fits an i8
pub small : (k n : ℕ) → 1 ≤ k → k ≤ 8 → mag (signed k n) < 128
small k n p q =
    let l : 2 ^ (k - 1) ≤ 2 ^ 7 = pow_mono {i = k - 1} {j = 7} (omega arith) in
    let h = (stands k p).range n in
    omega arith

pub back : (k n : ℕ) (z : ℤ) → 1 ≤ k → k ≤ 8 → z ≡ signed k n → to_z w8 (of_z w8 z) ≡ signed k n
back k n z p q e = ap (λ (x : ℤ). to_z w8 (of_z w8 x)) e ∙ to_z-of_z w8 (signed k n) (record { sfits = small k n p q })

-- bits above the field have no effect
pub of_low : (k n : ℕ) → 1 ≤ k → signed k (n % 2 ^ k) ≡ signed k n
of_low k n p = ap (signed k) (sym ((stands k p).bits n)) ∙ (stands k p).only (signed k n) ((stands k p).range n)
