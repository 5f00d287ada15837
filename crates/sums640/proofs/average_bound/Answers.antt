-- `sums640::average_bound` meets its contract, for bits below 32768 (a positive number or 0) and above (a negative one). Assumes nothing.
use mathlib.Core.Path.{◌≡◌, ap}
use Prim.Native.Nat.{ℕ, ◌+◌, ◌-◌, ◌<◌, ◌≤◌}
use native.Mathlib.Omega.{arith}
use lib.Signed.{mag}
use Rattle.util.specs.Fields.{signed}
use Rattle.util.proofs.Width.{signed_low, signed_high}
use Rattle.sums640.proofs.average_bound.Goals as goal

low : (n : ℕ) → n < 32768 → n + 1 ≡ mag (signed 16 n) + 1
low n h = omega (arith, ap mag (signed_low 16 n (omega arith)))

high : (n : ℕ) → 32768 ≤ n → n < 65536 → 65536 - n ≡ mag (signed 16 n) + 1
high n h l = omega (arith, ap mag (signed_high 16 n (omega arith)))

pub returns-then-bits-lt32768 : goal.returns-then-bits-lt32768
returns-then-bits-lt32768 c = let e = c.wide-bits.ensures in (rw e (low _ (omega arith)), omega arith)

pub returns-else-bits-lt32768 : goal.returns-else-bits-lt32768
returns-else-bits-lt32768 c = let e = c.wide-bits.ensures in (rw e (high _ (omega arith) (omega arith)), omega arith)
