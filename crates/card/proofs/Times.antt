-- 32 times a signed number of 11 bits is a signed number of 16 bits. Assumes nothing.
use mathlib.Core.Path.{◌≡◌}
use Prim.Native.Nat.{ℕ, zero, suc, ◌*◌, ◌<◌, ◌≤◌}
use native.Mathlib.Omega.{arith}
use lib.Dec.{lit≤}
use lib.IntN.{ℤ, pos, negsuc, neg_ℤ, ◌*ℤ◌}
use lib.Signed.{mag}
use mir.Syntax.{w16}
use mir.Val.{SFits, to_z, of_z}
use mir.ValLaws.{to_z-of_z}
use Rattle.util.specs.Fields.{signed}
use Rattle.util.proofs.Width.{stands}

minus : (r : ℕ) → r ≤ 32768 → mag (neg_ℤ (pos r)) < 32768
minus zero h = omega arith
minus (suc r) h = omega arith

product : (z : ℤ) → mag z < 1024 → mag (z *ℤ pos 32) < 32768
product (pos n) h = omega arith
product (negsuc n) h = minus (suc n * 32) (omega arith)

pub times-fits : (n : ℕ) → SFits w16 (signed 11 n *ℤ pos 32)
times-fits n = record { sfits = product (signed 11 n) ((stands 11 (lit≤ tt)).range n) }

pub times-back : (n : ℕ) → to_z w16 (of_z w16 (signed 11 n *ℤ pos 32)) ≡ signed 11 n *ℤ pos 32
times-back n = to_z-of_z w16 (signed 11 n *ℤ pos 32) (times-fits n)
