-- The special cases of the fourth root, as `powf` has them, and its definition for any other number. Assumes nothing.
use Rattle.std.proofs.Common.{◌≡◌, ℕ, ◌<◌, Bool, true, false, T, ℤ, pos, refl}
use lib.Ieee.{Float, nan, inf, fin}
use lib.Ieee.Exact.{HasValue}
use lib.Ieee.Positive.{positive}
use Rattle.root.specs.Root.{square_root, root}
use Rattle.root.proofs.Values.{positive-root, negative-root}

pub root-of-nan : root nan ≡ nan
unfolding root
root-of-nan = refl

-- either infinity gives +infinity
pub root-of-infinity : (s : Bool) → root (inf s) ≡ inf false
unfolding root
root-of-infinity s = refl

-- either zero gives +0
pub root-of-zero : (s : Bool) (e : ℤ) → root (fin s 0 e) ≡ fin false 0 (pos 0)
unfolding root
root-of-zero s e = refl

-- any other number below zero gives NaN
pub root-below-zero : (x : Float) (a c : ℕ) → 0 < a → HasValue x true a c → root x ≡ nan
root-below-zero x a c p h = negative-root x a c p h

-- any other number above zero gives two square roots
pub root-above-zero : (x : Float) → T (positive x) → root x ≡ square_root (square_root x)
root-above-zero x p = positive-root x p
