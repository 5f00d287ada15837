-- The square root and the fourth root of a binary32, and the temperature. Assumes nothing.
use Rattle.std.specs.Prelude.{ℕ, zero, suc, ◌+◌, ◌-◌, ◌*◌, ◌/◌, ◌%◌, ◌^◌, Bool, true, false, pos, from_bits, nat_lt, to_bits, Float}
use Rattle.std.specs.Float.{nan, inf, fin, binary32}
use Rattle.lists.specs.Pick.{pick}
use Rattle.floats.specs.Floats.{◌⊖◌}
use Rattle.floats.specs.Constants.{freezing}

-- the number with exponent field x and fraction bits t, in units of 2 ^ -149, the smallest positive binary32
unfoldable pub field : ℕ → ℕ → ℕ
field zero t = t
field (suc x) t = (2 ^ 23 + t) * 2 ^ x

-- the number with the bits p, which have no sign bit, in the same units
unfoldable pub magnitude : ℕ → ℕ
unfolding field
magnitude p = field (p / 2 ^ 23) (p % 2 ^ 23)

-- Whether the midpoint of the numbers with bits r - 1 and r is below the square root of the number with bits b. Twice the midpoint is squared here, and 2 ^
-- 149 converts to units of squares.
abbrev pub reaches : ℕ → ℕ → Bool
reaches b r = nat_lt ((magnitude (r - 1) + magnitude r) * (magnitude (r - 1) + magnitude r)) (4 * (magnitude b * 2 ^ 149))

-- the largest of r .. r + 2 ^ k - 1 that the root reaches, if it reaches r; found bit by bit, the highest first
unfoldable pub climb : ℕ → ℕ → ℕ → ℕ
climb b zero r = r
climb b (suc k) r = climb b k (r + pick (reaches b (r + 2 ^ k)) (2 ^ k) 0)

-- The bits of the binary32 nearest to the square root of the number with bits b: the largest that the root reaches.
unfoldable pub root_pattern : ℕ → ℕ
unfolding climb
root_pattern b = climb b 31 0

-- for a positive finite number, the binary32 nearest to its square root (`NearestRoot` states this without bits); `root` applies it to nothing else
unfoldable pub square_root : Float → Float
unfolding root_pattern
square_root x = from_bits binary32 (root_pattern (to_bits binary32 x))

-- the fourth root: two square roots, with the special cases of `powf`
unfoldable pub root : Float → Float
unfolding square_root
root nan = nan
root (inf s) = inf false
root (fin s zero e) = fin false 0 (pos 0)
root (fin true (suc m) e) = nan
root (fin false (suc m) e) = square_root (square_root (fin false (suc m) e))

-- the temperature in degrees Celsius, from the final value X
unfoldable pub celsius : Float → Float
unfolding root
celsius x = root x ⊖ freezing
