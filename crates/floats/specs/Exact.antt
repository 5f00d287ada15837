-- A float that equals a given fraction, with no rounding. Assumes nothing.
use Rattle.std.specs.Prelude.{ℕ, suc, ◌^◌, true, false, ℤ, pos, negsuc, Float}
use Rattle.std.specs.Float.Ieee.Exact.{HasValue}

-- x is finite and equals z / 2 ^ e exactly; if z is 0, x is +0
abbrev pub Exactly : Float → ℤ → ℕ → Type 0
Exactly x (pos n) e = HasValue x false n (2 ^ e)
Exactly x (negsuc n) e = HasValue x true (suc n) (2 ^ e)
