-- A one shifted left within a word of w bits is a power of two. Assumes nothing.
use mathlib.Core.Path.{◌≡◌, ap, ◌∙◌}
use Prim.Native.Nat.{ℕ, ◌*◌, ◌%◌, ◌^◌, ◌<◌}
use native.Mathlib.Nat.{one-mul, mod-eq_of_lt}
use lib.Pow.{pow-lt}

pub one_shifted : (w k : ℕ) → k < w → 1 * 2 ^ k % 2 ^ w ≡ 2 ^ k
one_shifted w k h = ap (λ (n : ℕ). n % 2 ^ w) (one-mul (2 ^ k)) ∙ mod-eq_of_lt (pow-lt h)
