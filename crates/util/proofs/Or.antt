-- If the OR of two numbers is 0, both are 0. Assumes nothing.
use Prim.Native.Nat.{ℕ}
use mathlib.Core.Path.{◌≡◌}
use native.Mathlib.Omega.{arith}
use lib.Bits.{bit_or, or_add_and, and_le_l, and_le_r}

pub left-none : (a b : ℕ) → bit_or a b ≡ 0 → a ≡ 0
left-none a b e = let s = or_add_and a b in let l = and_le_r a b in omega arith

pub right-none : (a b : ℕ) → bit_or a b ≡ 0 → b ≡ 0
right-none a b e = let s = or_add_and a b in let l = and_le_l a b in omega arith
