-- Definitions for the proofs, by bits: when one number's bits are those of the nearest root of another's. Assumes nothing.
use Rattle.std.proofs.Common.{◌≡◌, ℕ, ◌+◌, ◌-◌, ◌*◌, ◌/◌, ◌%◌, ◌^◌, ◌<◌, ◌≤◌}
use Rattle.root.specs.Root.{magnitude}
use Rattle.root.specs.Whole.{Rounds}

-- r has exponent field k / 2 + 1 and significand q, which is the nearest root of m * 2 ^ 23, or of m * 2 ^ 24 if k is odd
pub record Scaled (m k r : ℕ) : Type 0 where
  pub q : ℕ
  pub sum : r ≡ 0x800000 * (k / 2) + q
  pub from : 0x800000 ≤ q
  pub under : q < 0x1000000
  pub rounds : Rounds (m * 0x800000 * (1 + k % 2)) q

-- the midpoints between r and its two neighbours lie on either side of the root of b; stated by squares
pub record Nearest (b r : ℕ) : Type 0 where
  pub low : (magnitude (r - 1) + magnitude r) * (magnitude (r - 1) + magnitude r) < 4 * (magnitude b * 2 ^ 149)
  pub high : 4 * (magnitude b * 2 ^ 149) < (magnitude r + magnitude (r + 1)) * (magnitude r + magnitude (r + 1))
  pub some : 0 < r
  pub finite : r < 0x7F800000

-- for b's number from 2 ^ 32 up to 2 ^ 36: X is that number times 2 ^ 60, and the fourth root r is q / 32768, with (q - 1)⁴ < X < (q + 1)⁴
pub record Between (b r : ℕ) : Type 0 where
  pub q : ℕ
  pub X : ℕ
  pub sum : r ≡ 0x800000 * 134 + q
  pub from : 0x800000 ≤ q
  pub under : q < 0x1000000
  pub value : magnitude b ≡ X * 2 ^ 89
  pub low : (q - 1) * (q - 1) * ((q - 1) * (q - 1)) < X
  pub high : X < (q + 1) * (q + 1) * ((q + 1) * (q + 1))
