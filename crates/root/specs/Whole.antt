-- The contracts of the inner functions, in whole numbers. Assumes nothing.
use Rattle.std.specs.Prelude.{◌≡◌, ℕ, ◌+◌, ◌*◌, ◌/◌, ◌%◌, ◌^◌, ◌<◌, ◌≤◌}
use Rattle.root.specs.Root.{magnitude}

-- q is the whole number nearest to the square root of n: (2 q - 1)² < 4 n < (2 q + 1)², with 4 q moved to the other side of the first. There is no tie, since
-- 4 n is even and the squares are odd.
pub record Rounds (n q : ℕ) : Type 0 where
  pub low : (2 * q) * (2 * q) + 1 < 4 * n + 4 * q
  pub high : 4 * n < (2 * q + 1) * (2 * q + 1)

-- q is the nearest root of m * 2 ^ 23, or of m * 2 ^ 24 if k is odd, and has 24 bits
pub record Digits (m k q : ℕ) : Type 0 where
  pub from : 0x800000 ≤ q
  pub under : q < 0x1000000
  pub rounds : Rounds (m * 0x800000 * (1 + k % 2)) q

-- r holds the bits of the fourth root: q and p are the two roots, from the significand and exponent in w
pub record Twice (w r : ℕ) : Type 0 where
  pub q : ℕ
  pub p : ℕ
  pub first : Digits (w % 0x800000 + 0x800000) (w / 0x800000) q
  pub second : Digits q (w / 0x800000 / 2 + 126) p
  pub sum : r ≡ 0x800000 * ((w / 0x800000 / 2 + 126) / 2) + p

-- w holds the significand of b, normalised, and its exponent
pub record Lifted (b w : ℕ) : Type 0 where
  pub value : magnitude b * 2 ^ 149 ≡ (w % 0x800000 + 0x800000) * 2 ^ (w / 0x800000 + 23)
  pub under : w < 0xBE000000
