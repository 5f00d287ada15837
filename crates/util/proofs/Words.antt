-- Bounds of words and combined words; exchanging the bytes twice restores a word. Assumes nothing.
use Prim.Native.Nat.{ℕ, ◌*◌, ◌<◌}
use mathlib.Core.Path.{◌≡◌}
use native.Mathlib.Omega.{arith}
use lib.Bits.{or_lt}
use Rattle.util.specs.Words.{big_endian, swapped}
use Rattle.util.specs.Fields.{combined}

pub big-endian-lt : (high low : ℕ) → high < 256 → low < 256 → big_endian high low < 65536
big-endian-lt high low h l = omega arith

pub swapped-twice : (high low : ℕ) → high < 256 → low < 256 → swapped (big_endian low high) ≡ big_endian high low
swapped-twice high low h l = omega arith

-- two data values of 11 bits combine to a number of 16 bits
pub combined-lt : (upper lower : ℕ) → upper < 2048 → lower < 2048 → combined upper lower < 65536
combined-lt upper lower h l = or_lt 16 (upper * 32) lower (omega arith) (omega arith)
